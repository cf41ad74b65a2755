-- Rows gathered after those that are there.
use Rattle.std.proofs.Common.{◌≡◌, ℕ, ◌+◌, ◌<◌, ◌≤◌, length, List, ◌++◌, map, drop, get_or, Some, refl, ap, sym, ◌∙◌, append_assoc}
use Rattle.std.proofs.lemmas.List.{drop_more, drop_all, append-nil}
use Rattle.pddl_lex.specs.Parses.{parsed, rejected, first, over_two, before}
use Rattle.up_phrase.specs.declared.fault.Fault.{Fault}
use Rattle.up_phrase.specs.Walks.{Checked}
use Rattle.up_phrase.proofs.Steps.{first_over, first_two}
use Rattle.up_effect.specs.Effects.{together}

put : {A : Type 0} (made more : List A) (v rest : Checked (List A)) → before made v ≡ parsed more
    → before made (over_two (λ xs ys. xs ++ ys) v rest) ≡ before more rest
put made more (parsed xs) (parsed ys) e =
    let grown : made ++ xs ≡ more = (let is : parsed (made ++ xs) ≡ parsed more = e in cc) in
    ap parsed (sym (append_assoc made xs ys)) ∙ ap (λ all. parsed (all ++ ys)) grown
put made more (parsed xs) (rejected f fs) e = refl
put made more (rejected f fs) rest e = cc

-- one more part has been read, in a loop that stands at an index
pub together_on : {X A : Type 0} (f : X → Checked (List A)) (items : List X) (index : ℕ) (old made more : List A) (x : X)
    → index < length items → x ≡ get_or items index x → before made (f x) ≡ parsed more
    → before old (together (map f items)) ≡ before made (together (map f (drop index items)))
    → before old (together (map f items)) ≡ before more (together (map f (drop (index + 1) items)))
together_on f items index old made more x within is e so_far =
    so_far ∙ rw (drop_more items index x within, ← is) (put made more (f x) (together (map f (drop (index + 1) items))) e)

pub together_off : {X A : Type 0} (f : X → Checked (List A)) (items : List X) (index : ℕ) (old made : List A) (x : X) (fault : Fault)
    → index < length items → x ≡ get_or items index x → first (f x) ≡ Some fault
    → before old (together (map f items)) ≡ before made (together (map f (drop index items)))
    → first (together (map f items)) ≡ Some fault
together_off f items index old made x fault within is e so_far =
    sym (first_over (λ more. old ++ more) (together (map f items)))
    ∙ ap first so_far ∙ rw (drop_more items index x within, ← is) (first_over _ _ ∙ first_two _ (f x) _ fault e)

pub together_all : {X A : Type 0} (f : X → Checked (List A)) (items : List X) (index : ℕ) (old made : List A) → length items ≤ index
    → before old (together (map f items)) ≡ before made (together (map f (drop index items)))
    → before old (together (map f items)) ≡ parsed made
together_all f items index old made done so_far = so_far ∙ rw (drop_all index items done) (ap parsed (append-nil made))

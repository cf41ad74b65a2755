-- Where a walk goes on and where it stops.
use Rattle.std.proofs.Common.{◌≡◌, ℕ, ◌+◌, ◌<◌, length, List, [], ◌∷◌, ◌++◌, map, take, drop, get_or, refl, ap, sym, ◌∙◌, append_assoc}
use Rattle.std.proofs.lemmas.List.{drop_more, take-map, take_rest}
use Rattle.std.specs.Prelude.{Option, Some, None}
use Rattle.pddl_lex.specs.Parses.{Parse, parsed, rejected, first, over, over_two, all, behind, followed, before, faults}

pub first_over : {F A B : Type 0} (g : A → B) (v : Parse F A) → first (over g v) ≡ first v
first_over g (parsed a) = refl
first_over g (rejected f fs) = refl

pub first_two : {F A B C : Type 0} (g : A → B → C) (v : Parse F A) (w : Parse F B) (f : F) → first v ≡ Some f → first (over_two g v w) ≡ Some f
first_two g (parsed a) w f e = cc
first_two g (rejected f fs) w h e = e

pub first_followed : {F A : Type 0} (v : Parse F A) (fs : List F) (f : F) → first v ≡ Some f → first (followed v fs) ≡ Some f
first_followed (parsed a) fs f e = cc
first_followed (rejected f gs) fs h e = e

pub over_both : {F A : Type 0} (made : List A) (a : A) (v : Parse F (List A)) → before made (over (λ xs. a ∷ xs) v) ≡ before (made ++ a ∷ []) v
over_both made a (parsed xs) = ap parsed (sym (append_assoc made (a ∷ []) xs))
over_both made a (rejected f fs) = refl

-- one more part has been read
pub all_step : {F X A : Type 0} (f : X → Parse F A) (made : List A) (x : X) (xs : List X) (a : A)
    → f x ≡ parsed a → before made (all (map f (x ∷ xs))) ≡ before (made ++ a ∷ []) (all (map f xs))
all_step f made x xs a e = rw e (over_both made a (all (map f xs)))

pub all_stops : {F X A : Type 0} (f : X → Parse F A) (made : List A) (x : X) (xs : List X) (fault : F)
    → first (f x) ≡ Some fault → first (before made (all (map f (x ∷ xs)))) ≡ Some fault
all_stops f made x xs fault e = first_over _ (all (map f (x ∷ xs))) ∙ first_two _ (f x) (all (map f xs)) fault e

-- the same in a loop, which stands at an index
pub all_on : {F X A : Type 0} (f : X → Parse F A) (items : List X) (at : ℕ) (made made_more : List A) (x : X) (a : A)
    → at < length items → x ≡ get_or items at x → f x ≡ parsed a → made_more ≡ made ++ a ∷ []
    → all (map f items) ≡ before made (all (map f (drop at items)))
    → all (map f items) ≡ before made_more (all (map f (drop (at + 1) items)))
all_on f items at made made_more x a within is e more so_far =
    rw more (so_far ∙ rw (drop_more items at x within, ← is) (all_step f made x (drop (at + 1) items) a e))

pub all_off : {F X A : Type 0} (f : X → Parse F A) (items : List X) (at : ℕ) (made : List A) (x : X) (fault : F)
    → at < length items → x ≡ get_or items at x → first (f x) ≡ Some fault
    → all (map f items) ≡ before made (all (map f (drop at items)))
    → first (all (map f items)) ≡ Some fault
all_off f items at made x fault within is e so_far =
    rw (so_far, drop_more items at x within, ← is) (all_stops f made x (drop (at + 1) items) fault e)

pub before_none : {F A : Type 0} (v : Parse F (List A)) → before [] v ≡ v
before_none (parsed xs) = refl
before_none (rejected f fs) = refl

pub ruleset steps = (first_over, first_two, first_followed, before_none, take-map, take_rest)

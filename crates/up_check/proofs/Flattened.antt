-- What the definitions say of a raw constraint as code takes it apart, and of members that are listed one after the other.
use Rattle.std.proofs.Common.{◌≡◌, ℕ, ◌+◌, ◌<◌, ◌≤◌, length, List, ◌∷◌, ◌++◌, map, drop, get_or, Some, refl, ap, sym, ◌∙◌, append_assoc}
use Rattle.std.proofs.lemmas.List.{drop_more, drop_all, append-nil}
use Rattle.pddl_lex.specs.Parses.{parsed, rejected, first, over_two, before}
use Rattle.pddl_parse.specs.declared.raw.RawGroup.{RawGroup}
use Rattle.pddl_parse.specs.declared.raw.RawFormula.{RawFormula}
use Rattle.pddl_parse.specs.declared.raw.RawConstraint.{RawConstraint, Row_of-RawConstraint, end_of-RawConstraint, more_of-RawConstraint, items-the_row-RawConstraint, items_hidden-the_row-RawConstraint-0}
use Rattle.pddl_parse.specs.declared.raw.RawConstraint as form
use Rattle.pddl_parse.specs.declared.raw.RawConstraint.TheBlock.{hidden-the_row-RawConstraint-0}
use Rattle.up_tree.specs.declared.problem.Rule.TheVariants as rule
use Rattle.up_phrase.specs.declared.fault.Fault.{Fault}
use Rattle.up_phrase.specs.Declarations.{Declarations}
use Rattle.up_phrase.specs.Scopes.{Variables}
use Rattle.up_phrase.specs.Walks.{Checked}
use Rattle.up_phrase.proofs.Steps.{first_over, first_two}
use Rattle.up_check.specs.Constraints.{constraints, each, for_all, joined, ruled, ruled_two}
use Rattle.up_check.specs.Nodes.{built}

module _ (names : Declarations) (vars : Variables) where
  each-items : {n : _} (members : Row_of-RawConstraint n) → each names vars members ≡ map (constraints names vars) (items-the_row-RawConstraint _ members)
  unfolding constraints each
  each-items end_of-RawConstraint = refl
  each-items (more_of-RawConstraint member members) = ap (λ vs. constraints names vars member ∷ vs) (each-items members)

  each-all : (members : List RawConstraint) → each names vars (hidden-the_row-RawConstraint-0 members) ≡ map (constraints names vars) members
  each-all members = each-items (hidden-the_row-RawConstraint-0 members) ∙ ap (map (constraints names vars)) (items_hidden-the_row-RawConstraint-0 members)

  pub constraints-And : (members : List RawConstraint) → constraints names vars (form.And members) ≡ joined (map (constraints names vars) members)
  unfolding constraints
  constraints-And members = ap joined (each-all members)

  pub constraints-Forall : (groups : List RawGroup) (body : RawConstraint) → constraints names vars (form.Forall groups body) ≡ for_all names vars groups body
  unfolding constraints built
  constraints-Forall groups body = refl

  pub constraints-Always : (f : RawFormula) → constraints names vars (form.Always f) ≡ ruled names vars rule.Always f
  unfolding constraints
  constraints-Always f = refl

  pub constraints-Sometime : (f : RawFormula) → constraints names vars (form.Sometime f) ≡ ruled names vars rule.Sometime f
  unfolding constraints
  constraints-Sometime f = refl

  pub constraints-AtMostOnce : (f : RawFormula) → constraints names vars (form.AtMostOnce f) ≡ ruled names vars rule.AtMostOnce f
  unfolding constraints
  constraints-AtMostOnce f = refl

  pub constraints-SometimeAfter : (f g : RawFormula) → constraints names vars (form.SometimeAfter f g) ≡ ruled_two names vars rule.SometimeAfter f g
  unfolding constraints
  constraints-SometimeAfter f g = refl

  pub constraints-SometimeBefore : (f g : RawFormula) → constraints names vars (form.SometimeBefore f g) ≡ ruled_two names vars rule.SometimeBefore f g
  unfolding constraints
  constraints-SometimeBefore f g = refl

-- a first part that is listed, and what comes after it
before_joined : {A : Type 0} (made more : List A) (v w : Checked (List A)) → before made v ≡ parsed more
    → before made (over_two (λ xs ys. xs ++ ys) v w) ≡ before more w
before_joined made more (parsed xs) (parsed ys) e =
    let same : made ++ xs ≡ more = cc in
    ap parsed (sym (append_assoc made xs ys) ∙ ap (λ m. m ++ ys) same)
before_joined made more (parsed xs) (rejected f fs) e = refl
before_joined made more (rejected f fs) w e = cc

-- one more member has been listed, in a loop that stands at an index
pub joined_on : {X A : Type 0} (f : X → Checked (List A)) (items : List X) (index : ℕ) (old made more : List A) (x : X)
    → index < length items → x ≡ get_or items index x → before made (f x) ≡ parsed more
    → before old (joined (map f items)) ≡ before made (joined (map f (drop index items)))
    → before old (joined (map f items)) ≡ before more (joined (map f (drop (index + 1) items)))
joined_on f items index old made more x within is e so_far =
    so_far ∙ rw (drop_more items index x within, ← is) (before_joined made more (f x) (joined (map f (drop (index + 1) items))) e)

-- a loop that stops at a member
pub joined_off : {X A : Type 0} (f : X → Checked (List A)) (items : List X) (index : ℕ) (old made : List A) (x : X) (fault : Fault)
    → index < length items → x ≡ get_or items index x → first (f x) ≡ Some fault
    → before old (joined (map f items)) ≡ before made (joined (map f (drop index items)))
    → first (joined (map f items)) ≡ Some fault
joined_off f items index old made x fault within is e so_far =
    sym (first_over (λ more. old ++ more) (joined (map f items))) ∙ ap first so_far
    ∙ rw (drop_more items index x within, ← is) (first_over (λ more. made ++ more) _ ∙ first_two (λ xs ys. xs ++ ys) (f x) _ fault e)

-- all members have been listed
pub joined_all : {X A : Type 0} (f : X → Checked (List A)) (items : List X) (index : ℕ) (old made : List A) → length items ≤ index
    → before old (joined (map f items)) ≡ before made (joined (map f (drop index items))) → before old (joined (map f items)) ≡ parsed made
joined_all f items index old made done so_far = so_far ∙ rw (drop_all index items done) (ap parsed (append-nil made))

pub ruleset nodes = (constraints-And, constraints-Forall, constraints-Always, constraints-Sometime, constraints-AtMostOnce, constraints-SometimeAfter, constraints-SometimeBefore)

pub ruleset flattened = (joined_on, joined_off, joined_all)

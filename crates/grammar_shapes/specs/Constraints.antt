-- Which bracket trees spell which trajectory constraints.
use Rattle.std.specs.Prelude.{List, [], ◌∷◌, codes}
use Rattle.up_text.specs.declared.place.Place.{Place}
use Rattle.pddl_lex.specs.declared.tree.TokenKind.TheVariants as kind
use Rattle.pddl_lex.specs.declared.tree.Sexp.{Sexp, Group}
use Rattle.pddl_parse.specs.declared.raw.RawGroup.{RawGroup}
use Rattle.pddl_parse.specs.declared.raw.RawFormula.{RawFormula}
use Rattle.pddl_parse.specs.declared.raw.RawConstraint.{RawConstraint, And, Forall, Always, Sometime, AtMostOnce, SometimeAfter, SometimeBefore}
use Rattle.pddl_parse.specs.Forms.{leaf, AreTyped, IsFormula}

mutual
  -- a trajectory constraint
  pub data IsConstraint : Sexp → RawConstraint → Type 0 where
    of_and : (place at : Place) (trees : List Sexp) (cs : List RawConstraint)
        → AreConstraints trees cs → IsConstraint (Group place (leaf (kind.Word (codes "and")) at ∷ trees)) (And cs)
    of_forall : (place at vars_at : Place) (vars : List Sexp) (groups : List RawGroup) (tree : Sexp) (c : RawConstraint)
        → AreTyped vars groups → IsConstraint tree c
        → IsConstraint (Group place (leaf (kind.Word (codes "forall")) at ∷ Group vars_at vars ∷ tree ∷ [])) (Forall groups c)
    of_always : (place at : Place) (tree : Sexp) (f : RawFormula)
        → IsFormula tree f → IsConstraint (Group place (leaf (kind.Word (codes "always")) at ∷ tree ∷ [])) (Always f)
    of_sometime : (place at : Place) (tree : Sexp) (f : RawFormula)
        → IsFormula tree f → IsConstraint (Group place (leaf (kind.Word (codes "sometime")) at ∷ tree ∷ [])) (Sometime f)
    of_at_most_once : (place at : Place) (tree : Sexp) (f : RawFormula)
        → IsFormula tree f → IsConstraint (Group place (leaf (kind.Word (codes "at-most-once")) at ∷ tree ∷ [])) (AtMostOnce f)
    of_sometime_after : (place at : Place) (one two : Sexp) (f g : RawFormula)
        → IsFormula one f → IsFormula two g
        → IsConstraint (Group place (leaf (kind.Word (codes "sometime-after")) at ∷ one ∷ two ∷ [])) (SometimeAfter f g)
    of_sometime_before : (place at : Place) (one two : Sexp) (f g : RawFormula)
        → IsFormula one f → IsFormula two g
        → IsConstraint (Group place (leaf (kind.Word (codes "sometime-before")) at ∷ one ∷ two ∷ [])) (SometimeBefore f g)

  pub data AreConstraints : List Sexp → List RawConstraint → Type 0 where
    no_constraints : AreConstraints [] []
    more_constraints : (tree : Sexp) (c : RawConstraint) (trees : List Sexp) (cs : List RawConstraint)
        → IsConstraint tree c → AreConstraints trees cs → AreConstraints (tree ∷ trees) (c ∷ cs)

-- what stands in the section `:constraints`: a constraint, or `()` for none
pub data IsWholeConstraint : Sexp → RawConstraint → Type 0 where
  no_constraint : (place : Place) → IsWholeConstraint (Group place []) (And [])
  a_constraint : (tree : Sexp) (c : RawConstraint) → IsConstraint tree c → IsWholeConstraint tree c

-- a tree that spells some constraint
pub record HasConstraint (tree : Sexp) : Type 0 where
  pub form : RawConstraint
  pub is : IsConstraint tree form

-- Which constraints a raw constraint denotes where names are declared, said apart from how it is checked.
use Rattle.std.specs.Prelude.{List, [], ◌∷◌, ◌++◌, map}
use Rattle.pddl_parse.specs.declared.raw.RawGroup.{RawGroup}
use Rattle.pddl_parse.specs.declared.raw.RawFormula.{RawFormula}
use Rattle.pddl_parse.specs.declared.raw.RawConstraint.{RawConstraint}
use Rattle.pddl_parse.specs.declared.raw.RawConstraint as raw
use Rattle.up_tree.specs.declared.formula.Formula.{Formula}
use Rattle.up_tree.specs.declared.problem.Constraint.{Constraint}
use Rattle.up_tree.specs.declared.problem.Rule.{Rule}
use Rattle.up_tree.specs.declared.problem.Rule.TheVariants.{Always, Sometime, AtMostOnce, SometimeAfter, SometimeBefore}
use Rattle.up_phrase.specs.Declarations.{Declarations}
use Rattle.up_phrase.specs.declared.term.Setting.TheVariants as setting
use Rattle.up_phrase.specs.Scopes.{Variables, typed}
use Rattle.grammar_names.specs.Phrases.{Enters, DenotesFormula}

-- a rule on conditions, which hold neither comparisons nor values of object functions
pub data DenotesRule (names : Declarations) (vars : Variables) : RawConstraint → Rule → Type 0 where
  an_always : (one : RawFormula) (f : Formula)
      → DenotesFormula names vars setting.Constraint one f → DenotesRule names vars (raw.Always one) (Always f)
  a_sometime : (one : RawFormula) (f : Formula)
      → DenotesFormula names vars setting.Constraint one f → DenotesRule names vars (raw.Sometime one) (Sometime f)
  an_at_most_once : (one : RawFormula) (f : Formula)
      → DenotesFormula names vars setting.Constraint one f → DenotesRule names vars (raw.AtMostOnce one) (AtMostOnce f)
  a_sometime_after : (one two : RawFormula) (f g : Formula)
      → DenotesFormula names vars setting.Constraint one f → DenotesFormula names vars setting.Constraint two g
      → DenotesRule names vars (raw.SometimeAfter one two) (SometimeAfter f g)
  a_sometime_before : (one two : RawFormula) (f g : Formula)
      → DenotesFormula names vars setting.Constraint one f → DenotesFormula names vars setting.Constraint two g
      → DenotesRule names vars (raw.SometimeBefore one two) (SometimeBefore f g)

mutual
  -- the constraints that a raw constraint denotes, from left to right; the variables are those of the `forall`s around it
  pub data DenoteConstraints (names : Declarations) : Variables → RawConstraint → List Constraint → Type 0 where
    of_rule : (vars : Variables) (one : RawConstraint) (rule : Rule)
        → DenotesRule names vars one rule → DenoteConstraints names vars one (record { vars = map typed vars; rule = rule } ∷ [])
    of_and : (vars : Variables) (members : List RawConstraint) (cs : List Constraint)
        → DenoteMembers names vars members cs → DenoteConstraints names vars (raw.And members) cs
    of_forall : (vars inner : Variables) (groups : List RawGroup) (body : RawConstraint) (cs : List Constraint)
        → Enters names [] groups vars inner → DenoteConstraints names inner body cs → DenoteConstraints names vars (raw.Forall groups body) cs

  pub data DenoteMembers (names : Declarations) : Variables → List RawConstraint → List Constraint → Type 0 where
    no_members : (vars : Variables) → DenoteMembers names vars [] []
    more_members : (vars : Variables) (one : RawConstraint) (members : List RawConstraint) (cs ds : List Constraint)
        → DenoteConstraints names vars one cs → DenoteMembers names vars members ds → DenoteMembers names vars (one ∷ members) (cs ++ ds)

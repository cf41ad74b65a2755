-- Constraints of raw constraints.
use Rattle.std.specs.Prelude.{List, [], ◌∷◌, ◌++◌, map}
use Rattle.pddl_lex.specs.Parses.{parsed, over, over_two}
use Rattle.pddl_parse.specs.declared.raw.RawGroup.{RawGroup}
use Rattle.pddl_parse.specs.declared.raw.RawFormula.{RawFormula}
use Rattle.pddl_parse.specs.declared.raw.RawConstraint.{RawConstraint, Row_of-RawConstraint, end_of-RawConstraint, more_of-RawConstraint}
use Rattle.pddl_parse.specs.declared.raw.RawConstraint as form
use Rattle.up_tree.specs.declared.formula.Formula.{Formula}
use Rattle.up_tree.specs.declared.problem.Constraint.{Constraint}
use Rattle.up_tree.specs.declared.problem.Rule.{Rule}
use Rattle.up_tree.specs.declared.problem.Rule.TheVariants as rule
use Rattle.up_phrase.specs.Declarations.{Declarations}
use Rattle.up_phrase.specs.declared.term.Setting.TheVariants as setting
use Rattle.up_phrase.specs.Conditions.{formula}
use Rattle.up_phrase.specs.Scopes.{Variables, entered_groups, typed}
use Rattle.up_phrase.specs.Walks.{Checked, after}
use Rattle.up_check.specs.Nodes.{forall}

-- a rule for each typed tuple of the variables
abbrev pub for_each : Variables → Rule → List Constraint
for_each vars rule = record { vars = map typed vars; rule = rule } ∷ []

-- the rule on a condition
abbrev pub ruled : Declarations → Variables → (Formula → Rule) → RawFormula → Checked (List Constraint)
ruled names vars rule f = over (λ (f : Formula). for_each vars (rule f)) (formula names vars setting.Constraint f)

abbrev pub pair : Formula → Formula → Formula × Formula
pair f g = (f, g)

-- two conditions, one after the other
abbrev pub two : Declarations → Variables → RawFormula → RawFormula → Checked (Formula × Formula)
two names vars f g = over_two pair (formula names vars setting.Constraint f) (formula names vars setting.Constraint g)

-- the rule on two conditions
abbrev pub ruled_two : Declarations → Variables → (Formula → Formula → Rule) → RawFormula → RawFormula → Checked (List Constraint)
ruled_two names vars rule f g = over (λ (both : Formula × Formula). for_each vars (rule both.0 both.1)) (two names vars f g)

-- the lists of all parts as one
abbrev pub joined : {A : Type 0} → List (Checked (List A)) → Checked (List A)
joined [] = parsed []
joined (v ∷ vs) = over_two (λ xs ys. xs ++ ys) v (joined vs)

unfoldable mutual
  -- The simple constraints, from left to right. The variables are those of the `forall`s around each, from the outside in.
  pub constraints : Declarations → Variables → RawConstraint → Checked (List Constraint)
  constraints names vars (form.And' n members) = joined (each names vars members)
  constraints names vars (forall groups body) = after (entered_groups names [] groups vars) (λ (inner : Variables). constraints names inner body)
  constraints names vars (form.Always f) = ruled names vars rule.Always f
  constraints names vars (form.Sometime f) = ruled names vars rule.Sometime f
  constraints names vars (form.AtMostOnce f) = ruled names vars rule.AtMostOnce f
  constraints names vars (form.SometimeAfter f g) = ruled_two names vars rule.SometimeAfter f g
  constraints names vars (form.SometimeBefore f g) = ruled_two names vars rule.SometimeBefore f g

  pub each : Declarations → Variables → {n : _} → Row_of-RawConstraint n → List (Checked (List Constraint))
  each names vars end_of-RawConstraint = []
  each names vars (more_of-RawConstraint member members) = constraints names vars member ∷ each names vars members

-- what is under a `forall`, with its variables in scope
abbrev pub for_all : Declarations → Variables → List RawGroup → RawConstraint → Checked (List Constraint)
for_all names vars groups body = after (entered_groups names [] groups vars) (λ (inner : Variables). constraints names inner body)

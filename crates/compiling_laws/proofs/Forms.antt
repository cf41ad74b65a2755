-- A problem with other actions and another goal has the same terms, formulas, rows and facts.
use Rattle.std.proofs.Common.{List, Option, Some, None, IsSomeAnd}
use Rattle.up_text.specs.Lists.{Every}
use Rattle.up_tree.specs.declared.term.Typed.{Typed}
use Rattle.up_tree.specs.declared.formula.Formula.{Formula}
use Rattle.up_tree.specs.declared.action.Action.{Action}
use Rattle.up_tree.specs.declared.action.Row.{Row}
use Rattle.up_tree.specs.declared.problem.Parts.{Parts}
use Rattle.up_tree.specs.declared.problem.Constraint.{Constraint}
use Rattle.up_tree.specs.declared.problem.Fact.{Fact}
use Rattle.up_tree.specs.declared.problem.NumberFact.{NumberFact}
use Rattle.up_tree.specs.declared.problem.ValueFact.{ValueFact}
use Rattle.up_tree.specs.declared.problem.Metric.{Metric}
use Rattle.up_tree.specs.WellFormed.{AreVariables, IsFormula, IsRow, IsFact, IsNumberFact, IsValueFact, OnMetric, IsConstraint}
use Rattle.semantics_laws.proofs.Lists.{each_as}
use Rattle.condition_laws.proofs.Declaring.{variables_stay, formula_stays, rule_stays, numbers_stay, values_stay, metric_stays, constraint_stays}

pub some_as : {X : Type 0} (P Q : X → Type 0) (o : Option X) → ((x : X) → P x → Q x) → IsSomeAnd o P → IsSomeAnd o Q
some_as P Q None f h = h
some_as P Q (Some x) f h = f x h

pub every_as : {X : Type 0} (P Q : X → Type 0) (xs : List X) → ((x : X) → P x → Q x) → Every P xs → Every Q xs
every_as P Q xs f h = each_as P Q f xs h

module _ (p : Parts) (actions : List Action) (goal : Formula) where
  abbrev pub q : Parts
  q = record p { actions = actions; goal = goal }

  pub variables_over : (scope vars : List Typed) → AreVariables p scope vars → AreVariables q scope vars
  variables_over scope vars h = variables_stay p q scope vars h

  pub formula_over : (objects scope : List Typed) (f : Formula) → IsFormula p objects scope f → IsFormula q objects scope f
  formula_over objects scope f h = formula_stays p q objects scope f h

  pub rule_over : (objects scope : List Typed) (r : Row) → IsRow p objects scope r → IsRow q objects scope r
  rule_over objects scope r h = rule_stays p q objects scope r h

  pub fact_over : (fact : Fact) → IsFact p fact → IsFact q fact
  fact_over fact h = h

  pub number_fact_over : (fact : NumberFact) → IsNumberFact p fact → IsNumberFact q fact
  number_fact_over fact h = numbers_stay p q fact h

  pub value_fact_over : (fact : ValueFact) → IsValueFact p fact → IsValueFact q fact
  value_fact_over fact h = values_stay p q fact h

  pub metric_over : (m : Option Metric) → OnMetric p m → OnMetric q m
  metric_over m h = metric_stays p q m h

  pub constraint_over : (c : Constraint) → IsConstraint p c → IsConstraint q c
  constraint_over c h = constraint_stays p q c h

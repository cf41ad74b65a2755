-- What is well-formed in one problem is so in another that declares the same and further predicates behind the old ones.
use Rattle.std.proofs.Common.{◌≡◌, List, [], ◌++◌, take, Option, subst}
use Rattle.up_text.specs.declared.name.Name.{Name}
use Rattle.up_tree.specs.declared.term.Term.{Term}
use Rattle.up_tree.specs.declared.term.Typed.{Typed}
use Rattle.up_tree.specs.declared.formula.Formula.{Formula}
use Rattle.up_tree.specs.declared.action.Row.{Row}
use Rattle.up_tree.specs.declared.action.Action.{Action}
use Rattle.up_tree.specs.declared.problem.Parts.{Parts}
use Rattle.up_tree.specs.declared.problem.Constraint.{Constraint}
use Rattle.up_tree.specs.declared.problem.Metric.{Metric}
use Rattle.up_tree.specs.declared.problem.Predicate.{Predicate}
use Rattle.up_tree.specs.declared.problem.Fact.{Fact}
use Rattle.up_tree.specs.declared.problem.NumberFact.{NumberFact}
use Rattle.up_tree.specs.declared.problem.ValueFact.{ValueFact}
use Rattle.up_tree.specs.declared.problem.Gives.{Gives}
use Rattle.up_tree.specs.WellFormed.{AreVariables, TermsFit, IsFormula, IsRow, IsAction, IsFact, IsNumberFact, IsValueFact, IsConstraint, OnMetric, OfGives}
use Rattle.semantics_laws.proofs.Lists.{each_as}
use Rattle.condition_laws.proofs.Widening.{found_still, declaring, variables_widen, terms_widen, formula_widens, rule_widens, constraint_widens, metric_widens, numbers_widen, values_widen, fact_widens, gives_widen}
use Rattle.compiling_laws.specs.Forms.{DeclaresMore}

-- what `p` declares and these predicates behind, with all else of `q`
abbrev pub with_declared : Parts → Parts → List Predicate → Parts
with_declared p q more = declaring p q p.constants (p.predicates ++ more)

module _ (p q : Parts) (more : List Predicate) where
  abbrev r : Parts
  r = with_declared p q more

  pub variables_stay : (scope vars : List Typed) → AreVariables p scope vars → AreVariables r scope vars
  variables_stay = variables_widen p q p.constants (p.predicates ++ more) (found_still more p.predicates)

  pub terms_stay : (objects scope : List Typed) (ts : List Term) (types : List Name) → TermsFit p objects scope ts types → TermsFit r objects scope ts types
  terms_stay objects = terms_widen p q p.constants (p.predicates ++ more) (found_still more p.predicates) objects objects (λ o h. h)

  pub formula_stays : (objects scope : List Typed) (f : Formula) → IsFormula p objects scope f → IsFormula r objects scope f
  formula_stays objects = formula_widens p q p.constants (p.predicates ++ more) (found_still more p.predicates) objects objects (λ o h. h)

  pub rule_stays : (objects scope : List Typed) (row : Row) → IsRow p objects scope row → IsRow r objects scope row
  rule_stays objects = rule_widens p q p.constants (p.predicates ++ more) (found_still more p.predicates) objects objects (λ o h. h)

  pub action_stays : (a : Action) → IsAction p a → IsAction r a
  action_stays a h = record {
    params = variables_stay [] a.params h.params;
    pre = formula_stays (take p.constants p.objects) a.params a.pre h.pre;
    rows = each_as _ _ (λ row k. rule_stays (take p.constants p.objects) a.params row k) a.rows h.rows;
  }

  pub constraint_stays : (c : Constraint) → IsConstraint p c → IsConstraint r c
  constraint_stays = constraint_widens p q p.constants (p.predicates ++ more) (found_still more p.predicates)

  pub metric_stays : (m : Option Metric) → OnMetric p m → OnMetric r m
  metric_stays = metric_widens p q p.constants (p.predicates ++ more) (found_still more p.predicates)

  pub numbers_stay : (n : NumberFact) → IsNumberFact p n → IsNumberFact r n
  numbers_stay = numbers_widen p q p.constants (p.predicates ++ more) (found_still more p.predicates)

  pub values_stay : (v : ValueFact) → IsValueFact p v → IsValueFact r v
  values_stay = values_widen p q p.constants (p.predicates ++ more) (found_still more p.predicates)

  pub fact_stays : (fact : Fact) → IsFact p fact → IsFact r fact
  fact_stays = fact_widens p q p.constants (p.predicates ++ more) (found_still more p.predicates)

  pub gives_stay : (g : Gives) → OfGives p g → OfGives r g
  gives_stay = gives_widen p q p.constants (p.predicates ++ more) (found_still more p.predicates)

-- one that declares more is of this form
of_form : (p q : Parts) (more : List Predicate) → DeclaresMore p more q → with_declared p q more ≡ q
of_form p q more is = λ i. record q { types = is.types i; constants = is.constants i; objects = is.objects i; predicates = is.predicates i; functions = is.functions i }

pub formulas_are_of_more : (p : Parts) (more : List Predicate) (q : Parts) → DeclaresMore p more q → (objects scope : List Typed) (f : Formula) →
    IsFormula p objects scope f → IsFormula q objects scope f
formulas_are_of_more p more q is objects scope f h = subst (λ q. IsFormula q objects scope f) (of_form p q more is) (formula_stays p q more objects scope f h)

pub actions_are_of_more : (p : Parts) (more : List Predicate) (q : Parts) → DeclaresMore p more q → (a : Action) → IsAction p a → IsAction q a
actions_are_of_more p more q is a h = subst (λ q. IsAction q a) (of_form p q more is) (action_stays p q more a h)

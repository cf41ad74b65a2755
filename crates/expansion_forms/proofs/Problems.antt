-- Whole problems, and what a problem with further predicates declares.
use Rattle.std.proofs.Common.{◌≡◌, ◌⊎◌, Bool, true, false, cond, List, [], ◌∷◌, ◌++◌, find, take, length, Option, Some, None, IsSome, IsSomeAnd, ap, sym, ◌∙◌, subst, arith}
use Rattle.std.proofs.lemmas.List.{take_all}
use Rattle.up_text.specs.declared.name.Name.{Name}
use Rattle.up_text.specs.Names.{same_name}
use Rattle.up_text.specs.Lists.{Member}
use Rattle.up_tree.specs.declared.action.Action.{Action}
use Rattle.up_tree.specs.declared.problem.Parts.{Parts}
use Rattle.up_tree.specs.declared.problem.Predicate.{Predicate}
use Rattle.up_tree.specs.declared.problem.Function.{Function}
use Rattle.up_tree.specs.declared.problem.Gives.{Gives}
use Rattle.up_tree.specs.declared.problem.Gives.TheVariants as gives
use Rattle.up_tree.specs.declared.problem.Fact.{Fact}
use Rattle.up_tree.specs.declared.problem.NumberFact.{NumberFact}
use Rattle.up_tree.specs.declared.problem.ValueFact.{ValueFact}
use Rattle.up_tree.specs.declared.problem.Metric.{Metric}
use Rattle.up_tree.specs.declared.problem.Constraint.{Constraint}
use Rattle.up_tree.specs.Objects.{World, world, unassigned, named, type_in, type_chain, predicate_named, function_named}
use Rattle.up_tree.specs.WellFormed.{IsWellFormed, top_type, AreDeclared, IsBelow, OfGives, GivesNumber, gives_object, IsExpr, IsFormula, IsPlain, IsAction, ObjectsFit, IsFact, IsNumberFact, IsValueFact, IsConstraint, OnMetric, formulas_of}
use Rattle.semantics_laws.proofs.Lists.{each_as, each_map}
use Rattle.up_eval.proofs.Types.{no_none}
use Rattle.expansion_laws.specs.Expanded.{action_expanded, problem_expanded}
use Rattle.expansion_laws.proofs.Lists.{map_of_map}
use Rattle.expansion_laws.proofs.Unchanged.{same_expr, same_formula}
use Rattle.expansion_forms.specs.Covered.{Declares, AreObjects}
use Rattle.expansion_forms.proofs.Covering.{covers_itself, all_objects}
use Rattle.expansion_forms.proofs.Terms.{expr_well}
use Rattle.expansion_forms.proofs.Formulas.{variables_well, replaced_well, expanded_well}
use Rattle.expansion_forms.proofs.Actions.{expanded_action_well}
use Rattle.up_tree.specs.declared.term.Typed.{Typed}
use Rattle.up_tree.specs.declared.formula.Formula.{Formula}

pub declared_well : (p q : Parts) → IsWellFormed p → Declares p q →
    (objects scope : List Typed) → AreObjects p objects → (f : Formula) → IsFormula p objects scope f → IsFormula q q.objects scope f
declared_well p q well declares objects scope are f is =
    subst (IsFormula q q.objects scope) (same_formula f) (replaced_well p q well declares objects scope scope are unassigned (covers_itself p scope) f is)

-- ---- further predicates

found_first : {X : Type 0} (test : X → Bool) (xs ys : List X) (x : X) → find test xs ≡ Some x → find test (xs ++ ys) ≡ Some x
found_first test [] ys x is = no_none x is
found_first test (z ∷ xs) ys x is = by (test z) is (found_first test xs ys x)
  where
    by : (b : Bool) → cond b (Some z) (find test xs) ≡ Some x → (find test xs ≡ Some x → find test (xs ++ ys) ≡ Some x) → cond b (Some z) (find test (xs ++ ys)) ≡ Some x
    by true is more = is
    by false is more = more is

pub more_declares : (p q : Parts) → q.types ≡ p.types → q.objects ≡ p.objects → q.functions ≡ p.functions →
    (more : List Predicate) → q.predicates ≡ p.predicates ++ more → Declares p q
more_declares p q types objects functions more predicates = record {
  types = λ t is. subst (λ entries. (t ≡ top_type) ⊎ IsSome (named entries t)) (sym types) is;
  below = λ t above is. subst (λ (w : World). Member above (type_chain w t)) (λ i. record { types = sym types i; objects = sym objects i }) is;
  objects = λ o t is. ap (λ entries. type_in entries o) objects ∙ is;
  predicates = λ name d is. ap (find (λ (d : Predicate). same_name d.name name)) predicates ∙ found_first (λ (d : Predicate). same_name d.name name) p.predicates more d is;
  functions = λ name d is. ap (find (λ (d : Function). same_name d.name name)) functions ∙ is;
}

-- ---- an expanded problem

declares_expanded : (p : Parts) → Declares p (problem_expanded p)
declares_expanded p = record { types = λ t is. is; below = λ t above is. is; objects = λ o t is. is; predicates = λ name d is. is; functions = λ name d is. is }

module _ (p : Parts) (well : IsWellFormed p) where
  abbrev q : Parts
  q = problem_expanded p

  all_named : take q.constants q.objects ≡ q.objects
  all_named = take_all (length p.objects) p.objects (omega arith)

  gives_well : (g : Gives) → OfGives p g → OfGives q g
  gives_well gives.Number is = is
  gives_well (gives.Object t) is = is

  objects_fit : (objects types : List Name) → ObjectsFit p objects types → ObjectsFit q objects types
  objects_fit [] [] fit = fit
  objects_fit [] (of ∷ types) fit = fit
  objects_fit (o ∷ objects) [] fit = fit
  objects_fit (o ∷ objects) (of ∷ types) fit = (fit.0, objects_fit objects types fit.1)

  some_as : {X : Type 0} (o : Option X) (P Q : X → Type 0) → ((x : X) → P x → Q x) → IsSomeAnd o P → IsSomeAnd o Q
  some_as None P Q h is = is
  some_as (Some x) P Q h is = h x is

  fact_well : (fact : Fact) → IsFact p fact → IsFact q fact
  fact_well fact is =
      some_as (predicate_named p fact.predicate) (λ d. ObjectsFit p fact.args d.args) (λ d. ObjectsFit q fact.args d.args) (λ d fit. objects_fit fact.args d.args fit) is

  number_well : (fact : NumberFact) → IsNumberFact p fact → IsNumberFact q fact
  number_well fact is = record {
    literal = is.literal;
    typed = some_as (function_named p fact.function) (λ d. GivesNumber d.gives × ObjectsFit p fact.args d.args) (λ d. GivesNumber d.gives × ObjectsFit q fact.args d.args)
        (λ d so. (so.0, objects_fit fact.args d.args so.1)) is.typed;
  }

  value_well : (fact : ValueFact) → IsValueFact p fact → IsValueFact q fact
  value_well fact is = record {
    typed = some_as (function_named p fact.function)
        (λ d. ObjectsFit p fact.args d.args × IsSomeAnd (gives_object d.gives) (λ of. IsSomeAnd (type_in p.objects fact.value) (λ u. IsBelow p u of)))
        (λ d. ObjectsFit q fact.args d.args × IsSomeAnd (gives_object d.gives) (λ of. IsSomeAnd (type_in q.objects fact.value) (λ u. IsBelow q u of)))
        (λ d so. (objects_fit fact.args d.args so.0, so.1)) is.typed;
  }

  metric_well : (m : Option Metric) → OnMetric p m → OnMetric q m
  metric_well None is = is
  metric_well (Some m) is =
      (subst (IsExpr q q.objects []) (same_expr m.value) (expr_well p q well (declares_expanded p) p.objects [] [] (all_objects p) unassigned (covers_itself p []) m.value is.0), is.1)

  constraint_well : (c : Constraint) → IsConstraint p c → IsConstraint q c
  constraint_well c is = record {
    vars = variables_well p q (declares_expanded p) [] [] c.vars (λ v m. m) is.vars;
    formulas = each_as (λ f. IsFormula p p.objects c.vars f × IsPlain f) (λ f. IsFormula q q.objects c.vars f × IsPlain f)
        (λ f so. (declared_well p q well (declares_expanded p) p.objects c.vars (all_objects p) f so.0, so.1)) (formulas_of c.rule) is.formulas;
  }

pub problem_well : (p : Parts) → IsWellFormed p → IsWellFormed (problem_expanded p)
problem_well p well = record {
  domain = well.domain;
  name = well.name;
  types = well.types;
  top_free = well.top_free;
  chains = well.chains;
  objects = well.objects;
  object_types = well.object_types;
  constants = omega arith;
  symbols = well.symbols;
  predicate_types = well.predicate_types;
  function_types = well.function_types;
  value_types = each_as (λ (d : Function). OfGives p d.gives) (λ (d : Function). OfGives (problem_expanded p) d.gives) (λ d is. gives_well p well d.gives is) p.functions well.value_types;
  action_names = subst AreDeclared (sym (map_of_map (λ (a : Action). a.name) (action_expanded (world p)) p.actions)) well.action_names;
  actions = each_map (IsAction (problem_expanded p)) (action_expanded (world p)) p.actions
      (each_as (IsAction p) _ (λ a is. expanded_action_well p (problem_expanded p) well (declares_expanded p) (all_named p well) a is) p.actions well.actions);
  goal = expanded_well p (problem_expanded p) well (declares_expanded p) p.objects [] [] (all_objects p) unassigned (covers_itself p []) p.goal well.goal;
  atoms = each_as (IsFact p) (IsFact (problem_expanded p)) (fact_well p well) p.atoms well.atoms;
  atoms_differ = well.atoms_differ;
  numbers = each_as (IsNumberFact p) (IsNumberFact (problem_expanded p)) (number_well p well) p.numbers well.numbers;
  numbers_differ = well.numbers_differ;
  values = each_as (IsValueFact p) (IsValueFact (problem_expanded p)) (value_well p well) p.values well.values;
  values_differ = well.values_differ;
  metric = metric_well p well p.metric well.metric;
  constraints = each_as (IsConstraint p) (IsConstraint (problem_expanded p)) (constraint_well p well) p.constraints well.constraints;
}

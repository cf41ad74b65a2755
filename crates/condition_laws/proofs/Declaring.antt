-- What is well-formed in one problem is so in another that declares the same.
use Rattle.std.proofs.Common.{◌≡◌, List, [], ◌∷◌, map, take, Option, Some, None, refl, sym, ◌∙◌, subst, inl, inr}
use Rattle.std.specs.List.{filter_map, cons_option}
use Rattle.up_text.specs.declared.name.Name.{Name}
use Rattle.up_text.specs.Names.{IsName}
use Rattle.up_text.specs.Lists.{Every, Member, Differ}
use Rattle.up_tree.specs.declared.term.Typed.{Typed}
use Rattle.up_tree.specs.declared.formula.Formula.{Formula}
use Rattle.up_tree.specs.declared.action.Row.{Row}
use Rattle.up_tree.specs.declared.action.Action.{Action}
use Rattle.up_tree.specs.declared.problem.Parts.{Parts}
use Rattle.up_tree.specs.declared.problem.Constraint.{Constraint}
use Rattle.up_tree.specs.declared.problem.Predicate.{Predicate}
use Rattle.up_tree.specs.declared.problem.Metric.{Metric}
use Rattle.up_tree.specs.declared.problem.NumberFact.{NumberFact}
use Rattle.up_tree.specs.declared.problem.ValueFact.{ValueFact}
use Rattle.up_tree.specs.Objects.{World, world}
use Rattle.up_tree.specs.Simplify.{Oracle, simplified, simple_action}
use Rattle.up_tree.specs.WellFormed.{AreVariables, IsFormula, IsRow, IsAction, IsNumberFact, IsValueFact, IsConstraint, OnMetric, IsWellFormed}
use Rattle.semantics_laws.proofs.Lists.{each_as}
use Rattle.condition_laws.specs.Problems.{DeclaresTheSame, simple_problem}
use Rattle.condition_laws.proofs.Widening.{AreFound, declaring, variables_widen, formula_widens, rule_widens, constraint_widens, metric_widens, numbers_widen, values_widen}
use Rattle.condition_laws.proofs.Shaping.{simple_action_is_formed, simplified_is_formed}
use Rattle.condition_laws.proofs.ActionFeatures.{simple_actions_carry}

-- all are found, as they are the same
same_found : (ds : List Predicate) → AreFound ds ds
same_found ds name P h = h

-- what `p` declares, with all else of `q`
abbrev pub declared_by : Parts → Parts → Parts
declared_by p q = declaring p q p.constants p.predicates

module _ (p q : Parts) where
  pub variables_stay : (scope vars : List Typed) → AreVariables p scope vars → AreVariables (declared_by p q) scope vars
  variables_stay = variables_widen p q p.constants p.predicates (same_found p.predicates)

  pub formula_stays : (objects scope : List Typed) (f : Formula) → IsFormula p objects scope f → IsFormula (declared_by p q) objects scope f
  formula_stays objects = formula_widens p q p.constants p.predicates (same_found p.predicates) objects objects (λ o h. h)

  pub rule_stays : (objects scope : List Typed) (row : Row) → IsRow p objects scope row → IsRow (declared_by p q) objects scope row
  rule_stays objects = rule_widens p q p.constants p.predicates (same_found p.predicates) objects objects (λ o h. h)

  action_stays : (a : Action) → IsAction p a → IsAction (declared_by p q) a
  action_stays a h = record {
    params = variables_stay [] a.params h.params;
    pre = formula_stays (take p.constants p.objects) a.params a.pre h.pre;
    rows = each_as _ _ (λ row k. rule_stays (take p.constants p.objects) a.params row k) a.rows h.rows;
  }

  pub constraint_stays : (c : Constraint) → IsConstraint p c → IsConstraint (declared_by p q) c
  constraint_stays = constraint_widens p q p.constants p.predicates (same_found p.predicates)

  pub metric_stays : (m : Option Metric) → OnMetric p m → OnMetric (declared_by p q) m
  metric_stays = metric_widens p q p.constants p.predicates (same_found p.predicates)

  pub numbers_stay : (n : NumberFact) → IsNumberFact p n → IsNumberFact (declared_by p q) n
  numbers_stay = numbers_widen p q p.constants p.predicates (same_found p.predicates)

  pub values_stay : (v : ValueFact) → IsValueFact p v → IsValueFact (declared_by p q) v
  values_stay = values_widen p q p.constants p.predicates (same_found p.predicates)

-- one that declares the same is of this form
of_form : (p q : Parts) → DeclaresTheSame p q → declared_by p q ≡ q
of_form p q is = λ i. record q { types = is.types i; constants = is.constants i; objects = is.objects i; predicates = is.predicates i; functions = is.functions i }

pub formulas_are_of_declared : (p q : Parts) → DeclaresTheSame p q → (objects scope : List Typed) (f : Formula) → IsFormula p objects scope f → IsFormula q objects scope f
formulas_are_of_declared p q is objects scope f h = subst (λ q. IsFormula q objects scope f) (of_form p q is) (formula_stays p q objects scope f h)

pub actions_are_of_declared : (p q : Parts) → DeclaresTheSame p q → (a : Action) → IsAction p a → IsAction q a
actions_are_of_declared p q is a h = subst (λ q. IsAction q a) (of_form p q is) (action_stays p q a h)

-- ---- a simplified problem

module _ (w : World) (oracle : Oracle) where
  kept_actions : (P : Action → Type 0) → ((a b : Action) → P a → simple_action w oracle a ≡ Some b → P b) → (actions : List Action) → Every P actions →
      Every P (filter_map (simple_action w oracle) actions)
  kept_actions P keeps [] h = tt
  kept_actions P keeps (a ∷ actions) h = by (simple_action w oracle a) refl (kept_actions P keeps actions h.1)
    where
      by : (o : Option Action) → simple_action w oracle a ≡ o → Every P (filter_map (simple_action w oracle) actions) → Every P (cons_option o (filter_map (simple_action w oracle) actions))
      by None at more = more
      by (Some b) at more = (keeps a b h.0 at, more)

  names : List Action → List Name
  names actions = map (λ a. a.name) actions

  -- a name that is left was there
  name_before : (actions : List Action) (name : Name) → Member name (names (filter_map (simple_action w oracle) actions)) → Member name (names actions)
  unfolding names
  name_before [] name h = h
  name_before (a ∷ actions) name h = by (simple_action w oracle a) refl h (name_before actions name)
    where
      by : (o : Option Action) → simple_action w oracle a ≡ o → Member name (map (λ a. a.name) (cons_option o (filter_map (simple_action w oracle) actions))) →
          (Member name (map (λ a. a.name) (filter_map (simple_action w oracle) actions)) → Member name (map (λ a. a.name) actions)) → Member name (map (λ a. a.name) (a ∷ actions))
      by None at h more = inr (more h)
      by (Some b) at (inl e) more = inl (e ∙ (simple_actions_carry w oracle a b at).name)
      by (Some b) at (inr h) more = inr (more h)

  still_differ : (actions : List Action) → Differ (names actions) → Differ (names (filter_map (simple_action w oracle) actions))
  unfolding names
  still_differ [] d = tt
  still_differ (a ∷ actions) d = by (simple_action w oracle a) refl (still_differ actions d.1)
    where
      by : (o : Option Action) → simple_action w oracle a ≡ o → Differ (map (λ a. a.name) (filter_map (simple_action w oracle) actions)) →
          Differ (map (λ a. a.name) (cons_option o (filter_map (simple_action w oracle) actions)))
      by None at more = more
      by (Some b) at more =
          (λ m. d.0 (subst (λ n. Member n (map (λ a. a.name) actions)) (simple_actions_carry w oracle a b at).name (name_before actions b.name m)), more)

  still_names : (actions : List Action) → Every IsName (names actions) → Every IsName (names (filter_map (simple_action w oracle) actions))
  unfolding names
  still_names [] h = tt
  still_names (a ∷ actions) h = by (simple_action w oracle a) refl (still_names actions h.1)
    where
      by : (o : Option Action) → simple_action w oracle a ≡ o → Every IsName (map (λ a. a.name) (filter_map (simple_action w oracle) actions)) →
          Every IsName (map (λ a. a.name) (cons_option o (filter_map (simple_action w oracle) actions)))
      by None at more = more
      by (Some b) at more = (subst IsName (sym (simple_actions_carry w oracle a b at).name) h.0, more)

pub simple_problems_are_formed : (oracle : Oracle) (p : Parts) → IsWellFormed p → IsWellFormed (simple_problem oracle p)
unfolding names
simple_problems_are_formed oracle p h = record {
  domain = h.domain;
  name = h.name;
  types = h.types;
  top_free = h.top_free;
  chains = h.chains;
  objects = h.objects;
  object_types = h.object_types;
  constants = h.constants;
  symbols = h.symbols;
  predicate_types = h.predicate_types;
  function_types = h.function_types;
  value_types = h.value_types;
  action_names = record {
    names_all = still_names (world p) oracle p.actions h.action_names.names_all;
    differ = still_differ (world p) oracle p.actions h.action_names.differ;
  };
  actions = each_as (IsAction p) _ (λ a k. action_stays p (simple_problem oracle p) a k) (filter_map (simple_action (world p) oracle) p.actions)
      (kept_actions (world p) oracle (IsAction p) (λ a b k at. simple_action_is_formed p a b k (world p) oracle at) p.actions h.actions);
  goal = formula_stays p (simple_problem oracle p) p.objects [] (simplified (world p) oracle p.goal) (simplified_is_formed p p.objects [] p.goal h.goal (world p) oracle);
  atoms = h.atoms;
  atoms_differ = h.atoms_differ;
  numbers = each_as _ _ (λ n k. numbers_stay p (simple_problem oracle p) n k) p.numbers h.numbers;
  numbers_differ = h.numbers_differ;
  values = each_as _ _ (λ v k. values_stay p (simple_problem oracle p) v k) p.values h.values;
  values_differ = h.values_differ;
  metric = metric_stays p (simple_problem oracle p) p.metric h.metric;
  constraints = each_as _ _ (λ c k. constraint_stays p (simple_problem oracle p) c k) p.constraints h.constraints;
}

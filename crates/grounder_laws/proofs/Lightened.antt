-- A problem whose actions are lighter is compiled from the problem.
use Rattle.std.proofs.Common.{◌≡◌, ◌↔◌, Bool, true, not as flip, ◌||◌, ◌&&◌, List, [], ◌∷◌, map, take, length, refl, ap, sym, ◌∙◌, subst, ⊎_elim, arith}
use Rattle.std.specs.List.{list_any, flat_map}
use Rattle.up_text.specs.declared.name.Name.{Name}
use Rattle.up_text.specs.Names.{IsName}
use Rattle.up_text.specs.Lists.{Every, Member, Differ}
use Rattle.up_tree.specs.declared.formula.Formula.{Formula}
use Rattle.up_tree.specs.declared.action.Action.{Action}
use Rattle.up_tree.specs.declared.action.Row.{Row}
use Rattle.up_tree.specs.declared.problem.Constraint.{Constraint}
use Rattle.up_tree.specs.declared.problem.Parts.{Parts}
use Rattle.up_tree.specs.declared.problem.Gives.{Gives}
use Rattle.up_tree.specs.declared.problem.Gives.TheVariants as gives
use Rattle.up_tree.specs.Objects.{World, world}
use Rattle.up_tree.specs.State.{State, init}
use Rattle.up_tree.specs.Simplify.{is_empty, is_true_formula}
use Rattle.up_tree.specs.WellFormed.{OfGives, IsRow, IsAction, IsWellFormed, formulas_of}
use Rattle.up_tree.specs.Plans.{metric_at}
use Rattle.up_kind.specs.declared.feature.Feature.{Feature}
use Rattle.up_kind.specs.declared.feature.Feature.TheVariants.{FlatTyping, HierarchicalTyping, ActionParameters, NegativeConditions, DisjunctiveConditions, Equalities, ExistentialConditions, UniversalConditions, ConditionalEffects, ForallEffects, ObjectFluents, NumericFluents, NumericConditions, NumericEffects, ScaleEffects, Metric, TrajectoryConstraints, EffectOverlap, ObjectTermsUnderForall, PartialFluents}
use Rattle.up_kind.specs.Carried.{anywhere, some_condition, some_row, is_not, is_disjunctive, is_equal, is_exists, is_forall, is_compare, is_scale, is_numeric, is_undefine, touches_objects, gives_an_object, is_total, carries}
use Rattle.up_kind.specs.Meeting.{meet, has_meeting_rows}
use Rattle.up_compiler.specs.Back.{AreOf, IsBack, LeadsTo}
use Rattle.condition_laws.proofs.Holding.{left, right, of_two, any_of_both}
use Rattle.condition_laws.proofs.Guarding.{meet-is}
use Rattle.expansion_laws.proofs.Lists.{of_map, in_map, map_of_map}
use Rattle.expansion_kinds.proofs.Tests.{any_member, any_there}
use Rattle.step_laws.specs.Naming.{Stands, entry_of}
use Rattle.step_laws.specs.Compiled.{IsCompiled}
use Rattle.step_laws.specs.SplitLaw.{CanTakeBy, next_by, SplitLaw}
use Rattle.step_laws.specs.StepLaw.{IsGoal}
use Rattle.step_laws.proofs.Splitting.{split_law}
use Rattle.step_laws.proofs.Free.{same_plans}
use Rattle.compiling_laws.proofs.Entries.{rows_from, names_from, fits_from, leads_from}
use Rattle.compiling_laws.proofs.Forms.{every_as, formula_over, variables_over, rule_over, fact_over, number_fact_over, value_fact_over, metric_over, constraint_over}
use Rattle.compiling_laws.proofs.Lists.{of_filter}
use Rattle.step_laws.proofs.Lists.{every_at, every_from}
use Rattle.finishing_laws.specs.Rewritten.{rewritten}
use Rattle.grounder_laws.specs.Grounder.{is_left_out, lighter, lightened}
use Rattle.grounder_laws.proofs.Kind.{any_flat, conditions_of, in_action}
use Rattle.grounder_laws.proofs.Lightening.{lighter_faults, lighter_next}
use Rattle.grounder_laws.proofs.Meeting.{rows_meet}

same_init : (p : Parts) → init p ≡ init (lightened p)
unfolding init
same_init p = refl

module _ (p : Parts) (formed : IsWellFormed p) where
  abbrev q : Parts
  q = lightened p

  abbrev w : World
  w = world p

  abbrev pairs : List Stands
  pairs = rewritten lighter p.actions

  abbrev itself : Action → Stands
  itself a = record { new = lighter a; old = a }

  news : map (λ (pair : Stands). pair.new) pairs ≡ q.actions
  news = map_of_map (λ (pair : Stands). pair.new) itself p.actions

  new_names : map (λ (pair : Stands). pair.new.name) pairs ≡ map (λ (a : Action). a.name) p.actions
  new_names = map_of_map (λ (pair : Stands). pair.new.name) itself p.actions

  abbrev IsOne : Stands → Type 0
  IsOne pair = Member pair.old p.actions × (pair.new ≡ lighter pair.old)

  ones : (pair : Stands) → Member pair pairs → IsOne pair
  ones pair m =
      let a = of_map itself p.actions pair m in
      (subst (λ (x : Stands). Member x.old p.actions) (sym a.2) a.1, ap (λ (x : Stands). x.new) a.2 ∙ ap (λ (x : Stands). lighter x.old) (sym a.2))

  -- ---- steps

  lighter_can : (s : State) (a : Action) (args : List Name) → CanTakeBy w s a args ↔ CanTakeBy w s (lighter a) args
  lighter_can s a args = (λ can fault h. can fault ((lighter_faults w s a args fault).0 h), λ can fault h. can fault ((lighter_faults w s a args fault).1 h))

  split : SplitLaw p q pairs (λ s t. s ≡ t)
  split = record {
    actions = sym news;
    names = subst Differ (sym new_names) formed.action_names.differ;
    olds = formed.action_names.differ;
    stand = λ pair m. let k : IsOne pair = ones pair m in (k.0, ap (λ (a : Action). length a.params) k.1);
    initial = same_init p;
    followed = λ s t e old m args can. (
      itself old,
      in_map itself p.actions old m,
      refl,
      subst (λ x. CanTakeBy w x (lighter old) args) e ((lighter_can s old args).0 can),
    );
    kept = λ s t e pair m args can.
        let k : IsOne pair = ones pair m in
        (lighter_can s pair.old args).1 (subst (λ (a : Action). CanTakeBy w s a args) k.1 (subst (λ x. CanTakeBy w x pair.new args) (sym e) can));
    next = λ s t e pair m args can.
        let k : IsOne pair = ones pair m in
        sym (lighter_next w s pair.old args) ∙ ap (λ (a : Action). next_by w s a args) (sym k.1) ∙ ap (λ x. next_by w x pair.new args) e;
    goal = λ s t e. (λ h. subst (λ x. IsGoal q x) e h, λ h. subst (λ x. IsGoal p x) (sym e) h);
    metric = λ s t e. ap (metric_at p) e;
  }

  -- ---- entries

  rows : AreOf q.actions (map entry_of pairs)
  rows = subst (λ actions. AreOf actions (map entry_of pairs)) news (rows_from pairs)

  fit : IsBack (map entry_of pairs)
  fit = record {
    differ = subst Differ (sym (names_from pairs ∙ new_names)) formed.action_names.differ;
    within = fits_from pairs (every_from _ pairs (λ pair m. omega (arith, ap (λ (a : Action). length a.params) (ones pair m).1)));
  }

  leads : LeadsTo p (map entry_of pairs)
  leads = leads_from p formed.action_names.differ pairs (every_from _ pairs (λ pair m. (ones pair m).0))

  -- ---- form

  gives_over : (g : Gives) → OfGives p g → OfGives q g
  gives_over gives.Number h = h
  gives_over (gives.Object t) h = h

  lighter_formed : (a : Action) → IsAction p a → IsAction q (lighter a)
  lighter_formed a h = record {
    params = variables_over p q.actions p.goal [] a.params h.params;
    pre = formula_over p q.actions p.goal (take p.constants p.objects) a.params a.pre h.pre;
    rows = every_from _ (lighter a).rows (λ r m.
        rule_over p q.actions p.goal (take p.constants p.objects) a.params r
        (every_at (IsRow p (take p.constants p.objects) a.params) a.rows r h.rows (of_filter (λ r. flip (is_left_out a.rows r)) a.rows r m).0));
  }

  same_names : map (λ (a : Action). a.name) p.actions ≡ map (λ (a : Action). a.name) q.actions
  same_names = sym (map_of_map (λ (a : Action). a.name) lighter p.actions)

  pub lightened_formed : IsWellFormed q
  lightened_formed = record {
    domain = formed.domain;
    name = formed.name;
    types = formed.types;
    top_free = formed.top_free;
    chains = formed.chains;
    objects = formed.objects;
    object_types = formed.object_types;
    constants = formed.constants;
    symbols = formed.symbols;
    predicate_types = formed.predicate_types;
    function_types = formed.function_types;
    value_types = every_as _ _ p.functions (λ d k. gives_over d.gives k) formed.value_types;
    action_names = record {
      names_all = subst (Every IsName) same_names formed.action_names.names_all;
      differ = subst Differ same_names formed.action_names.differ;
    };
    actions = every_from (IsAction q) q.actions (λ x m.
        let a = of_map lighter p.actions x m in subst (IsAction q) (sym a.2) (lighter_formed a.0 (every_at (IsAction p) p.actions a.0 formed.actions a.1)));
    goal = formula_over p q.actions p.goal p.objects [] p.goal formed.goal;
    atoms = every_as _ _ p.atoms (fact_over p q.actions p.goal) formed.atoms;
    atoms_differ = formed.atoms_differ;
    numbers = every_as _ _ p.numbers (number_fact_over p q.actions p.goal) formed.numbers;
    numbers_differ = formed.numbers_differ;
    values = every_as _ _ p.values (value_fact_over p q.actions p.goal) formed.values;
    values_differ = formed.values_differ;
    metric = metric_over p q.actions p.goal p.metric formed.metric;
    constraints = every_as _ _ p.constraints (constraint_over p q.actions p.goal) formed.constraints;
  }

  -- ---- features

  of_actions : (test other : Action → Bool) → ((a : Action) → test (lighter a) ≡ true → other a ≡ true) → list_any test q.actions ≡ true → list_any other p.actions ≡ true
  of_actions test other each h =
      let x = any_member test q.actions h in
      let a = of_map lighter p.actions x.0 x.1 in
      any_there other p.actions a.0 a.1 (each a.0 (subst (λ (y : Action). test y ≡ true) a.2 x.2))

  of_some : (a : Action) (t : Row → Bool) → list_any t (lighter a).rows ≡ true → list_any t a.rows ≡ true
  of_some a t h =
      let r = any_member t (lighter a).rows h in
      any_there t a.rows r.0 (of_filter (λ r. flip (is_left_out a.rows r)) a.rows r.0 r.1).0 r.2

  of_rows : (t : Row → Bool) → some_row q t ≡ true → some_row p t ≡ true
  of_rows t = of_actions (λ a. list_any t a.rows) (λ a. list_any t a.rows) (λ a h. of_some a t h)

  of_when : (t : Formula → Bool) (rs : List Row) → list_any t (map (λ (r : Row). r.when) rs) ≡ list_any (λ (r : Row). t r.when) rs
  of_when t [] = refl
  of_when t (r ∷ rs) = ap (λ b. t r.when || b) (of_when t rs)

  of_conditions_of : (t : Formula → Bool) (a : Action) → in_action t (lighter a) ≡ true → in_action t a ≡ true
  of_conditions_of t a h =
      ⊎_elim (λ e. left (anywhere t a.pre) (list_any (anywhere t) (map (λ (r : Row). r.when) a.rows)) e)
      (λ e. right (anywhere t a.pre) (list_any (anywhere t) (map (λ (r : Row). r.when) a.rows))
      (of_when (anywhere t) a.rows ∙ of_some a (λ (r : Row). anywhere t r.when) (sym (of_when (anywhere t) (lighter a).rows) ∙ e)))
      (of_two (anywhere t a.pre) (list_any (anywhere t) (map (λ (r : Row). r.when) (lighter a).rows)) h)

  abbrev others : List Formula
  others = p.goal ∷ flat_map (λ (c : Constraint). formulas_of c.rule) p.constraints

  of_conditions : (t : Formula → Bool) → some_condition q t ≡ true → some_condition p t ≡ true
  of_conditions t h =
      any_of_both (anywhere t) (flat_map conditions_of p.actions) others
      ∙ ⊎_elim
      (λ e. left (list_any (anywhere t) (flat_map conditions_of p.actions)) (list_any (anywhere t) others) (any_flat (anywhere t) conditions_of p.actions
      ∙ of_actions (in_action t) (in_action t) (of_conditions_of t) (sym (any_flat (anywhere t) conditions_of q.actions) ∙ e)))
      (λ e. right (list_any (anywhere t) (flat_map conditions_of p.actions)) (list_any (anywhere t) others) e)
      (of_two (list_any (anywhere t) (flat_map conditions_of q.actions)) (list_any (anywhere t) others) (sym (any_of_both (anywhere t) (flat_map conditions_of q.actions) others) ∙ h))

  meets : (a : Action) → has_meeting_rows p (lighter a) ≡ true → has_meeting_rows p a ≡ true
  meets a h =
      let d = any_member (λ d. list_any (meet p (lighter a) d) (lighter a).rows) (lighter a).rows h in
      let r = any_member (meet p (lighter a) d.0) (lighter a).rows d.2 in
      any_there (λ d. list_any (meet p a d) a.rows) a.rows d.0 (of_filter (λ r. flip (is_left_out a.rows r)) a.rows d.0 d.1).0
      (any_there (meet p a d.0) a.rows r.0 (of_filter (λ r. flip (is_left_out a.rows r)) a.rows r.0 r.1).0
      (meet-is p a d.0 r.0 ∙ sym (meet-is p (lighter a) d.0 r.0) ∙ r.2))

  pub lightened_features : (f : Feature) → carries q f ≡ true → carries p f ≡ true
  lightened_features FlatTyping h = h
  lightened_features HierarchicalTyping h = h
  lightened_features ActionParameters h = of_actions (λ a. flip (is_empty a.params)) (λ a. flip (is_empty a.params)) (λ a k. k) h
  lightened_features NegativeConditions h = of_conditions is_not h
  lightened_features DisjunctiveConditions h = of_conditions is_disjunctive h
  lightened_features Equalities h = of_conditions is_equal h
  lightened_features ExistentialConditions h = of_conditions is_exists h
  lightened_features UniversalConditions h = of_conditions is_forall h
  lightened_features ConditionalEffects h = of_rows (λ r. flip (is_true_formula r.when)) h
  lightened_features ForallEffects h = of_rows (λ r. flip (is_empty r.vars)) h
  lightened_features ObjectFluents h = h
  lightened_features NumericFluents h = h
  lightened_features NumericConditions h = of_conditions is_compare h
  lightened_features NumericEffects h = of_rows (λ r. is_numeric r.effect) h
  lightened_features ScaleEffects h = of_rows (λ r. is_scale r.effect) h
  lightened_features Metric h = h
  lightened_features TrajectoryConstraints h = h
  lightened_features EffectOverlap h = of_actions (has_meeting_rows q) (has_meeting_rows p) (λ a k. meets a (rows_meet p q refl refl refl (lighter a) ∙ k)) h
  lightened_features ObjectTermsUnderForall h = of_rows (λ r. flip (is_empty r.vars) && touches_objects r.effect) h
  lightened_features PartialFluents h =
      ⊎_elim (λ e. left (list_any (λ d. gives_an_object d && flip (is_total p d)) p.functions) (some_row p (λ r. is_undefine r.effect)) e)
      (λ e. right (list_any (λ d. gives_an_object d && flip (is_total p d)) p.functions) (some_row p (λ r. is_undefine r.effect)) (of_rows (λ r. is_undefine r.effect) e))
      (of_two (list_any (λ d. gives_an_object d && flip (is_total p d)) p.functions) (some_row q (λ r. is_undefine r.effect)) h)

pub lightened_is_compiled : (p : Parts) → IsWellFormed p → p.constraints ≡ [] → IsCompiled (carries p) p (lightened p) (map entry_of (rewritten lighter p.actions))
lightened_is_compiled p formed free = record {
  formed = λ h. lightened_formed p formed;
  features = λ f h. lightened_features p formed f h;
  metric = refl;
  entries = rows p formed;
  fit = fit p formed;
  leads = leads p formed;
  plans = same_plans p (lightened p) (map entry_of (rewritten lighter p.actions)) (λ s t. s ≡ t) (rows p formed) (fit p formed) free free
      (split_law (λ s t. s ≡ t) p (lightened p) (rewritten lighter p.actions) (split p formed));
}

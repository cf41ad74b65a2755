-- A problem in normal form is compiled from the problem.
use Rattle.std.proofs.Common.{◌≡◌, ◌⊎◌, ◌↔◌, Bool, true, false, not as flip, ◌&&◌, ◌||◌, List, [], ◌∷◌, map, take, Option, Some, None, option_map, IsSomeAnd, refl, ap, sym, ◌∙◌, subst, inl, inr, ⊎_elim, IsTrue}
use Rattle.std.specs.List.{list_any, flat_map}
use Rattle.up_text.specs.declared.name.Name.{Name}
use Rattle.up_text.specs.Names.{same_name}
use Rattle.up_text.specs.Lists.{Every, Somewhere, Member}
use Rattle.up_tree.specs.declared.formula.Formula.{Formula}
use Rattle.up_tree.specs.declared.action.Action.{Action}
use Rattle.up_tree.specs.declared.action.Row.{Row}
use Rattle.up_tree.specs.declared.problem.Constraint.{Constraint}
use Rattle.up_tree.specs.declared.problem.Parts.{Parts}
use Rattle.up_tree.specs.declared.problem.Plan.{Plan}
use Rattle.up_tree.specs.declared.problem.Step.{Step}
use Rattle.up_tree.specs.declared.problem.Gives.{Gives}
use Rattle.up_tree.specs.declared.problem.Gives.TheVariants as gives
use Rattle.up_tree.specs.declared.truth.Truth.{Truth}
use Rattle.up_tree.specs.declared.truth.Truth.TheVariants as truth
use Rattle.up_tree.specs.Normal.{nnf}
use Rattle.up_tree.specs.Objects.{World, world, Assignment, unassigned, action_named}
use Rattle.up_tree.specs.State.{State, init}
use Rattle.up_tree.specs.Judged.{Judges, truth_of}
use Rattle.up_tree.specs.Instances.{firing}
use Rattle.up_tree.specs.Changes.{changed}
use Rattle.up_tree.specs.Faults.{Fault, Applies}
use Rattle.up_tree.specs.Plans.{RunsFrom, IsRun, OfLast, ReachesGoal, Keeps, Plans, MetricOf}
use Rattle.up_tree.specs.Simplify.{is_empty, is_true_formula}
use Rattle.up_tree.specs.WellFormed.{IsWellFormed, AreDeclared, IsAction, OfGives, formulas_of}
use Rattle.up_tree.proofs.Judging.{judged}
use Rattle.up_tree.proofs.Steps.{ByAction}
use Rattle.up_kind.specs.declared.feature.Feature.TheVariants.{FlatTyping, HierarchicalTyping, ActionParameters, NegativeConditions, DisjunctiveConditions, Equalities, ExistentialConditions, UniversalConditions, ConditionalEffects, ForallEffects, ObjectFluents, NumericFluents, NumericConditions, NumericEffects, ScaleEffects, Metric, TrajectoryConstraints, EffectOverlap, ObjectTermsUnderForall, PartialFluents}
use Rattle.up_kind.specs.Features.{IsSubset, is_in, either}
use Rattle.up_kind.specs.Carried.{anywhere, carries, conditions, some_condition, is_not, is_disjunctive, is_equal, is_exists, is_forall, is_compare, is_numeric, is_scale, is_undefine, touches_objects, gives_an_object, is_total}
use Rattle.up_kind.specs.Meeting.{has_meeting_rows}
use Rattle.up_compiler.specs.Table.{admits, only_if}
use Rattle.semantics_laws.specs.SameTruth.{SameTruth}
use Rattle.semantics_laws.proofs.Same.{computed}
use Rattle.condition_laws.specs.Guards.{IsRowOf}
use Rattle.condition_laws.specs.Problems.{DeclaresTheSame}
use Rattle.condition_laws.proofs.Forming.{normal_keeps}
use Rattle.condition_laws.proofs.Shaping.{normal_is_formed}
use Rattle.condition_laws.proofs.Keeping.{normals_carry}
use Rattle.condition_laws.proofs.Guarding.{normal_keeps_guards, guarded_dont_meet}
use Rattle.condition_laws.proofs.Declaring.{formulas_are_of_declared, actions_are_of_declared}
use Rattle.expansion_laws.specs.SameDoing.{SameOutcomes, SameStep}
use Rattle.expansion_laws.proofs.Doing.{by_path, after, turned, same_doing}
use Rattle.expansion_laws.proofs.Steps.{steps_follow}
use Rattle.step_laws.proofs.Splitting.{find_map}
use Rattle.same_plans.specs.SamePlans.{MetricValue}
use Rattle.compiling_laws.proofs.Forms.{every_as, fact_over, number_fact_over, value_fact_over, metric_over, constraint_over}
use Rattle.compiling_laws.proofs.Lists.{false_true, any_true, any_from, member_left, member_right, member_either, of_map, member_flat, of_flat}
use Rattle.step_laws.proofs.Lists.{every_at, every_from}
use Rattle.condition_laws.proofs.Otherwise.{rows_meet}
use Rattle.finishing_laws.proofs.Rewritten.{rewritten_compiles}
use Rattle.up_compiler.specs.declared.id.CompilerId.TheVariants.{Negations}
use Rattle.step_laws.specs.Compiled.{IsCompiled}
use Rattle.step_laws.specs.Naming.{entry_of}
use Rattle.finishing_laws.specs.Rewritten.{rewritten}
use Rattle.negations_laws.specs.Kinds.{normal_kind}
use Rattle.negations_laws.specs.Negations.{normal_action, normal_form}
use Rattle.negations_laws.proofs.Truth.{left, right}
use Rattle.negations_laws.proofs.Admitted.{no_constraints}

-- ---- truth, computed

same_judge : (w : World) (s : State) (e : Assignment) (f g : Formula) → SameTruth w s e g s e f → truth_of w s e g ≡ truth_of w s e f
same_judge w s e f g same = by (truth_of w s e g) (judged w s e g (truth_of w s e g) refl)
  where
    by : (v : Truth) → Judges w s e g v → v ≡ truth_of w s e f
    by truth.True h = computed w s e f truth.True (same.true_where.0 h)
    by truth.False h = computed w s e f truth.False (same.false_where.0 h)
    by truth.Undefined h = computed w s e f truth.Undefined ((λ k. h.0 (same.true_where.1 k)), (λ k. h.1 (same.false_where.1 k)))

normal_truth : (w : World) (s : State) (e : Assignment) (f : Formula) → truth_of w s e f ≡ truth_of w s e (nnf f)
normal_truth w s e f = sym (same_judge w s e f (nnf f) (normal_keeps w s e f))

-- ---- steps and runs

same_both : {A : Type 0} → A ↔ A
same_both = ((λ h. h), (λ h. h))

module _ (p : Parts) where
  abbrev r : Parts
  r = normal_form p

  found_normal : (name : Name) → action_named r name ≡ option_map normal_action (action_named p name)
  found_normal name = find_map normal_action (λ (a : Action). same_name a.name name) p.actions

  pub outcomes_same : (a : Action) (args : List Name) → SameOutcomes (world p) a args (world r) (normal_action a) args
  outcomes_same a args = record {
    unknown_both = λ s. same_both;
    arity_both = λ s. same_both;
    type_both = λ s. same_both;
    pre = λ s. normal_truth (world p) s _ a.pre;
    rows = λ s. refl;
  }

  no_step : (step : Step) → action_named p step.action ≡ None → action_named r step.action ≡ None → SameStep p step r step
  no_step step here there =
      let alike : (s : State) (fault : Fault) → Applies p s step fault ↔ Applies r s step fault =
      λ s fault. after (by_path (ap (λ x. ByAction p s step.args x fault) here)) (turned (by_path (ap (λ x. ByAction r s step.args x fault) there)))
      in
      record {
        faults = alike;
        can_take = λ s. ((λ can fault h. can fault ((alike s fault).1 h)), (λ can fault h. can fault ((alike s fault).0 h)));
        next = λ s t. ((λ h. absurd (subst (λ x. IsSomeAnd x (λ a. t ≡ changed s (firing (world p) s a step.args))) here h)), (λ h. absurd (subst (λ x. IsSomeAnd x (λ a. t ≡ changed s (firing (world r) s a step.args))) there h)));
      }

  step_stays : (step : Step) → SameStep p step r step
  step_stays step = by (action_named p step.action) refl
    where
      by : (found : Option Action) → action_named p step.action ≡ found → SameStep p step r step
      by None is = no_step step is (found_normal step.action ∙ ap (option_map normal_action) is)
      by (Some a) is =
          steps_follow p step a r step (normal_action a) is (found_normal step.action ∙ ap (option_map normal_action) is)
          (same_doing (world p) a step.args (world r) (normal_action a) step.args (outcomes_same a step.args))

  runs_stay : (steps : List Step) (s : State) (states : List State) → RunsFrom p s steps states ↔ RunsFrom r s steps states
  runs_stay [] s states = same_both
  runs_stay (step ∷ steps) s states =
      let one : SameStep p step r step = step_stays step in (
        (λ h. ((one.can_take s).0 h.0, (h.1.0, h.1.1, (one.next s h.1.0).0 h.1.2, h.1.3, (runs_stay steps h.1.0 h.1.1).0 h.1.4))),
        (λ h. ((one.can_take s).1 h.0, (h.1.0, h.1.1, (one.next s h.1.0).1 h.1.2, h.1.3, (runs_stay steps h.1.0 h.1.1).1 h.1.4))),
      )

  run_stays : (plan : Plan) (states : List State) → IsRun p plan states ↔ IsRun r plan states
  unfolding init
  run_stays plan states = runs_stay plan.steps (init p) states

  last_alike : (P Q : State → Type 0) → ((s : State) → P s → Q s) → (states : List State) → OfLast P states → OfLast Q states
  last_alike P Q h [] last = last
  last_alike P Q h (s ∷ []) last = h s last
  last_alike P Q h (s ∷ t ∷ rest) last = last_alike P Q h (t ∷ rest) last

  goal_stays : (states : List State) → ReachesGoal p states ↔ ReachesGoal r states
  goal_stays states = (
    (λ h. last_alike _ _ (λ s k. (normal_keeps (world p) s unassigned p.goal).true_where.1 k) states h),
    (λ h. last_alike _ _ (λ s k. (normal_keeps (world p) s unassigned p.goal).true_where.0 k) states h),
  )

  none_kept : p.constraints ≡ [] → (x : Parts) (states : List State) → Every (Keeps x states) p.constraints
  none_kept free x states = subst (λ (cs : List Constraint). Every (Keeps x states) cs) (sym free) tt

  plans_stay : p.constraints ≡ [] → (plan : Plan) → Plans p plan ↔ Plans r plan
  plans_stay free plan = (
    (λ h. (h.0, (run_stays plan h.0).0 h.1, (goal_stays h.0).0 h.2, none_kept free r h.0)),
    (λ h. (h.0, (run_stays plan h.0).1 h.1, (goal_stays h.0).1 h.2, none_kept free p h.0)),
  )

  metrics_stay : (plan : Plan) (v : MetricValue) → MetricOf p plan v ↔ MetricOf r plan v
  metrics_stay plan v = ((λ h. (h.0, (run_stays plan h.0).0 h.1, h.2)), (λ h. (h.0, (run_stays plan h.0).1 h.1, h.2)))

  -- ---- form

  declares : DeclaresTheSame p r
  declares = record { types = refl; constants = refl; objects = refl; predicates = refl; functions = refl }

  action_formed : (a : Action) → IsAction p a → IsAction r (normal_action a)
  action_formed a is = actions_are_of_declared p r declares (normal_action a) (record {
    params = is.params;
    pre = (normal_is_formed p (take p.constants p.objects) a.params a.pre is.pre).0;
    rows = is.rows;
  })

  names_stay : (actions : List Action) → map (λ (a : Action). a.name) (map normal_action actions) ≡ map (λ (a : Action). a.name) actions
  names_stay [] = refl
  names_stay (a ∷ actions) = ap (λ l. a.name ∷ l) (names_stay actions)

  formed : IsWellFormed p → IsWellFormed r
  formed well = record {
    domain = well.domain;
    name = well.name;
    types = well.types;
    top_free = well.top_free;
    chains = well.chains;
    objects = well.objects;
    object_types = well.object_types;
    constants = well.constants;
    symbols = well.symbols;
    predicate_types = well.predicate_types;
    function_types = well.function_types;
    value_types = every_as _ _ p.functions (λ d k. gives_over d.gives k) well.value_types;
    action_names = subst AreDeclared (sym (names_stay p.actions)) well.action_names;
    actions = every_from (IsAction r) r.actions (λ b m. let a = of_map normal_action p.actions b m in subst (IsAction r) (sym a.2) (action_formed a.0 (every_at (IsAction p) p.actions a.0 well.actions a.1)));
    goal = formulas_are_of_declared p r declares p.objects [] (nnf p.goal) (normal_is_formed p p.objects [] p.goal well.goal).0;
    atoms = every_as _ _ p.atoms (fact_over p r.actions r.goal) well.atoms;
    atoms_differ = well.atoms_differ;
    numbers = every_as _ _ p.numbers (number_fact_over p r.actions r.goal) well.numbers;
    numbers_differ = well.numbers_differ;
    values = every_as _ _ p.values (value_fact_over p r.actions r.goal) well.values;
    values_differ = well.values_differ;
    metric = metric_over p r.actions r.goal p.metric well.metric;
    constraints = every_as _ _ p.constraints (constraint_over p r.actions r.goal) well.constraints;
  }
    where
      gives_over : (g : Gives) → OfGives p g → OfGives r g
      gives_over gives.Number h = h
      gives_over (gives.Object t) h = h

  -- ---- features

  abbrev of_action : Action → List Formula
  of_action a = a.pre ∷ map (λ (x : Row). x.when) a.rows

  abbrev others : List Formula
  others = flat_map (λ (c : Constraint). formulas_of c.rule) p.constraints

  in_action : (a : Action) → Member a p.actions → (f : Formula) → Member f (of_action a) → Member f (conditions p)
  in_action a m f k = member_left f (flat_map of_action p.actions) (p.goal ∷ others) (member_flat of_action a f p.actions m k)

  -- a condition is one of the problem's, or the normal form of one
  comes : (f : Formula) → Member f (conditions r) → Member f (conditions p) ⊎ ((g : Formula) × Member g (conditions p) × (f ≡ nnf g))
  comes f m = ⊎_elim
      (λ k. let b = of_flat of_action f r.actions k in
      let a = of_map normal_action p.actions b.0 b.1 in
      ⊎_elim (λ e. inr (a.0.pre, in_action a.0 a.1 a.0.pre (inl refl), e ∙ ap (λ (b : Action). b.pre) a.2))
      (λ j. inl (in_action a.0 a.1 f (inr (subst (λ (b : Action). Member f (map (λ (x : Row). x.when) b.rows)) a.2 j))))
      b.2)
      (λ k. ⊎_elim (λ e. inr (p.goal, member_right p.goal (flat_map of_action p.actions) (p.goal ∷ others) (inl refl), e))
      (λ j. inl (member_right f (flat_map of_action p.actions) (p.goal ∷ others) (inr j))) k)
      (member_either f (flat_map of_action r.actions) (nnf p.goal ∷ others) m)

  has : (t : Formula → Bool) (g : Formula) → Member g (conditions p) → anywhere t g ≡ true → some_condition p t ≡ true
  has t g m h = any_from (anywhere t) (conditions p) g m h

  some_in : {X : Type 0} (t : Formula → Bool) → (some_condition p t ≡ true → X) → ((g : Formula) → Member g (conditions p) → anywhere t (nnf g) ≡ true → X) → some_condition r t ≡ true → X
  some_in t same normal h =
      let f = any_true (anywhere t) (conditions r) h in
      ⊎_elim (λ m. same (has t f.0 m f.2)) (λ k. normal k.0 k.1 (subst (λ f. anywhere t f ≡ true) k.2 f.2)) (comes f.0 f.1)

  same_rows : (t : Action → Bool) → ((a : Action) → t (normal_action a) ≡ t a) → (actions : List Action) → list_any t (map normal_action actions) ≡ list_any t actions
  same_rows t same [] = refl
  same_rows t same (a ∷ actions) = λ i. same a i || same_rows t same actions i

  overlaps : list_any (has_meeting_rows r) r.actions ≡ true → list_any (has_meeting_rows p) p.actions ≡ true
  overlaps h =
      let b = any_true (has_meeting_rows r) r.actions h in
      let a = of_map normal_action p.actions b.0 b.1 in
      let met : has_meeting_rows r (normal_action a.0) ≡ true = subst (λ (b : Action). has_meeting_rows r b ≡ true) a.2 b.2 in
      any_from (has_meeting_rows p) p.actions a.0 a.1
      (guarded_dont_meet p (normal_action a.0) a.0 refl (normal_keeps_guards a.0.pre)
      (themselves a.0.rows) (sym (meet_same (normal_action a.0)) ∙ met))
    where
      meet_same : (a : Action) → has_meeting_rows r a ≡ has_meeting_rows p a
      meet_same a = rows_meet p p.constants p.predicates p.atoms r.actions r.goal p.constraints a

      more : (x : Row) (q : Row) (rows : List Row) → Somewhere (λ k. IsRowOf q k) rows → Somewhere (λ k. IsRowOf q k) (x ∷ rows)
      more x q rows h = inr h

      themselves : (rows : List Row) → Every (λ q. Somewhere (λ k. IsRowOf q k) rows) rows
      themselves rows = every_from _ rows (λ q m. there rows q m)
        where
          there : (rows : List Row) (q : Row) → Member q rows → Somewhere (λ k. IsRowOf q k) rows
          there [] q m = absurd m
          there (x ∷ rows) q (inl e) = inl (record { vars = ap (λ (x : Row). x.vars) e; effect = ap (λ (x : Row). x.effect) e })
          there (x ∷ rows) q (inr m) = inr (there rows q m)

  stays : (b c d : Bool) → b ≡ true → ((b || c) || d) ≡ true
  stays b c d e = left (b || c) d (left b c e)

  both_true : (a b : Bool) → a ≡ true → b ≡ true → (a && b) ≡ true
  both_true true b e h = h
  both_true false b e h = false_true e

  negative : carries r NegativeConditions ≡ true → normal_kind (carries p) NegativeConditions ≡ true
  unfolding either only_if is_in
  negative h = some_in is_not (λ k. stays _ _ _ k)
      (λ g m k. ⊎_elim (λ j. stays _ _ _ (has is_not g m j))
      (λ j. left _ _ (right (carries p NegativeConditions) _ (both_true _ _ (has is_disjunctive g m j) refl)))
      ((normals_carry g).negations k)) h

  existential : carries r ExistentialConditions ≡ true → normal_kind (carries p) ExistentialConditions ≡ true
  unfolding either only_if is_in
  existential h = some_in is_exists (λ k. stays _ _ _ k)
      (λ g m k. ⊎_elim (λ j. stays _ _ _ (has is_exists g m j))
      (λ j. right (carries p ExistentialConditions || (carries p DisjunctiveConditions && false)) _ (both_true _ _ (both_true _ _ (has is_disjunctive g m j.1)
      (right (carries p ExistentialConditions) _ (has is_forall g m j.0))) refl))
      ((normals_carry g).existential k)) h

  universal : carries r UniversalConditions ≡ true → normal_kind (carries p) UniversalConditions ≡ true
  unfolding either only_if is_in
  universal h = some_in is_forall (λ k. stays _ _ _ k)
      (λ g m k. ⊎_elim (λ j. stays _ _ _ (has is_forall g m j))
      (λ j. right (carries p UniversalConditions || (carries p DisjunctiveConditions && false)) _ (both_true _ _ (both_true _ _ (has is_disjunctive g m j.1)
      (left _ (carries p UniversalConditions) (has is_exists g m j.0))) refl))
      ((normals_carry g).universal k)) h

  within_kind : IsSubset (carries r) (normal_kind (carries p))
  unfolding either only_if is_in
  within_kind FlatTyping h = stays _ _ _ h
  within_kind HierarchicalTyping h = stays _ _ _ h
  within_kind ActionParameters h = stays _ _ _ (sym (same_rows (λ a. flip (is_empty a.params)) (λ a. refl) p.actions) ∙ h)
  within_kind NegativeConditions h = negative h
  within_kind DisjunctiveConditions h = stays _ _ _ (some_in is_disjunctive (λ k. k) (λ g m k. has is_disjunctive g m ((normals_carry g).disjunctive k)) h)
  within_kind Equalities h = stays _ _ _ (some_in is_equal (λ k. k) (λ g m k. has is_equal g m ((normals_carry g).equalities k)) h)
  within_kind ExistentialConditions h = existential h
  within_kind UniversalConditions h = universal h
  within_kind ConditionalEffects h = stays _ _ _ (sym (same_rows (λ a. list_any (λ r. flip (is_true_formula r.when)) a.rows) (λ a. refl) p.actions) ∙ h)
  within_kind ForallEffects h = stays _ _ _ (sym (same_rows (λ a. list_any (λ r. flip (is_empty r.vars)) a.rows) (λ a. refl) p.actions) ∙ h)
  within_kind ObjectFluents h = stays _ _ _ h
  within_kind NumericFluents h = stays _ _ _ h
  within_kind NumericConditions h = stays _ _ _ (some_in is_compare (λ k. k) (λ g m k. has is_compare g m ((normals_carry g).comparisons k)) h)
  within_kind NumericEffects h = stays _ _ _ (sym (same_rows (λ a. list_any (λ r. is_numeric r.effect) a.rows) (λ a. refl) p.actions) ∙ h)
  within_kind ScaleEffects h = stays _ _ _ (sym (same_rows (λ a. list_any (λ r. is_scale r.effect) a.rows) (λ a. refl) p.actions) ∙ h)
  within_kind Metric h = stays _ _ _ h
  within_kind TrajectoryConstraints h = stays _ _ _ h
  within_kind EffectOverlap h = stays _ _ _ (overlaps h)
  within_kind ObjectTermsUnderForall h = stays _ _ _ (sym (same_rows (λ a. list_any (λ r. flip (is_empty r.vars) && touches_objects r.effect) a.rows) (λ a. refl) p.actions) ∙ h)
  within_kind PartialFluents h =
      stays _ _ _ (ap (λ b. list_any (λ d. gives_an_object d && flip (is_total p d)) p.functions || b) (sym (same_rows (λ a. list_any (λ r. is_undefine r.effect) a.rows) (λ a. refl) p.actions)) ∙ h)

pub normal_is_compiled : (p : Parts) → IsWellFormed p → IsTrue (admits Negations (carries p))
    → IsCompiled (normal_kind (carries p)) p (normal_form p) (map entry_of (rewritten normal_action p.actions))
normal_is_compiled p well is =
    rewritten_compiles (normal_kind (carries p)) p (normal_form p) normal_action (record {
      names = λ a. refl;
      params = λ a. refl;
      actions = refl;
      formed = formed p;
      features = within_kind p;
      metric = refl;
      plans = plans_stay p (no_constraints p is);
      metrics = λ plan valid. metrics_stay p plan;
    }) well

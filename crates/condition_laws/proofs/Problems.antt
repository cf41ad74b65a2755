-- A problem that is simplified has the same plans and no more features.
use Rattle.std.proofs.Common.{◌≡◌, ◌↔◌, Bool, true, false, ◌||◌, ◌&&◌, not as flip, true≢false, List, [], ◌∷◌, map, Option, Some, None, refl, ap, sym, ◌∙◌, ⊎_elim}
use Rattle.std.specs.List.{list_any, flat_map, filter_map, cons_option}
use Rattle.up_text.specs.Lists.{Every}
use Rattle.up_tree.specs.declared.term.Typed.{Typed}
use Rattle.up_tree.specs.declared.formula.Formula.{Formula}
use Rattle.up_tree.specs.declared.action.Effect.{Effect}
use Rattle.up_tree.specs.declared.action.Action.{Action}
use Rattle.up_tree.specs.declared.problem.Constraint.{Constraint}
use Rattle.up_tree.specs.declared.problem.Rule.{Rule}
use Rattle.up_tree.specs.declared.problem.Rule.TheVariants.{Always, Sometime, AtMostOnce, SometimeAfter, SometimeBefore}
use Rattle.up_tree.specs.declared.problem.Parts.{Parts}
use Rattle.up_tree.specs.declared.problem.Plan.{Plan}
use Rattle.up_tree.specs.declared.problem.Step.{Step}
use Rattle.up_tree.specs.Objects.{World, world, Assignment, unassigned, assign}
use Rattle.up_tree.specs.State.{State, init}
use Rattle.up_tree.specs.Plans.{RunsFrom, IsRun, OfLast, Keeps, KeepsRule, Plans, MetricOf}
use Rattle.up_tree.specs.Simplify.{Oracle, is_empty, is_true_formula, is_false_formula, simplified, simple_action}
use Rattle.up_tree.specs.WellFormed.{IsWellFormed, formulas_of}
use Rattle.up_kind.specs.declared.feature.Feature.{Feature}
use Rattle.up_kind.specs.declared.feature.Feature.TheVariants.{FlatTyping, HierarchicalTyping, ActionParameters, NegativeConditions, DisjunctiveConditions, Equalities, ExistentialConditions, UniversalConditions, ConditionalEffects, ForallEffects, ObjectFluents, NumericFluents, NumericConditions, NumericEffects, ScaleEffects, Metric, TrajectoryConstraints, EffectOverlap, ObjectTermsUnderForall, PartialFluents}
use Rattle.up_kind.specs.Carried.{anywhere, some_condition, some_row, is_not, is_disjunctive, is_equal, is_exists, is_forall, is_compare, is_scale, is_numeric, is_undefine, touches_objects, gives_an_object, is_total, carries}
use Rattle.up_kind.specs.Meeting.{has_meeting_rows}
use Rattle.semantics_laws.specs.SameTruth.{SameTruth}
use Rattle.condition_laws.specs.Oracles.{IsInitial, IsUnchanged}
use Rattle.condition_laws.specs.Carrying.{IsSimpleRow, ActionCarries, SimplifiedCarries}
use Rattle.condition_laws.specs.Steps.{HasSimpleActions}
use Rattle.condition_laws.specs.Problems.{simple_problem}
use Rattle.condition_laws.proofs.Holding.{left, right, of_two, any_of_both}
use Rattle.condition_laws.proofs.Simplifying.{simplified_keeps, initial_tells}
use Rattle.condition_laws.proofs.Assigning.{is_assigned}
use Rattle.condition_laws.proofs.Running.{runs_leave_unchanged}
use Rattle.condition_laws.proofs.Carrying.{simplified_carry}
use Rattle.condition_laws.proofs.ActionFeatures.{simple_actions_carry}
use Rattle.condition_laws.proofs.Otherwise.{rows_meet}
use Rattle.condition_laws.proofs.Guarding.{any_of, simple_actions_dont_meet}
use Rattle.condition_laws.proofs.Stepping.{simple_actions_run}
use Rattle.up_frac.specs.Fraction.{Fraction}
use Rattle.std.specs.Prelude.{IsTrue}

same : {A : Type 0} → A ↔ A
same = (λ a. a, λ a. a)

-- ---- runs and plans

of_last : (P Q R : State → Type 0) → ((s : State) → P s → Q s → R s) → (states : List State) → Every P states → OfLast Q states → OfLast R states
of_last P Q R h [] each last = last
of_last P Q R h (s ∷ []) each last = h s each.0 last
of_last P Q R h (s ∷ t ∷ rest) each last = of_last P Q R h (t ∷ rest) each.1 last

module _ (oracle : Oracle) (p : Parts) (well : IsWellFormed p) (initial : IsInitial p oracle) where
  q : Parts
  q = simple_problem oracle p

  has : HasSimpleActions oracle q p
  unfolding q
  has = record { same_world = refl; actions = refl; well_formed = well.actions; differ = well.action_names.differ }

  same_run : (steps : List Step) (states : List State) → RunsFrom q (init q) steps states ↔ RunsFrom p (init p) steps states
  unfolding q init
  same_run steps states = simple_actions_run oracle q p has initial steps states

  goal_at : (s : State) → IsUnchanged p s → SameTruth (world p) s unassigned (simplified (world p) oracle p.goal) s unassigned p.goal
  goal_at s is =
      simplified_keeps (world p) s unassigned oracle p.goal (initial_tells p s oracle initial is)
      (is_assigned p p.objects [] p.goal well.goal (world p) unassigned (λ v h. absurd (true≢false (sym h))))

  rule_kept : (states : List State) (e : Assignment) (rule : Rule) → KeepsRule q states e rule ↔ KeepsRule p states e rule
  unfolding q
  rule_kept states e (Always f) = same
  rule_kept states e (Sometime f) = same
  rule_kept states e (AtMostOnce f) = same
  rule_kept states e (SometimeAfter f g) = same
  rule_kept states e (SometimeBefore f g) = same

  constraints_to : (states : List State) (cs : List Constraint) → Every (Keeps q states) cs → Every (Keeps p states) cs
  unfolding q
  constraints_to states [] h = tt
  constraints_to states (c ∷ cs) h = (λ tuple m. (rule_kept states (assign c.vars tuple unassigned) c.rule).0 (h.0 tuple m), constraints_to states cs h.1)

  constraints_from : (states : List State) (cs : List Constraint) → Every (Keeps p states) cs → Every (Keeps q states) cs
  unfolding q
  constraints_from states [] h = tt
  constraints_from states (c ∷ cs) h = (λ tuple m. (rule_kept states (assign c.vars tuple unassigned) c.rule).1 (h.0 tuple m), constraints_from states cs h.1)

  same_plans : (plan : Plan) → Plans q plan ↔ Plans p plan
  unfolding q
  same_plans plan = (
    λ h.
        let run : IsRun p plan h.0 = (same_run plan.steps h.0).0 h.1 in
        (h.0, run, of_last (IsUnchanged p) _ _ (λ s is y. (goal_at s is).true_where.0 y) h.0 (runs_leave_unchanged p plan.steps h.0 run) h.2, constraints_to h.0 p.constraints h.3),
    λ h. (
      h.0,
      (same_run plan.steps h.0).1 h.1,
      of_last (IsUnchanged p) _ _ (λ s is y. (goal_at s is).true_where.1 y) h.0 (runs_leave_unchanged p plan.steps h.0 h.1) h.2,
      constraints_from h.0 p.constraints h.3,
    ),
  )

  same_metric : (plan : Plan) (v : _) → MetricOf q plan v ↔ MetricOf p plan v
  unfolding q
  same_metric plan v = (λ h. (h.0, (same_run plan.steps h.0).0 h.1, h.2), λ h. (h.0, (same_run plan.steps h.0).1 h.1, h.2))

pub simple_problems_keep_plans : (oracle : Oracle) (p : Parts) → IsWellFormed p → IsInitial p oracle → (plan : Plan) → Plans (simple_problem oracle p) plan ↔ Plans p plan
unfolding q
simple_problems_keep_plans oracle p well initial plan = same_plans oracle p well initial plan

pub simple_problems_keep_metrics : (oracle : Oracle) (p : Parts) → IsWellFormed p → IsInitial p oracle → (plan : Plan) (v : Option (Option Fraction)) →
    MetricOf (simple_problem oracle p) plan v ↔ MetricOf p plan v
unfolding q
simple_problems_keep_metrics oracle p well initial plan v = same_metric oracle p well initial plan v

-- ---- features

module _ (w : World) (oracle : Oracle) where
  -- what a simplified action has, the action has
  abbrev Before : (Action → Bool) → Type 0
  Before t = (a b : Action) → simple_action w oracle a ≡ Some b → t b ≡ true → t a ≡ true

  in_actions : (t : Action → Bool) → Before t → (actions : List Action) → list_any t (filter_map (simple_action w oracle) actions) ≡ true → list_any t actions ≡ true
  in_actions t earlier [] h = h
  in_actions t earlier (a ∷ actions) h = by (simple_action w oracle a) refl h (in_actions t earlier actions)
    where
      by : (o : Option Action) → simple_action w oracle a ≡ o → list_any t (cons_option o (filter_map (simple_action w oracle) actions)) ≡ true →
          (list_any t (filter_map (simple_action w oracle) actions) ≡ true → list_any t actions ≡ true) → (t a || list_any t actions) ≡ true
      by None at h more = right (t a) _ (more h)
      by (Some b) at h more = ⊎_elim (λ e. left (t a) _ (earlier a b at e)) (λ e. right (t a) _ (more e)) (of_two (t b) _ h)

  -- conditions of all actions
  abbrev conditions_of : Action → List Formula
  conditions_of a = a.pre ∷ map (λ r. r.when) a.rows

  in_conditions : (t : Formula → Bool) → Before (λ a. list_any (anywhere t) (conditions_of a)) → (actions : List Action) →
      list_any (anywhere t) (flat_map conditions_of (filter_map (simple_action w oracle) actions)) ≡ true → list_any (anywhere t) (flat_map conditions_of actions) ≡ true
  in_conditions t earlier actions h = sym (joined actions) ∙ in_actions (λ a. list_any (anywhere t) (conditions_of a)) earlier actions (joined (filter_map (simple_action w oracle) actions) ∙ h)
    where
      joined : (actions : List Action) → list_any (λ a. list_any (anywhere t) (conditions_of a)) actions ≡ list_any (anywhere t) (flat_map conditions_of actions)
      joined [] = refl
      joined (a ∷ actions) = ap (λ b. list_any (anywhere t) (conditions_of a) || b) (joined actions) ∙ sym (any_of_both (anywhere t) (conditions_of a) (flat_map conditions_of actions))

  -- tests of a row's variables and effect
  in_rows : (t : List Typed → Effect → Bool) → Before (λ a. list_any (λ r. t r.vars r.effect) a.rows)
  in_rows t a b at h =
      any_of (IsSimpleRow w oracle) (λ r. t r.vars r.effect) (λ r. t r.vars r.effect)
      (λ q r is k. (λ i. t (sym is.vars i) (sym is.effect i)) ∙ k) b.rows a.rows (simple_actions_carry w oracle a b at).rows h

-- features of objects and types are those of one world
module _ (oracle : Oracle) (p : Parts) where
  abbrev other : Parts
  other = simple_problem oracle p

  module _ (possible : is_false_formula (simplified (world p) oracle p.goal) ≡ false) where
    in_all : (t : Formula → Bool) → Before (world p) oracle (λ a. list_any (anywhere t) (a.pre ∷ map (λ r. r.when) a.rows)) →
        (anywhere t (simplified (world p) oracle p.goal) ≡ true → anywhere t p.goal ≡ true) → some_condition other t ≡ true → some_condition p t ≡ true
    in_all t actions goal h =
        any_of_both (anywhere t) here (p.goal ∷ rest)
        ∙ ⊎_elim (λ e. left (list_any (anywhere t) here) _ (in_conditions (world p) oracle t actions p.actions e))
        (λ e. right (list_any (anywhere t) here) _ (⊎_elim (λ g. left (anywhere t p.goal) _ (goal g)) (λ c. right (anywhere t p.goal) _ c) (of_two (anywhere t (simplified (world p) oracle p.goal)) _ e)))
        (of_two _ _ (sym (any_of_both (anywhere t) there (simplified (world p) oracle p.goal ∷ rest)) ∙ h))
      where
        here : List Formula
        here = flat_map (λ a. a.pre ∷ map (λ r. r.when) a.rows) p.actions

        there : List Formula
        there = flat_map (λ a. a.pre ∷ map (λ r. r.when) a.rows) (filter_map (simple_action (world p) oracle) p.actions)

        rest : List Formula
        rest = flat_map (λ c. formulas_of c.rule) p.constraints

    of_rows : (t : List Typed → Effect → Bool) → some_row other (λ r. t r.vars r.effect) ≡ true → some_row p (λ r. t r.vars r.effect) ≡ true
    of_rows t h = in_actions (world p) oracle (λ a. list_any (λ r. t r.vars r.effect) a.rows) (in_rows (world p) oracle t) p.actions h

    carry : (a b : Action) → simple_action (world p) oracle a ≡ Some b → ActionCarries (world p) oracle b a
    carry a b at = simple_actions_carry (world p) oracle a b at

    goal_carries : SimplifiedCarries (world p) oracle p.goal
    goal_carries = simplified_carry (world p) oracle p.goal

    total_stays : (fs : List _) → list_any (λ d. gives_an_object d && flip (is_total other d)) fs ≡ list_any (λ d. gives_an_object d && flip (is_total p d)) fs
    total_stays fs = refl

    features : (f : Feature) → carries other f ≡ true → carries p f ≡ true
    features FlatTyping h = h
    features HierarchicalTyping h = h
    features ActionParameters h =
        in_actions (world p) oracle (λ a. flip (is_empty a.params)) (λ a b at k. ap (λ ps. flip (is_empty ps)) (sym (carry a b at).params) ∙ k) p.actions h
    features NegativeConditions h = in_all is_not (λ a b at. (carry a b at).negations) goal_carries.negations h
    features DisjunctiveConditions h = in_all is_disjunctive (λ a b at. (carry a b at).disjunctive) (goal_carries.disjunctive possible) h
    features Equalities h = in_all is_equal (λ a b at. (carry a b at).equalities) goal_carries.equalities h
    features ExistentialConditions h = in_all is_exists (λ a b at. (carry a b at).existential) goal_carries.existential h
    features UniversalConditions h = in_all is_forall (λ a b at. (carry a b at).universal) goal_carries.universal h
    features ConditionalEffects h =
        in_actions (world p) oracle (λ a. list_any (λ r. flip (is_true_formula r.when)) a.rows) (λ a b at. (carry a b at).conditional) p.actions h
    features ForallEffects h = of_rows (λ vars e. flip (is_empty vars)) h
    features ObjectFluents h = h
    features NumericFluents h = h
    features NumericConditions h = in_all is_compare (λ a b at. (carry a b at).comparisons) goal_carries.comparisons h
    features NumericEffects h = of_rows (λ vars e. is_numeric e) h
    features ScaleEffects h = of_rows (λ vars e. is_scale e) h
    features Metric h = h
    features TrajectoryConstraints h = h
    features EffectOverlap h =
        in_actions (world p) oracle (has_meeting_rows p) (λ a b at k. simple_actions_dont_meet p (world p) oracle a b at k) p.actions
        ((λ i. list_any (λ a. sym (rows_meet p p.constants p.predicates p.atoms other.actions other.goal p.constraints a) i) (filter_map (simple_action (world p) oracle) p.actions)) ∙ h)
    features ObjectTermsUnderForall h = of_rows (λ vars e. flip (is_empty vars) && touches_objects e) h
    features PartialFluents h =
        ⊎_elim (λ e. left (list_any (λ d. gives_an_object d && flip (is_total p d)) p.functions) _ (sym (total_stays p.functions) ∙ e))
        (λ e. right (list_any (λ d. gives_an_object d && flip (is_total p d)) p.functions) _ (of_rows (λ vars e. is_undefine e) e))
        (of_two (list_any (λ d. gives_an_object d && flip (is_total other d)) p.functions) _ h)

pub simple_problems_carry : (oracle : Oracle) (p : Parts) → is_false_formula (simplified (world p) oracle p.goal) ≡ false →
    (f : Feature) → IsTrue (carries (simple_problem oracle p) f) → IsTrue (carries p f)
simple_problems_carry oracle p possible f h = features oracle p possible f h

-- The problem with twins has the plans of the problem.
use Rattle.std.proofs.Common.{◌≡◌, ◌↔◌, List, [], ◌∷◌, map, length, Option, Some, None, option_map, refl, ap, sym, ◌∙◌, subst, inl}
use Rattle.up_text.specs.Lists.{Member, Differ}
use Rattle.up_tree.specs.declared.action.Action.{Action}
use Rattle.up_tree.specs.declared.problem.Parts.{Parts}
use Rattle.up_tree.specs.declared.problem.Metric.{Metric}
use Rattle.up_tree.specs.Objects.{world, unassigned}
use Rattle.up_tree.specs.State.{State}
use Rattle.up_tree.specs.Value.{number}
use Rattle.up_tree.specs.Judged.{truth_of}
use Rattle.up_tree.specs.Plans.{metric_at}
use Rattle.up_tree.specs.WellFormed.{OnMetric}
use Rattle.semantics_laws.proofs.Agreeing.{same_number}
use Rattle.condition_laws.specs.Shapes.{IsNormal}
use Rattle.semantics_laws.specs.SameTruth.{SameTruth}
use Rattle.semantics_laws.proofs.Same.{same_truth}
use Rattle.expansion_forms.proofs.Covering.{covers_itself, all_objects}
use Rattle.step_laws.specs.StepLaw.{IsGoal}
use Rattle.step_laws.specs.Naming.{Stands}
use Rattle.step_laws.specs.SplitLaw.{CanTakeBy, next_by, SplitLaw}
use Rattle.compiling_laws.proofs.Lists.{member_map, of_map}
use Rattle.step_laws.proofs.Lists.{every_at}
use Rattle.negations_laws.specs.Twins.{main_conditions, words, positive, positive_action, twin_pairs, twinned}
use Rattle.negations_laws.specs.Related.{IsOld, AreTwinned}
use Rattle.negations_laws.proofs.Values.{expr_names}
use Rattle.negations_laws.proofs.Truth.{positive_truth}
use Rattle.negations_laws.proofs.Words.{served}
use Rattle.negations_laws.proofs.Stepping.{IsAccepted, followed_by, kept_by, next_twinned}
use Rattle.negations_laws.proofs.Initial.{initial_twinned}

pub new_actions : (p : Parts) (actions : List Action) → map (λ (pair : Stands). pair.new) (map (λ a. let pair : Stands = record { new = positive_action (words p) a; old = a } in pair) actions) ≡ map (positive_action (words p)) actions
new_actions p [] = refl
new_actions p (a ∷ actions) = ap (λ l. positive_action (words p) a ∷ l) (new_actions p actions)

pub same_names : (p : Parts) (actions : List Action) → map (λ (pair : Stands). pair.new.name) (map (λ a. let pair : Stands = record { new = positive_action (words p) a; old = a } in pair) actions) ≡ map (λ (a : Action). a.name) actions
same_names p [] = refl
same_names p (a ∷ actions) = ap (λ l. a.name ∷ l) (same_names p actions)

module _ (p : Parts) (ready : IsAccepted p) where
  abbrev pair_of : Action → Stands
  pair_of a = record { new = positive_action (words p) a; old = a }

  pub of_pair : (pair : Stands) → Member pair (twin_pairs p) → (a : Action) × Member a p.actions × (pair ≡ record { new = positive_action (words p) a; old = a })
  of_pair pair m = of_map (λ a. let pair : Stands = record { new = positive_action (words p) a; old = a } in pair) p.actions pair m

  goal_truth : (s t : State) → AreTwinned p s t → truth_of (world p) t unassigned (positive (words p) p.goal) ≡ truth_of (world p) s unassigned p.goal
  goal_truth s t related =
      positive_truth p ready.formed ready.none s t related p.objects (all_objects p) [] unassigned (covers_itself p []) p.goal ready.formed.goal
      (every_at IsNormal (main_conditions p) p.goal ready.normal (inl refl)) (served p ready.formed p.goal (inl refl))

  same_metric : (s t : State) → AreTwinned p s t → metric_at p s ≡ metric_at (twinned p) t
  same_metric s t related = by p.metric ready.formed.metric
    where
      by : (m : Option Metric) → OnMetric p m → option_map (λ (m : Metric). number s unassigned m.value) m ≡ option_map (λ (m : Metric). number t unassigned m.value) m
      by None on = refl
      by (Some m) on = ap Some (same_number (IsOld p) s t related.old unassigned m.value (λ x h. expr_names p m.value x h))

  pub split : SplitLaw p (twinned p) (twin_pairs p) (AreTwinned p)
  split = record {
    actions = sym (new_actions p p.actions);
    names = subst Differ (sym (same_names p p.actions)) ready.formed.action_names.differ;
    olds = ready.formed.action_names.differ;
    stand = λ pair m. let k = of_pair pair m in (subst (λ (x : Action). Member x p.actions) (sym (ap (λ (x : Stands). x.old) k.2)) k.1, ap (λ (x : Stands). length x.new.params) k.2 ∙ sym (ap (λ (x : Stands). length x.old.params) k.2));
    initial = initial_twinned p ready.formed;
    followed = λ s t related old m args can.
        (record { new = positive_action (words p) old; old = old }, member_map (λ a. let pair : Stands = record { new = positive_action (words p) a; old = a } in pair) p.actions old m, refl, followed_by p ready old m args s t related can);
    kept = λ s t related pair m args can.
        let k = of_pair pair m in
        subst (λ (x : Stands). CanTakeBy (world p) s x.old args) (sym k.2)
        (kept_by p ready k.0 k.1 args s t related (subst (λ (x : Stands). CanTakeBy (world p) t x.new args) k.2 can));
    next = λ s t related pair m args can.
        let k = of_pair pair m in
        subst (λ (x : Stands). AreTwinned p (next_by (world p) s x.old args) (next_by (world p) t x.new args)) (sym k.2)
        (next_twinned p ready k.0 k.1 args s t related (subst (λ (x : Stands). CanTakeBy (world p) t x.new args) k.2 can));
    goal = λ s t related. (
      λ h. (goal_together s t related).1 h,
      λ h. (goal_together s t related).0 h,
    );
    metric = same_metric;
  }
    where
      goal_together : (s t : State) → AreTwinned p s t → IsGoal (twinned p) t ↔ IsGoal p s
      goal_together s t related =
          let same : truth_of (world p) t unassigned (positive (words p) p.goal) ≡ truth_of (world p) s unassigned p.goal = goal_truth s t related in
          let truth : SameTruth (world p) t unassigned (positive (words p) p.goal) s unassigned p.goal = same_truth (world p) t unassigned (positive (words p) p.goal) s unassigned p.goal same in
          truth.true_where

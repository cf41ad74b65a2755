-- The law of splitting for guards and flat types.
use Rattle.std.proofs.Common.{◌≡◌, ◌↔◌, List, [], length, Option, Some, None, option_map, refl, ap, sym, subst}
use Rattle.up_text.specs.declared.name.Name.{Name}
use Rattle.up_text.specs.Lists.{Member, Differ}
use Rattle.up_tree.specs.declared.action.Action.{Action}
use Rattle.up_tree.specs.declared.problem.Metric.{Metric}
use Rattle.up_tree.specs.declared.problem.Parts.{Parts}
use Rattle.up_tree.specs.Objects.{world, unassigned}
use Rattle.up_tree.specs.State.{State}
use Rattle.up_tree.specs.Value.{number}
use Rattle.up_tree.specs.Truth.{True}
use Rattle.up_tree.specs.Changes.{changed}
use Rattle.up_tree.specs.Instances.{firing}
use Rattle.up_tree.specs.Plans.{metric_at}
use Rattle.up_tree.specs.WellFormed.{IsWellFormed, IsAction}
use Rattle.semantics_laws.specs.Symbols.{FormulaNames, ExprNames}
use Rattle.semantics_laws.specs.SameTruth.{SameTruth}
use Rattle.semantics_laws.proofs.Agreeing.{same_judged, same_number}
use Rattle.semantics_laws.proofs.Same.{same_truth}
use Rattle.semantics_laws.proofs.Stepping.{same_faults}
use Rattle.step_laws.specs.Naming.{Stands}
use Rattle.step_laws.specs.StepLaw.{IsGoal}
use Rattle.step_laws.specs.SplitLaw.{CanTakeBy, next_by, SplitLaw}
use Rattle.compiling_laws.proofs.Lists.{member_map, of_map}
use Rattle.step_laws.proofs.Lists.{every_at}
use Rattle.expansion_laws.proofs.Lists.{map_of_map}
use Rattle.expansion_laws.proofs.Truths.{true_together}
use Rattle.types_laws.specs.Guards.{guards, guarded}
use Rattle.types_laws.specs.Types.{guarded_action, guarded_pairs, untyped}
use Rattle.types_laws.specs.Related.{IsGuard, AreRelated}
use Rattle.types_laws.proofs.Fitting.{w, v, length_top}
use Rattle.types_laws.proofs.Guarding.{guarded_truth}
use Rattle.types_laws.proofs.Acting.{same_firing, follows, keeps}
use Rattle.types_laws.proofs.Naming.{expr_no, formula_declared, names_none}
use Rattle.types_laws.proofs.States.{related_initially, guarding, within, related_next}

module _ (p : Parts) (well : IsWellFormed p) where
  abbrev pub pair_of : Action → Stands
  pair_of a = record { new = guarded_action (guards p) a; old = a }

  -- each pair is of an action of the source
  pub at_pair : (P : Stands → Type 0) → ((a : Action) → Member a p.actions → P (pair_of a)) → (pair : Stands) → Member pair (guarded_pairs p) → P pair
  at_pair P h pair m =
      let k : (a : Action) × Member a p.actions × (pair ≡ pair_of a) = of_map (λ a. let x : Stands = pair_of a in x) p.actions pair m in
      subst P (sym k.2) (h k.0 k.1)

  is_action : (a : Action) → Member a p.actions → IsAction p a
  is_action a m = every_at (IsAction p) p.actions a well.actions m

  module _ (s t : State) (related : AreRelated p s t) where
    can_there : (a : Action) → Member a p.actions → (args : List Name) → CanTakeBy (w p) s a args → CanTakeBy (w p) t a args
    can_there a m args can fault h = can fault ((same_faults (λ x. ¬ IsGuard p x) s t related.same (w p) a args (within p well a m args) fault).1 h)

    can_here : (a : Action) → Member a p.actions → (args : List Name) → CanTakeBy (w p) t a args → CanTakeBy (w p) s a args
    can_here a m args can fault h = can fault ((same_faults (λ x. ¬ IsGuard p x) s t related.same (w p) a args (within p well a m args) fault).0 h)

    followed : (a : Action) → Member a p.actions → (args : List Name) → CanTakeBy (w p) s a args → CanTakeBy (v p) t (guarded_action (guards p) a) args
    followed a m args can = follows p well t (guarding p well s t related) a (is_action a m) args (can_there a m args can)

    kept : (a : Action) → Member a p.actions → (args : List Name) → CanTakeBy (v p) t (guarded_action (guards p) a) args → CanTakeBy (w p) s a args
    kept a m args can = can_here a m args (keeps p well t (guarding p well s t related) a (is_action a m) args can)

    next : (a : Action) → Member a p.actions → (args : List Name) → AreRelated p (next_by (w p) s a args) (next_by (v p) t (guarded_action (guards p) a) args)
    next a m args =
        subst (λ fs. AreRelated p (changed s (firing (w p) s a args)) (changed t fs)) (sym (same_firing p well t (guarding p well s t related) a (is_action a m) args))
        (related_next p well a m args s t related)

    goal : IsGoal p s ↔ IsGoal (untyped p) t
    goal =
        let truth : SameTruth (w p) s unassigned p.goal t unassigned p.goal =
        same_truth (w p) s unassigned p.goal t unassigned p.goal
        (same_judged (λ x. ¬ IsGuard p x) s t related.same (w p) unassigned p.goal (names_none p (FormulaNames p.goal) (λ n h. formula_declared p p.objects [] p.goal n well.goal h)))
        in
        let there : True (v p) t unassigned (guarded (guards p) p.goal) ↔ True (w p) t unassigned p.goal =
        true_together (v p) unassigned (guarded (guards p) p.goal) (w p) unassigned p.goal t (guarded_truth p well t (guarding p well s t related) p.objects [] unassigned p.goal well.goal)
        in
        (λ h. there.1 (truth.true_where.0 h), λ h. truth.true_where.1 (there.0 h))

    metric : metric_at p s ≡ metric_at (untyped p) t
    metric = by p.metric
      where
        by : (m : Option Metric) → option_map (λ (m : Metric). number s unassigned m.value) m ≡ option_map (λ (m : Metric). number t unassigned m.value) m
        by None = refl
        by (Some m) =
            ap Some (same_number (λ x. ¬ IsGuard p x) s t related.same unassigned m.value (names_none p (ExprNames m.value) (λ n h. absurd (expr_no m.value n h))))

  pub split : SplitLaw p (untyped p) (guarded_pairs p) (AreRelated p)
  split = record {
    actions = refl;
    names = subst Differ (sym (map_of_map (λ (pair : Stands). pair.new.name) (λ a. let x : Stands = pair_of a in x) p.actions)) well.action_names.differ;
    olds = well.action_names.differ;
    stand = at_pair (λ pair. Member pair.old p.actions × (length pair.new.params ≡ length pair.old.params)) (λ a m. (m, length_top a.params));
    initial = related_initially p well;
    followed = λ s t related old m args can.
        (pair_of old, member_map (λ a. let x : Stands = pair_of a in x) p.actions old m, refl, followed s t related old m args can);
    kept = λ s t related pair m args.
        at_pair (λ pair. CanTakeBy (world (untyped p)) t pair.new args → CanTakeBy (world p) s pair.old args) (λ a k can. kept s t related a k args can) pair m;
    next = λ s t related pair m args can.
        at_pair (λ pair. AreRelated p (next_by (world p) s pair.old args) (next_by (world (untyped p)) t pair.new args)) (λ a k. next s t related a k args) pair m;
    goal = goal;
    metric = metric;
  }

-- From states that agree on what a problem names the same steps lead to the goal.
use Rattle.std.proofs.Common.{◌⊎◌, Bool, true, false, cond, List, [], ◌∷◌, find, Some, IsSomeAnd, refl, subst, inl, inr}
use Rattle.up_text.specs.Lists.{Somewhere}
use Rattle.up_tree.specs.declared.action.Action.{Action}
use Rattle.up_tree.specs.declared.problem.Parts.{Parts}
use Rattle.up_tree.specs.declared.problem.Step.{Step}
use Rattle.up_tree.specs.Objects.{world, unassigned}
use Rattle.up_tree.specs.State.{State}
use Rattle.up_tree.specs.Truth.{True}
use Rattle.up_tree.specs.Faults.{CanTake, IsNext}
use Rattle.up_tree.proofs.Steps.{Reaches, reached, run_of, next_exists}
use Rattle.semantics_laws.specs.Symbols.{Symbol, predicate, function, ActionNames, StepNames, ProblemNames, AgreeOn}
use Rattle.semantics_laws.specs.SameTruth.{SameTruth}
use Rattle.semantics_laws.proofs.Same.{same_truth}
use Rattle.semantics_laws.proofs.Agreeing.{same_judged}
use Rattle.semantics_laws.proofs.Stepping.{faults_depend, agree_after}
use Rattle.semantics_laws.specs.StepsReachGoal.{StepsReachGoal}

found_among : (test : Action → Bool) (P : Action → Type 0) (actions : List Action) → IsSomeAnd (find test actions) P → Somewhere P actions
found_among test P [] h = h
found_among test P (a ∷ actions) h = by (test a) h (found_among test P actions)
  where
    by : (b : Bool) → IsSomeAnd (cond b (Some a) (find test actions)) P → (IsSomeAnd (find test actions) P → Somewhere P actions) → P a ⊎ Somewhere P actions
    by true h more = inl h
    by false h more = inr (more h)

restricted : (P Q : Symbol → Type 0) (s t : State) → ((x : Symbol) → P x → Q x) → AgreeOn Q s t → AgreeOn P s t
restricted P Q s t within agree = record {
  atoms = λ p named. agree.atoms p (within (predicate p) named);
  numbers = λ f named. agree.numbers f (within (function f) named);
  values = λ f named. agree.values f (within (function f) named);
}

step_within : (p : Parts) (step : Step) (x : Symbol) → StepNames p step x → ProblemNames p x
step_within p step x h = inr (found_among _ (λ a. ActionNames a x) p.actions h)

both_reach : (p : Parts) (steps : List Step) (s t z : State) → AgreeOn (ProblemNames p) s t → Reaches p s steps z →
    (y : State) × Reaches p t steps y × AgreeOn (ProblemNames p) z y
both_reach p [] s t z agree h = (t, refl, subst (λ z. AgreeOn (ProblemNames p) z t) h agree)
both_reach p (step ∷ steps) s t z agree h =
    let named : AgreeOn (StepNames p step) s t = restricted (StepNames p step) (ProblemNames p) s t (step_within p step) agree in
    let can : CanTake p t step = λ fault k. h.0 fault ((faults_depend p s t step named fault).1 k) in
    let next : (v : State) × IsNext p t step v = next_exists p t step can in
    let agree_then : AgreeOn (ProblemNames p) h.1.0 next.0 = agree_after (ProblemNames p) p s t step (step_within p step) agree h.1.0 next.0 h.1.1 next.1 in
    let more : (y : State) × Reaches p next.0 steps y × AgreeOn (ProblemNames p) z y = both_reach p steps h.1.0 next.0 z agree_then h.1.2 in
    (more.0, (can, (next.0, next.1, more.1)), more.2)

pub plans_depend : (p : Parts) (s t : State) → AgreeOn (ProblemNames p) s t → (steps : List Step) → StepsReachGoal p s steps → StepsReachGoal p t steps
plans_depend p s t agree steps h =
    let end : (z : State) × Reaches p s steps z × True (world p) z unassigned p.goal = reached p (λ z. True (world p) z unassigned p.goal) steps s h.0 h.1 h.2 in
    let other : (y : State) × Reaches p t steps y × AgreeOn (ProblemNames p) end.0 y = both_reach p steps s t end.0 agree end.1 in
    let truth : SameTruth (world p) end.0 unassigned p.goal other.0 unassigned p.goal =
    same_truth (world p) end.0 unassigned p.goal other.0 unassigned p.goal
    (same_judged (ProblemNames p) end.0 other.0 other.2 (world p) unassigned p.goal (λ x h. inl h))
    in
    run_of p (λ z. True (world p) z unassigned p.goal) steps t other.0 other.1 (truth.true_where.0 end.2)

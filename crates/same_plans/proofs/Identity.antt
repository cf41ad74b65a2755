-- Each problem has the same plans as itself, by the map that changes nothing.
use Rattle.std.proofs.Common.{◌≡◌, ◌≢◌, ℕ, List, [], ◌∷◌, length, Option, Some, None, IsSomeAnd, inl, inr}
use Rattle.std.proofs.lemmas.Bool.Decides.{eqb_tells}
use Rattle.up_text.specs.Lists.{Every}
use Rattle.up_tree.specs.declared.action.Action.{Action}
use Rattle.up_tree.specs.declared.problem.Parts.{Parts}
use Rattle.up_tree.specs.declared.problem.Plan.{Plan}
use Rattle.up_tree.specs.declared.problem.Step.{Step}
use Rattle.up_tree.specs.Objects.{action_named}
use Rattle.up_tree.specs.State.{State, init}
use Rattle.up_tree.specs.Faults.{Fault, unknown, arity, CanTake}
use Rattle.up_tree.specs.Plans.{RunsFrom, Plans}
use Rattle.up_tree.proofs.Steps.{ByAction}
use Rattle.up_compiler.specs.Identity.{identity_entries, IsOfActions}
use Rattle.up_compiler.proofs.Kept.{identity_keeps}
use Rattle.same_plans.specs.SamePlans.{SamePlans}

not_apart : (m n : ℕ) → (¬ m ≢ n) → m ≡ n
not_apart m n h = elim (eqb_tells m n) [ inl same ↦ same.1 | inr other ↦ absurd (h other.1) ]

-- a step that can be taken is of an action, with as many arguments as that has parameters
step_of_action : (p : Parts) (s : State) (step : Step) → CanTake p s step
    → IsSomeAnd (action_named p step.action) (λ a. length step.args ≡ length a.params)
step_of_action p s step = by (action_named p step.action)
  where
    by : (found : Option Action) → ((fault : Fault) → ¬ ByAction p s step.args found fault) → IsSomeAnd found (λ a. length step.args ≡ length a.params)
    by None can = absurd (can unknown tt)
    by (Some a) can = not_apart (length step.args) (length a.params) (can arity)

steps_of_actions : (p : Parts) (s : State) (steps : List Step) (states : List State) → RunsFrom p s steps states
    → Every (λ (step : Step). IsSomeAnd (action_named p step.action) (λ a. length step.args ≡ length a.params)) steps
steps_of_actions p s [] states h = tt
steps_of_actions p s (step ∷ steps) states h = (step_of_action p s step h.0, steps_of_actions p h.1.0 steps h.1.1 h.1.4)

pub plan_of_actions : (p : Parts) (plan : Plan) → Plans p plan → IsOfActions p plan
plan_of_actions p plan valid = steps_of_actions p (init p) plan.steps valid.0 valid.1

pub identity_same : (p : Parts) → SamePlans p p (identity_entries p.actions)
identity_same p = record {
  sound = λ b valid. (b, identity_keeps p b (plan_of_actions p b valid), valid, λ v. (λ h. h, λ h. h));
  complete = λ a valid. (a, valid, identity_keeps p a (plan_of_actions p a valid));
}

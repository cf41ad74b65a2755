-- Actions and steps that come to the same.
use Rattle.std.specs.Prelude.{◌≡◌, ◌↔◌, List}
use Rattle.up_text.specs.declared.name.Name.{Name}
use Rattle.up_tree.specs.declared.action.Action.{Action}
use Rattle.up_tree.specs.declared.problem.Parts.{Parts}
use Rattle.up_tree.specs.declared.problem.Step.{Step}
use Rattle.up_tree.specs.Objects.{World}
use Rattle.up_tree.specs.State.{State}
use Rattle.up_tree.specs.Judged.{truth_of}
use Rattle.up_tree.specs.Instances.{action_assignment, firing}
use Rattle.up_tree.specs.Changes.{changed}
use Rattle.up_tree.specs.Faults.{Fault, unknown, arity, argument_type, ActionApplies, Applies, CanTake, IsNext}
use Rattle.expansion_laws.specs.Outcomes.{outcomes, deeds}

-- one action in a world does at its arguments what another does in its own world at its own arguments
pub record SameDoing (w : World) (a : Action) (args : List Name) (v : World) (b : Action) (b_args : List Name) : Type 0 where
  pub outcomes : (s : State) → outcomes w s a args ≡ outcomes v s b b_args
  pub deeds : (s : State) → deeds w s a args ≡ deeds v s b b_args
  pub faults : (s : State) (fault : Fault) → ActionApplies w s a args fault ↔ ActionApplies v s b b_args fault
  pub next : (s : State) → changed s (firing w s a args) ≡ changed s (firing v s b b_args)

-- the same faults of arguments, preconditions of one truth, and the same outcomes
pub record SameOutcomes (w : World) (a : Action) (args : List Name) (v : World) (b : Action) (b_args : List Name) : Type 0 where
  pub unknown_both : (s : State) → ActionApplies w s a args unknown ↔ ActionApplies v s b b_args unknown
  pub arity_both : (s : State) → ActionApplies w s a args arity ↔ ActionApplies v s b b_args arity
  pub type_both : (s : State) → ActionApplies w s a args argument_type ↔ ActionApplies v s b b_args argument_type
  pub pre : (s : State) → truth_of w s (action_assignment a args) a.pre ≡ truth_of v s (action_assignment b b_args) b.pre
  pub rows : (s : State) → outcomes w s a args ≡ outcomes v s b b_args

-- the same faults apply to a step of one problem and to a step of another, and both leave the same state
pub record SameStep (p : Parts) (step : Step) (q : Parts) (other : Step) : Type 0 where
  pub faults : (s : State) (fault : Fault) → Applies p s step fault ↔ Applies q s other fault
  pub can_take : (s : State) → CanTake p s step ↔ CanTake q s other
  pub next : (s t : State) → IsNext p s step t ↔ IsNext q s other t

-- Steps that lead from a state to the goal.
use Rattle.std.specs.Prelude.{List}
use Rattle.up_tree.specs.declared.problem.Parts.{Parts}
use Rattle.up_tree.specs.declared.problem.Step.{Step}
use Rattle.up_tree.specs.State.{State}
use Rattle.up_tree.specs.Plans.{RunsFrom, ReachesGoal}

-- the steps can be taken from the state, and lead to the goal
abbrev pub StepsReachGoal : Parts → State → List Step → Type 0
StepsReachGoal p s steps = (states : List State) × RunsFrom p s steps states × ReachesGoal p states

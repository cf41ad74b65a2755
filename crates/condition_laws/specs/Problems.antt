-- A problem that is simplified as a whole, and problems that declare the same.
use Rattle.std.specs.Prelude.{◌≡◌, filter_map}
use Rattle.up_tree.specs.declared.problem.Parts.{Parts}
use Rattle.up_tree.specs.Objects.{world}
use Rattle.up_tree.specs.Simplify.{Oracle, simplified, simple_action}

-- each action and the goal simplified, without the actions that can never be taken
abbrev pub simple_problem : Oracle → Parts → Parts
simple_problem oracle p =
    record p { actions = filter_map (simple_action (world p) oracle) p.actions; goal = simplified (world p) oracle p.goal }

-- the second declares what the first declares
pub record DeclaresTheSame (p q : Parts) : Type 0 where
  pub types : p.types ≡ q.types
  pub constants : p.constants ≡ q.constants
  pub objects : p.objects ≡ q.objects
  pub predicates : p.predicates ≡ q.predicates
  pub functions : p.functions ≡ q.functions

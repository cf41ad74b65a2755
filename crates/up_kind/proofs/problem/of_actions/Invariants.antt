use Rattle.std.proofs.Common.{◌≡◌, take}
use Rattle.up_kind.specs.Features.{has, over}
use Rattle.up_kind.specs.Gathered.{of_action}
use Rattle.up_kind.proofs.problem.of_actions.Given as goal

abbrev pub invariant-loop-action : goal.invariant-loop-action
invariant-loop-action l = has l.kind.0 ≡ over (of_action l.tables) (take l.action-index l.tables.actions)

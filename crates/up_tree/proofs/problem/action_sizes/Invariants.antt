use Rattle.std.proofs.Common.{◌≡◌, take, sum_by}
use Rattle.up_tree.specs.Sizes.{cut, action_size}
use Rattle.up_tree.proofs.problem.action_sizes.Given as goal

abbrev pub invariant-loop-action : goal.invariant-loop-action
invariant-loop-action l = l.size ≡ cut (sum_by action_size (take l.action-index l.actions))

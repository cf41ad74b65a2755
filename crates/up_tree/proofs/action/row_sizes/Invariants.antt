use Rattle.std.proofs.Common.{◌≡◌, take, sum_by}
use Rattle.up_tree.specs.Sizes.{cut, row_size}
use Rattle.up_tree.proofs.action.row_sizes.Given as goal

abbrev pub invariant-loop-row : goal.invariant-loop-row
invariant-loop-row l = l.size ≡ cut (sum_by row_size (take l.row-index l.rows))

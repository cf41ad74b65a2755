use Rattle.std.proofs.Common.{◌≡◌, take}
use Rattle.up_kind.specs.Features.{has, over}
use Rattle.up_kind.specs.Gathered.{of_row}
use Rattle.up_kind.proofs.row.of_rows.Given as goal

abbrev pub invariant-loop-row : goal.invariant-loop-row
invariant-loop-row l = has l.kind.0 ≡ over of_row (take l.row-index l.rows)

use Rattle.std.proofs.Common.{take}
use Rattle.up_kind.specs.Rows.{HasAdds}
use Rattle.up_kind.proofs.rows.filed.Given as goal

abbrev pub invariant-loop-row : goal.invariant-loop-row
invariant-loop-row l = HasAdds l.split l.table (take l.row-index l.rows)

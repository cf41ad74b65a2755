use Rattle.up_kind.proofs.Filing.{adds_more}
use Rattle.up_kind.proofs.rows.filed.Goals as goal

pub loop-row-preserved : goal.loop-row-preserved
loop-row-preserved c =
    adds_more c.args.split c.loop-row.table c.file.new.table c.args.rows.now c.loop-row.row-index c.row-item.result c.loop-row-test.true c.row-item.is
    c.loop-row.invariant c.in_ok-file.ensures

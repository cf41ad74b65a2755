use Rattle.up_kind.proofs.Filing.{adds_row}
use Rattle.up_kind.proofs.rows.add_row.Goals as goal

pub returns : goal.returns
returns c =
    adds_row c.args.table.now c.take_rows-rows.new.table c.insert.new.self c.args.key c.args.row c.take_rows-rows.result c.push.new.self
    c.take_rows-rows.ensures.rows c.take_rows-rows.ensures.others c.in_ok-push.ensures.ok c.in_ok-insert.ensures.updates.0

use Rattle.pddl_write.specs.Effects.{effect_row_text}
use Rattle.up_line.proofs.Spaced.{spaced-more}
use Rattle.pddl_write.proofs.effect.put_rows.Goals as goal

pub loop-row-preserved : goal.loop-row-preserved
loop-row-preserved c =
    let more = spaced-more (effect_row_text c.args.typed) c.args.rows.now c.loop-row.row-index c.row-item.result c.args.line.now c.loop-row-test.true c.row-item.is in
    cc

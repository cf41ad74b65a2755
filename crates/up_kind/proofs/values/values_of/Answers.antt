use Rattle.std.proofs.Common.{sym, ◌∙◌}
use Rattle.up_kind.proofs.Totals.{values_more}
use Rattle.up_kind.proofs.values.values_of.Goals as goal

pub loop-value-preserved : goal.loop-value-preserved
loop-value-preserved c =
    values_more c.loop-value.set c.insert.new.self c.args.values.now c.loop-value.value-index c.value-item.result c.in_ok-key.key c.loop-value-test.true c.value-item.is
    c.in_ok-key.ensures.name (c.in_ok-key.ensures.args ∙ c.as_slice.ensures) c.in_ok-insert.ensures.updates.0 c.loop-value.invariant

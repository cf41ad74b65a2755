use Rattle.std.proofs.Common.{ap, sym, ◌∙◌}
use Rattle.up_line.specs.Sheet.{after}
use Rattle.up_line.proofs.Sheets.{then_put}
use Rattle.pddl_write.specs.Phrases.{type_text}
use Rattle.pddl_write.proofs.Lists.{declared-more}
use Rattle.pddl_write.proofs.declare.put_declared.Goals as goal

pub loop-at-preserved : goal.loop-at-preserved
loop-at-preserved c =
    let more = declared-more c.args.typed c.args.types.now c.loop-at.at c.index-types-at.result c.loop-at-test.true c.index-types-at.is in
    let of = c.put_type.ensures ∙ ap (λ name. after c.put_count.new.line (type_text c.args.typed name)) c.bytes.ensures.bytes in
    let one = then_put _ _ _ _ _ (then_put _ _ _ _ _ c.put.ensures c.put_count.ensures) of in
    then_put _ _ _ _ _ c.loop-at.invariant one ∙ ap (after c.args.line.now) (sym more)

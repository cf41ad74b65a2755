use Rattle.pddl_write.specs.Effects.{constraint_text}
use Rattle.up_line.proofs.Spaced.{spaced-more}
use Rattle.pddl_write.proofs.effect.put_more_constraints.Goals as goal

pub loop-constraint-preserved : goal.loop-constraint-preserved
loop-constraint-preserved c =
    let more = spaced-more (constraint_text c.args.typed) c.args.constraints.now c.loop-constraint.constraint-index c.constraint-item.result c.args.line.now c.loop-constraint-test.true c.constraint-item.is in
    cc

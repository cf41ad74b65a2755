use Rattle.pddl_write.specs.Phrases.{variable_text}
use Rattle.up_line.proofs.Spaced.{spaced-more}
use Rattle.pddl_write.proofs.phrase.put_more_variables.Goals as goal

pub loop-variable-preserved : goal.loop-variable-preserved
loop-variable-preserved c =
    let more = spaced-more (variable_text c.args.typed) c.args.variables.now c.loop-variable.variable-index c.variable-item.result c.args.line.now c.loop-variable-test.true c.variable-item.is in
    cc

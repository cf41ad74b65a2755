use Rattle.pddl_write.specs.Files.{name_text}
use Rattle.up_line.proofs.Spaced.{spaced-more}
use Rattle.pddl_write.proofs.declare.put_names.Goals as goal

pub loop-name-preserved : goal.loop-name-preserved
loop-name-preserved c =
    let more = spaced-more (name_text) c.args.names.now c.loop-name.name-index c.name-item.result c.args.line.now c.loop-name-test.true c.name-item.is in
    cc

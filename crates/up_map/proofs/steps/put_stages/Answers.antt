use Rattle.up_compiler.specs.declared.id.CompilerId.TheVariants.{Objects}
use Rattle.up_line.proofs.Spaced.{spaced-more-at}
use Rattle.up_map.specs.Texts.{stage_text}
use Rattle.up_map.proofs.steps.put_stages.Goals as goal

pub loop-stage-preserved : goal.loop-stage-preserved
loop-stage-preserved c =
    let more = spaced-more-at stage_text c.args.stages.now c.loop-stage.stage-index Objects c.args.line.now c.loop-stage-test.true in
    cc (c.as_bytes.ensures.value, c.name.ensures)

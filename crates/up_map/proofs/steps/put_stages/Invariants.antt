use Rattle.std.proofs.Common.{◌≡◌, take}
use Rattle.up_line.specs.Sheet.{after}
use Rattle.up_line.specs.Spaced.{spaced}
use Rattle.up_map.specs.Texts.{stage_text}
use Rattle.up_map.proofs.steps.put_stages.Given as goal

abbrev pub invariant-loop-stage : goal.invariant-loop-stage
invariant-loop-stage l = l.line ≡ after l.initial.line (spaced stage_text (take l.stage-index l.stages))

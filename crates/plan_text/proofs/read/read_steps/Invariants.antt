use Rattle.std.proofs.Common.{◌≡◌, length}
use Rattle.plan_text.specs.Lines.{lines}
use Rattle.plan_text.specs.Texts.{steps_from}
use Rattle.plan_text.proofs.Gathering.{behind_steps}
use Rattle.plan_text.proofs.read.read_steps.Given as goal

-- the text has the steps so far and those of the rest
abbrev pub invariant-reading : goal.invariant-reading
invariant-reading l = steps_from 1 (lines l.bytes) ≡ behind_steps l.steps (steps_from l.number (lines l.rest))

abbrev pub decreases-reading : goal.decreases-reading
decreases-reading l = length l.rest

use Rattle.up_validate.proofs.Running.{IsAt}
use Rattle.up_validate.proofs.run.run_by.Given as goal

abbrev pub invariant-loop-step : goal.invariant-loop-step
invariant-loop-step l = IsAt l.p l.steps l.run l.step-index l.number

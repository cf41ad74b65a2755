use Rattle.up_map.proofs.Kept.{IsAt}
use Rattle.up_map.proofs.converting.back_steps.Given as goal

abbrev pub invariant-loop-step : goal.invariant-loop-step
invariant-loop-step l = IsAt l.entries l.steps l.made l.step-index l.number

use Rattle.up_eval.proofs.OfEffects.{NumbersSoFar}
use Rattle.up_eval.proofs.state.State.number_changes.Given as goal

abbrev pub invariant-loop-fired : goal.invariant-loop-fired
invariant-loop-fired l = NumbersSoFar l.self l.effects l.fired-index l.changes

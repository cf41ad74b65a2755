use Rattle.up_validate.proofs.Watching.{IsAt}
use Rattle.up_validate.proofs.watch.first_unkept.Given as goal

abbrev pub invariant-loop-phases : goal.invariant-loop-phases
invariant-loop-phases l = IsAt l.all l.phases-index l.number

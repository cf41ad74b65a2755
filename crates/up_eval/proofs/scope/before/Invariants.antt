use Rattle.std.proofs.Common.{◌≡◌, ◌∷◌, take}
use Rattle.up_eval.proofs.scope.before.Given as goal

abbrev pub invariant-loop-other : goal.invariant-loop-other
invariant-loop-other l = l.tuple ≡ l.object ∷ take l.other-index l.rest

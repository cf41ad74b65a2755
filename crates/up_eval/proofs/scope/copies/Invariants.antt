use Rattle.std.proofs.Common.{◌≡◌, take}
use Rattle.up_eval.proofs.scope.copies.Given as goal

abbrev pub invariant-loop-binding : goal.invariant-loop-binding
invariant-loop-binding l = l.copies ≡ take l.binding-index l.scope

use Rattle.std.proofs.Common.{◌≡◌, ◌∷◌, take}
use Rattle.up_eval.proofs.state.key_of.Given as goal

abbrev pub invariant-loop-object : goal.invariant-loop-object
invariant-loop-object l = l.names ≡ l.name ∷ take l.object-index l.objects

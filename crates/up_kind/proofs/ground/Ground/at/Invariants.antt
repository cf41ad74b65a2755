use Rattle.std.proofs.Common.{◌≡◌, take}
use Rattle.up_kind.proofs.ground.Ground.at.Given as goal

abbrev pub invariant-loop-arg : goal.invariant-loop-arg
invariant-loop-arg l = l.made.items ≡ take l.arg-index l.args

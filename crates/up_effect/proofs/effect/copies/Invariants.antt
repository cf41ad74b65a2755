use Rattle.std.proofs.Common.{◌≡◌, take}
use Rattle.up_effect.proofs.effect.copies.Given as goal

abbrev pub invariant-loop-condition : goal.invariant-loop-condition
invariant-loop-condition l = l.made ≡ take l.condition-index l.conditions

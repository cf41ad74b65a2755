use Rattle.std.proofs.Common.{take}
use Rattle.up_kind.specs.Values.{HasValues}
use Rattle.up_kind.proofs.values.values_of.Given as goal

abbrev pub invariant-loop-value : goal.invariant-loop-value
invariant-loop-value l = HasValues l.set (take l.value-index l.values)

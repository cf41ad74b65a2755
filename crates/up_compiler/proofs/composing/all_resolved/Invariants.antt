use Rattle.std.proofs.Common.{◌≡◌, map, take}
use Rattle.up_compiler.specs.Compose.{resolved}
use Rattle.up_compiler.proofs.composing.all_resolved.Given as goal

abbrev pub invariant-loop-item : goal.invariant-loop-item
invariant-loop-item l = l.made ≡ map (resolved l.items) (take l.item-index l.others)

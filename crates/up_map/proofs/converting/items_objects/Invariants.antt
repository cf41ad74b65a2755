use Rattle.std.proofs.Common.{◌≡◌, drop}
use Rattle.up_compiler.specs.Back.{items_objects}
use Rattle.up_map.proofs.Kept.{and_objects}
use Rattle.up_map.proofs.converting.items_objects.Given as goal

-- the objects so far stand in front of those of the other items
abbrev pub invariant-loop-item : goal.invariant-loop-item
invariant-loop-item l = items_objects l.args l.items ≡ and_objects l.objects (items_objects l.args (drop l.item-index l.items))

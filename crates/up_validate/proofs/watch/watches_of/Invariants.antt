use Rattle.std.proofs.Common.{◌≡◌, map, take}
use Rattle.up_tree.specs.Objects.{world}
use Rattle.up_validate.specs.Watching.{assignments}
use Rattle.up_validate.specs.Watches.{meant_all}
use Rattle.up_validate.proofs.watch.watches_of.Given as goal

abbrev pub invariant-loop-constraint : goal.invariant-loop-constraint
invariant-loop-constraint l = meant_all l.watches ≡ map (assignments (world l.p)) (take l.constraint-index l.constraints)

use Rattle.std.proofs.Common.{◌≡◌, ◌≤◌, ◌-◌, length}
use Rattle.up_declare.proofs.Marking.{Climbed}
use Rattle.up_declare.proofs.types.reaches.Given as goal

-- the traversal is some steps up
abbrev pub invariant-up : goal.invariant-up
invariant-up l = record {
  within : l.left ≤ length l.types.entries;
  climbed : Climbed l.types.entries (length l.types.entries - l.left) l.name l.here;
}

abbrev pub decreases-up : goal.decreases-up
decreases-up l = l.left

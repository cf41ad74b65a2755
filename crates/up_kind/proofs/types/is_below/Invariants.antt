use Rattle.std.proofs.Common.{◌≡◌, length}
use Rattle.std.specs.List.{list_any}
use Rattle.up_text.specs.Names.{same_name}
use Rattle.up_tree.specs.Objects.{world, chain, is_below}
use Rattle.up_kind.proofs.types.is_below.Given as goal

abbrev pub invariant-up : goal.invariant-up
invariant-up l = is_below (world l.tables) l.of l.above ≡ list_any (same_name l.above) (chain l.tables.types (length l.steps) l.here)

abbrev pub decreases-up : goal.decreases-up
decreases-up l = length l.steps

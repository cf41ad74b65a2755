use Rattle.std.proofs.Common.{option_copied}
use Rattle.up_map.proofs.Gathering.{ItemsSo, left}
use Rattle.up_map.proofs.entry.read_items.Given as goal

abbrev pub invariant-reading : goal.invariant-reading
invariant-reading l = ItemsSo l.arity (option_copied l.words) l.items (option_copied l.rest)

abbrev pub decreases-reading : goal.decreases-reading
decreases-reading l = left (option_copied l.rest)

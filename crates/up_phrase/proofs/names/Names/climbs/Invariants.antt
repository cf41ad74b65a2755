use Rattle.std.proofs.Common.{◌≡◌, length}
use Rattle.up_phrase.specs.Declarations.{declarations}
use Rattle.up_phrase.specs.Lookups.{climbs}
use Rattle.up_phrase.proofs.names.Names.climbs.Given as goal

-- what is asked is asked of the type that the traversal has come to
abbrev pub invariant-up : goal.invariant-up
invariant-up l = climbs (declarations l.self) l.due (length l.self.types.entries) l.of ≡ climbs (declarations l.self) l.due l.left l.here

abbrev pub decreases-up : goal.decreases-up
decreases-up l = l.left

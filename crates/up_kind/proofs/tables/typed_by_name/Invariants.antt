use Rattle.std.proofs.Common.{length}
use Rattle.up_tree.specs.declared.term.Typed.{Typed}
use Rattle.up_kind.proofs.Naming.{HasBehind}
use Rattle.up_kind.proofs.tables.typed_by_name.Given as goal

abbrev pub invariant-naming : goal.invariant-naming
invariant-naming l = HasBehind (λ (e : Typed). e.name) l.table l.rest l.entries

abbrev pub decreases-naming : goal.decreases-naming
decreases-naming l = length l.rest

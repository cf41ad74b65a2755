use Rattle.std.proofs.Common.{length}
use Rattle.up_compiler.proofs.Naming.{HasBehind}
use Rattle.up_compiler.proofs.entry_table.entries_by_name.Given as goal

abbrev pub invariant-naming : goal.invariant-naming
invariant-naming l = HasBehind l.table l.rest l.entries

abbrev pub decreases-naming : goal.decreases-naming
decreases-naming l = length l.rest

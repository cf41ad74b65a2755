use Rattle.std.proofs.Common.{length}
use Rattle.up_kind.proofs.Marking.{Adding}
use Rattle.up_kind.proofs.tables.add_names.Given as goal

abbrev pub invariant-adding : goal.invariant-adding
invariant-adding l = Adding l.initial.marks l.fn.names l.marks l.names

abbrev pub decreases-adding : goal.decreases-adding
decreases-adding l = length l.names

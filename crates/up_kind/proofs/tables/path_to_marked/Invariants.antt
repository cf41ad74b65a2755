use Rattle.std.proofs.Common.{length}
use Rattle.up_kind.proofs.Marking.{Climbed}
use Rattle.up_kind.proofs.tables.path_to_marked.Given as goal

abbrev pub invariant-up : goal.invariant-up
invariant-up l = Climbed l.declared l.marks l.path l.of l.here (length l.steps)

abbrev pub decreases-up : goal.decreases-up
decreases-up l = length l.steps

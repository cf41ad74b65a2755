use Rattle.std.proofs.Common.{length}
use Rattle.up_store.specs.Outside.{IsSuffix}
use Rattle.up_store.proofs.folder.write_each.Given as goal

abbrev pub invariant-loop-file : goal.invariant-loop-file
invariant-loop-file g l = IsSuffix (g.P.Pieces.rest l.pieces) (g.P.Pieces.rest l.initial.pieces)

abbrev pub decreases-loop-file : goal.decreases-loop-file
decreases-loop-file g l = length (g.P.Pieces.rest l.pieces)

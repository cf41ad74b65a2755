use Rattle.std.proofs.Common.{◌≡◌, ◌++◌, length}
use Rattle.up_store.proofs.memory_store.gather.Given as goal

-- the bytes so far and those to come are all
abbrev pub invariant-loop-bytes : goal.invariant-loop-bytes
invariant-loop-bytes g l = l.bytes.items ++ g.P.Pieces.rest l.pieces ≡ g.P.Pieces.rest l.initial.pieces

abbrev pub decreases-loop-bytes : goal.decreases-loop-bytes
decreases-loop-bytes g l = length (g.P.Pieces.rest l.pieces)

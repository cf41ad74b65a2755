use Rattle.std.proofs.Common.{◌≡◌, length, max}
use Rattle.up_line.specs.Sheet.{blank}
use Rattle.up_line.specs.Steps.{longest}
use Rattle.up_line.proofs.steps.longest_piece.Given as goal

abbrev pub invariant-loop-steps : goal.invariant-loop-steps
invariant-loop-steps g l = record {
  empty : l.line ≡ blank 0;
  most : max (longest (g.S.Steps.pieces l.steps)) l.most ≡ longest (g.S.Steps.pieces l.initial.steps);
}

abbrev pub decreases-loop-steps : goal.decreases-loop-steps
decreases-loop-steps g l = length (g.S.Steps.pieces l.steps)

use Rattle.std.proofs.Common.{◌≡◌, length}
use Rattle.std.specs.List.{concat}
use Rattle.up_line.specs.Sheet.{after}
use Rattle.up_line.proofs.steps.put_all.Given as goal

abbrev pub invariant-loop-steps : goal.invariant-loop-steps
invariant-loop-steps g l = after l.line (concat (g.S.Steps.pieces l.steps)) ≡ after l.initial.line (concat (g.S.Steps.pieces l.initial.steps))

abbrev pub decreases-loop-steps : goal.decreases-loop-steps
decreases-loop-steps g l = length (g.S.Steps.pieces l.steps)

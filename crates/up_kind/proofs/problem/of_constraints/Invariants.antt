use Rattle.std.proofs.Common.{◌≡◌, take}
use Rattle.up_kind.specs.Features.{has, over}
use Rattle.up_kind.specs.Gathered.{of_constraint}
use Rattle.up_kind.proofs.problem.of_constraints.Given as goal

abbrev pub invariant-loop-constraint : goal.invariant-loop-constraint
invariant-loop-constraint l = has l.kind.0 ≡ over of_constraint (take l.constraint-index l.constraints)

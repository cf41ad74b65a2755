use Rattle.std.proofs.Common.{◌≡◌, take}
use Rattle.up_kind.specs.Features.{has, over}
use Rattle.up_kind.specs.Gathered.{of_type}
use Rattle.up_kind.proofs.problem.of_types.Given as goal

abbrev pub invariant-loop-declared : goal.invariant-loop-declared
invariant-loop-declared l = has l.kind.0 ≡ over of_type (take l.declared-index l.types)

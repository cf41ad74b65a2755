use Rattle.std.proofs.Common.{◌≡◌, take}
use Rattle.up_kind.specs.Features.{has, over}
use Rattle.up_kind.specs.Gathered.{of_function}
use Rattle.up_kind.proofs.problem.of_functions.Given as goal

abbrev pub invariant-loop-function : goal.invariant-loop-function
invariant-loop-function l = has l.kind.0 ≡ over (of_function l.tables) (take l.function-index l.tables.functions)

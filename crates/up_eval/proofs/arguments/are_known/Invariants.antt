use Rattle.std.proofs.Common.{◌≡◌, drop}
use Rattle.up_tree.specs.Objects.{world}
use Rattle.up_eval.specs.Arguments.{are_known}
use Rattle.up_eval.proofs.arguments.are_known.Given as goal

abbrev pub invariant-loop-arg : goal.invariant-loop-arg
invariant-loop-arg l = are_known (world l.p) l.args ≡ are_known (world l.p) (drop l.arg-index l.args)

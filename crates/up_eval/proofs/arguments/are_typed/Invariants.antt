use Rattle.std.proofs.Common.{◌≡◌, drop}
use Rattle.up_tree.specs.Objects.{world}
use Rattle.up_eval.specs.Arguments.{are_typed}
use Rattle.up_eval.proofs.arguments.are_typed.Given as goal

abbrev pub invariant-loop-arg : goal.invariant-loop-arg
invariant-loop-arg l = are_typed (world l.p) l.args l.params ≡ are_typed (world l.p) (drop l.arg-index l.args) l.left

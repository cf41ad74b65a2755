use Rattle.std.proofs.Common.{◌≡◌, ◌++◌, drop}
use Rattle.up_tree.specs.Objects.{world, objects_of}
use Rattle.up_eval.specs.Scope.{names_below}
use Rattle.up_eval.proofs.scope.objects_of.Given as goal

abbrev pub invariant-loop-object : goal.invariant-loop-object
invariant-loop-object l = objects_of (world l.problem) l.of ≡ l.objects ++ names_below (world l.problem) l.of (drop l.object-index l.problem.objects)

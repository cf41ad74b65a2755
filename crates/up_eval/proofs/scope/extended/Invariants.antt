use Rattle.std.proofs.Common.{◌≡◌, ◌++◌, drop}
use Rattle.up_eval.specs.Scope.{with_first}
use Rattle.up_eval.proofs.scope.extended.Given as goal

abbrev pub invariant-loop-rest : goal.invariant-loop-rest
invariant-loop-rest l = l.fn.tuples ++ with_first l.object l.rests ≡ l.tuples ++ with_first l.object (drop l.rest-index l.rests)

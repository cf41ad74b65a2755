use Rattle.std.proofs.Common.{◌≡◌, ◌++◌, drop}
use Rattle.up_eval.specs.Scope.{products}
use Rattle.up_eval.proofs.scope.products.Given as goal

abbrev pub invariant-loop-object : goal.invariant-loop-object
invariant-loop-object l = products l.objects l.rests ≡ l.tuples ++ products (drop l.object-index l.objects) l.rests

use Rattle.std.proofs.Common.{◌≡◌, map, take}
use Rattle.up_eval.specs.Scope.{assignment_of}
use Rattle.up_validate.specs.Watches.{starts}
use Rattle.up_validate.proofs.watch.starts.Given as goal

abbrev pub invariant-loop-scope : goal.invariant-loop-scope
invariant-loop-scope l = l.phases ≡ starts l.rule (map assignment_of (take l._scope-index l.scopes))

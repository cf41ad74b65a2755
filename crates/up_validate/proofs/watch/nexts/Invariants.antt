use Rattle.std.proofs.Common.{◌≡◌, ◌++◌, map, drop}
use Rattle.up_tree.specs.Objects.{world}
use Rattle.up_eval.specs.Scope.{assignment_of}
use Rattle.up_validate.specs.Watches.{nexts}
use Rattle.up_validate.proofs.watch.nexts.Given as goal

abbrev pub invariant-loop-scope : goal.invariant-loop-scope
invariant-loop-scope l =
    nexts (world l.p) l.state l.rule (map assignment_of l.scopes) l.phases
    ≡ l.later ++ nexts (world l.p) l.state l.rule (map assignment_of (drop l.scope-index l.scopes)) l.left

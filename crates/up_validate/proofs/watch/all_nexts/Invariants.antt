use Rattle.std.proofs.Common.{drop}
use Rattle.up_tree.specs.Objects.{world}
use Rattle.up_validate.proofs.Going.{NextsAt}
use Rattle.up_validate.proofs.watch.all_nexts.Given as goal

abbrev pub invariant-loop-constraint : goal.invariant-loop-constraint
invariant-loop-constraint l =
    NextsAt (world l.p) l.state l.p.constraints (drop l.constraint-index l.p.constraints) l.watches l.left l.phases l.olds l.later

use Rattle.std.proofs.Common.{◌≡◌, ◌++◌, drop}
use Rattle.up_validate.specs.Watches.{meant_all, all_starts}
use Rattle.up_validate.proofs.watch.all_starts.Given as goal

abbrev pub invariant-loop-constraint : goal.invariant-loop-constraint
invariant-loop-constraint l =
    all_starts l.constraints (meant_all l.watches) ≡ l.all ++ all_starts (drop l.constraint-index l.constraints) (meant_all l.left)

use Rattle.std.proofs.Common.{◌≡◌, drop}
use Rattle.up_validate.specs.Watches.{are_kept}
use Rattle.up_validate.proofs.watch.are_kept.Given as goal

abbrev pub invariant-loop-phase : goal.invariant-loop-phase
invariant-loop-phase l = are_kept l.phases ≡ are_kept (drop l.phase-index l.phases)

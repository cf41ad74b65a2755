use Rattle.std.proofs.Common.{◌≡◌, drop}
use Rattle.up_kind.specs.Values.{are_inhabited}
use Rattle.up_kind.proofs.values.are_inhabited.Given as goal

abbrev pub invariant-loop-of : goal.invariant-loop-of
invariant-loop-of l = are_inhabited l.tables l.types ≡ are_inhabited l.tables (drop l.of-index l.types)

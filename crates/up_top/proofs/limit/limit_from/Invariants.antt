use Rattle.std.proofs.Common.{◌≡◌, ◌≤◌, drop}
use Rattle.up_top.specs.Words.{limit_from}
use Rattle.up_top.proofs.limit.limit_from.Given as goal

abbrev pub invariant-loop-digit : goal.invariant-loop-digit
invariant-loop-digit l = (limit_from l.limit (drop l.digit-index l.digits) ≡ limit_from l.first l.digits) × (l.limit ≤ 5000000)

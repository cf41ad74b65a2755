use Rattle.std.proofs.Common.{ℕ}
use Rattle.std.specs.Int.{IsGcd}
use Rattle.up_frac.proofs.frac.common_divisor.Given as goal

abbrev pub invariant-steps : goal.invariant-steps
invariant-steps l = (g : ℕ) → IsGcd l.first l.second g → IsGcd l.fn.first l.fn.second g

abbrev pub decreases-steps : goal.decreases-steps
decreases-steps l = l.second

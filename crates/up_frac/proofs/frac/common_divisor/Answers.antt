use Rattle.std.proofs.Common.{arith}
use Rattle.std.proofs.lemmas.Nat.Gcd.{IsGcd-from_zero, IsGcd-from_mod}
use Rattle.up_frac.proofs.CommonDivisors.{common_is, common_some}
use Rattle.up_frac.proofs.frac.common_divisor.Goals as goal

pub steps-preserved : goal.steps-preserved
steps-preserved c g h = c.steps.invariant g (IsGcd-from_mod _ _ g h)

pub returns-clause-value : goal.returns-clause-value
returns-clause-value c = common_is _ _ _ c.requires (c.steps.invariant _ (IsGcd-from_zero _ _ (omega arith)))

pub returns-clause-some : goal.returns-clause-some
returns-clause-some c = rw (returns-clause-value c) (common_some c.args.first c.args.second c.requires)

use Rattle.std.proofs.Common.{rules, arith, ◌≡◌, ◌<◌, ◌^◌, below_more, refl}
use Rattle.std.proofs.lemmas.Grind.{common_steps}
use Rattle.bench_base.proofs.Sums.{sums, no_cause}
use Rattle.bench_base.proofs.added.Goals as goal

pub loop-step-preserved : goal.loop-step-preserved
loop-step-preserved c =
    let small : c.in_ok-sum_size.field-0 < 2 ^ 64 = c.in_ok-sum_size.ensures.small in (
      first_of (search (rules, sums), grind (arith, common_steps, sums)),
      first_of (search (rules, sums), grind (arith, common_steps)),
      below_more _ _ c.loop-step.invariant.2 (no_cause _ c.in_ok-sum_size.field-0 refl c.in_ok-sum_size.ensures.too_large),
    )

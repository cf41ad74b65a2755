use Rattle.std.proofs.Common.{ℕ, ◌≡◌, ◌≤◌, ◌<◌, ◌*◌, ◌^◌}
use Rattle.up_frac.specs.Fraction.{IsBig}
use Rattle.bench_base.specs.Work.{sum_at, sum_size, sum_below}
use Rattle.bench_base.proofs.added.Given as goal

abbrev pub invariant-loop-step : goal.invariant-loop-step
invariant-loop-step l =
    (l.total ≡ sum_below (sum_size l.fractions) l.step) × (l.total ≤ l.step * 2 ^ 64)
    × ((k : ℕ) → k < l.step → ¬ IsBig (sum_at l.fractions k))

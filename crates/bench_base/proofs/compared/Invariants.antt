use Rattle.std.proofs.Common.{◌≡◌, ◌≤◌}
use Rattle.bench_base.specs.Work.{less_count, sum_below}
use Rattle.bench_base.proofs.compared.Given as goal

abbrev pub invariant-loop-step : goal.invariant-loop-step
invariant-loop-step l = (l.total ≡ sum_below (less_count l.fractions) l.step) × (l.total ≤ l.step)

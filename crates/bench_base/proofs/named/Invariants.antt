use Rattle.std.proofs.Common.{◌≡◌, ◌≤◌, ◌*◌, ◌^◌}
use Rattle.bench_base.specs.Work.{names_over, name_length, sum_below}
use Rattle.bench_base.proofs.named.Given as goal

abbrev pub invariant-loop-made : goal.invariant-loop-made
invariant-loop-made l =
    (l.names ≡ names_over l.base l._made) × (l.total ≡ sum_below (name_length l.base) l._made) × (l.total ≤ l._made * 2 ^ 63)

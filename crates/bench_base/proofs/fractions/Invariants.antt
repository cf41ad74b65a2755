use Rattle.std.proofs.Common.{◌≡◌, vec_len}
use Rattle.bench_base.specs.Work.{fractions}
use Rattle.bench_base.proofs.fractions.Given as goal

abbrev pub invariant-loop-k : goal.invariant-loop-k
invariant-loop-k l = (l.list.items ≡ fractions l.k) × (vec_len l.list ≡ l.k)

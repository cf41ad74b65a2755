use Rattle.std.proofs.Common.{◌≡◌, length}
use Rattle.std.specs.FinMap as table
use Rattle.up_eval.specs.Initial.{value_entries, put_all}
use Rattle.up_eval.proofs.state.values_of.Given as goal

abbrev pub invariant-facts : goal.invariant-facts
invariant-facts l = table.from_entries (value_entries l.facts) ≡ put_all (value_entries l.left) l.values

abbrev pub decreases-facts : goal.decreases-facts
decreases-facts l = length l.left

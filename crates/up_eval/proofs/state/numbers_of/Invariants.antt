use Rattle.std.proofs.Common.{◌≡◌, length}
use Rattle.std.specs.FinMap as table
use Rattle.up_eval.specs.Initial.{number_entries, put_all}
use Rattle.up_eval.proofs.state.numbers_of.Given as goal

abbrev pub invariant-facts : goal.invariant-facts
invariant-facts l = table.from_entries (number_entries l.facts) ≡ put_all (number_entries l.left) l.numbers

abbrev pub decreases-facts : goal.decreases-facts
decreases-facts l = length l.left

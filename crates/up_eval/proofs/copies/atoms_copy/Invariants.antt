use Rattle.std.proofs.Common.{◌≡◌, length}
use Rattle.std.specs.FinSet as set
use Rattle.up_eval.specs.Initial.{add_all}
use Rattle.up_eval.proofs.copies.atoms_copy.Given as goal

abbrev pub invariant-keys : goal.invariant-keys
invariant-keys l = set.from_list l.keys.keys ≡ add_all l.rest l.copy

abbrev pub decreases-keys : goal.decreases-keys
decreases-keys l = length l.rest

use Rattle.std.proofs.Common.{◌≡◌, length}
use Rattle.std.specs.FinSet as set
use Rattle.up_eval.specs.Initial.{ground_atoms, add_all}
use Rattle.up_eval.proofs.state.atoms_of.Given as goal

abbrev pub invariant-facts : goal.invariant-facts
invariant-facts l = set.from_list (ground_atoms l.facts) ≡ add_all (ground_atoms l.left) l.atoms

abbrev pub decreases-facts : goal.decreases-facts
decreases-facts l = length l.left

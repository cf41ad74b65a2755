use Rattle.std.proofs.Common.{◌≡◌, length}
use Rattle.std.specs.FinSet as set
use Rattle.up_eval.proofs.table.Atoms.with.Given as goal

abbrev pub invariant-atoms : goal.invariant-atoms
invariant-atoms l = set.union l.fn.self (set.from_list l.fn.atoms) ≡ set.union l.all (set.from_list l.left)

abbrev pub decreases-atoms : goal.decreases-atoms
decreases-atoms l = length l.left

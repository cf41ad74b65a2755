use Rattle.std.proofs.Common.{◌≡◌, drop}
use Rattle.std.specs.FinSet as set
use Rattle.up_eval.proofs.table.Atoms.without.Given as goal

abbrev pub invariant-loop-atom : goal.invariant-loop-atom
invariant-loop-atom l = set.difference l.fn.self (set.from_list l.atoms) ≡ set.difference l.left (set.from_list (drop l.atom-index l.atoms))

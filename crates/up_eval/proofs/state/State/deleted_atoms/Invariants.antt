use Rattle.std.proofs.Common.{◌≡◌, take}
use Rattle.up_tree.specs.Changes.{deleted, of_firing}
use Rattle.up_eval.specs.Firing.{meant_all}
use Rattle.up_eval.proofs.state.State.deleted_atoms.Given as goal

abbrev pub invariant-loop-fired : goal.invariant-loop-fired
invariant-loop-fired l = l.atoms ≡ of_firing deleted l.self (meant_all (take l.fired-index l.effects))

use Rattle.up_tree.specs.Changes.{deleted}
use Rattle.up_eval.proofs.OfEffects.{of_next}
use Rattle.up_eval.proofs.state.State.deleted_atoms.Goals as goal

pub loop-fired-preserved : goal.loop-fired-preserved
loop-fired-preserved c =
    of_next deleted c.args.self.now c.args.effects.now c.loop-fired.fired-index c.fired-item.result c.loop-fired.atoms _ _
    c.loop-fired-test.true c.fired-item.is c.loop-fired.invariant c.in_ok-deleted_atom.ensures c.in_ok-atoms.ensures

use Rattle.up_tree.specs.Changes.{object_change}
use Rattle.up_eval.specs.Effects.{object_meant}
use Rattle.up_eval.proofs.OfEffects.{of_next_map}
use Rattle.up_eval.proofs.state.State.object_changes.Goals as goal

pub loop-fired-preserved : goal.loop-fired-preserved
loop-fired-preserved c =
    of_next_map object_change c.args.self.now object_meant c.args.effects.now c.loop-fired.fired-index c.fired-item.result c.loop-fired.changes _ _
    c.loop-fired-test.true c.fired-item.is c.loop-fired.invariant c.in_ok-object_change.ensures c.in_ok-changes.ensures

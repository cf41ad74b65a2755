use Rattle.up_eval.specs.Firing.{meant_all}
use Rattle.up_eval.specs.Effects.{IsNumbersStop}
use Rattle.up_eval.proofs.OfEffects.{numbers_next, numbers_stop, numbers_defined}
use Rattle.up_eval.proofs.Stops.{stopped}
use Rattle.up_eval.proofs.state.State.number_changes.Goals as goal

pub loop-fired-preserved : goal.loop-fired-preserved
loop-fired-preserved c =
    numbers_next c.args.self.now c.args.effects.now c.loop-fired.fired-index c.fired-item.result c.loop-fired.changes _ _
    c.loop-fired-test.true c.fired-item.is c.loop-fired.invariant c.in_ok-number_change.ensures.value c.in_ok-number_change.ensures.defined c.in_ok-changes.ensures

pub returns-in_err-number_change-clause-stop : goal.returns-in_err-number_change-clause-stop
returns-in_err-number_change-clause-stop c =
    stopped c.from_residual.result _ c.from_residual.ensures.1 (IsNumbersStop c.args.self.now (meant_all c.args.effects.now))
    (numbers_stop c.args.self.now c.args.effects.now c.loop-fired.fired-index c.fired-item.result c.loop-fired-test.true c.fired-item.is _ c.in_err-number_change.ensures.stop)

pub returns-clause-defined : goal.returns-clause-defined
returns-clause-defined c = numbers_defined c.args.self.now c.args.effects.now c.loop-fired.fired-index c.loop-fired.changes c.loop-fired-test.false c.loop-fired.invariant

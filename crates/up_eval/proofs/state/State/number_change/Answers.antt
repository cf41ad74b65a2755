use Rattle.up_eval.proofs.OfEffects.{number_defined}
use Rattle.up_eval.proofs.Stops.{answered}
use Rattle.up_eval.proofs.state.State.number_change.Goals as goal

pub returns-clause-defined : goal.returns-clause-defined
returns-clause-defined c =
    answered c.defined_change.result _ _ c.defined_change.ensures.defined
    (number_defined c.args.self.now c.args.fired.now.effect.now c.args.fired.now.scope _ c.in-Number.change c.in-Number.name c.in-Number.args _ c.in-Number.operand _ _
    c.in-Number.is c.as_slice-scope.ensures c.as_slice.ensures c.in_ok-target.ensures c.in_ok-operand.ensures.value)

use Rattle.std.proofs.Common.{ap, ◌∙◌}
use Rattle.up_tree.specs.Objects.{world}
use Rattle.up_tree.specs.Changes.{changed}
use Rattle.up_eval.specs.Firing.{meant_all}
use Rattle.up_eval.specs.Steps.{IsStop}
use Rattle.up_eval.proofs.Stops.{stopped}
use Rattle.up_eval.proofs.StateChanges.{all_none, action_stops}
use Rattle.up_eval.proofs.state.State.action_changes.Goals as goal

pub returns-in_err-changes-clause-stop : goal.returns-in_err-changes-clause-stop
returns-in_err-changes-clause-stop c =
    let w = world c.args.p.now in
    let s = c.args.self.now in
    stopped c.from_residual-in_err-changes.result _ c.from_residual-in_err-changes.ensures.1 (IsStop w s c.args.action.now c.args.args.now)
    (action_stops w s c.args.action.now c.args.args.now c.in_ok-effects.ensures.none _ (ap meant_all c.as_slice.ensures ∙ c.in_ok-effects.ensures.effects) _ c.in_err-changes.ensures.stop)

pub returns-clause-value : goal.returns-clause-value
returns-clause-value c = c.in_ok-changes.ensures.value ∙ ap (changed c.args.self.now) (ap meant_all c.as_slice.ensures ∙ c.in_ok-effects.ensures.effects)

pub returns-clause-none : goal.returns-clause-none
returns-clause-none c =
    all_none (world c.args.p.now) c.args.self.now c.args.action.now c.args.args.now c.in_ok-effects.ensures.none _
    (ap meant_all c.as_slice.ensures ∙ c.in_ok-effects.ensures.effects) c.in_ok-changes.ensures.no_fault

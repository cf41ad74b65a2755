use Rattle.std.proofs.Common.{ap, sym, subst, ◌∙◌}
use Rattle.up_tree.specs.Objects.{world}
use Rattle.up_tree.specs.Instances.{firing}
use Rattle.up_tree.specs.Changes.{changed}
use Rattle.up_eval.specs.Steps.{RefusesStep, IsStop, ActionHasNone, all_faults}
use Rattle.up_eval.proofs.Stops.{stopped}
use Rattle.up_eval.proofs.StateChanges.{can_take, step_stops, next_is}
use Rattle.up_eval.proofs.Stays.{next_stays}
use Rattle.up_eval.proofs.state.State.changes.Goals as goal

pub returns-in_err-action-clause-refused : goal.returns-in_err-action-clause-refused
returns-in_err-action-clause-refused c =
    stopped c.from_residual.result _ c.from_residual.ensures.1 (RefusesStep c.args.p.now c.args.self.now c.args.step.now) (c.in_err-action.ensures.refused c.args.self.now)

pub returns-in-Ok-clause-next : goal.returns-in-Ok-clause-next
returns-in-Ok-clause-next c =
    let p = c.args.p.now in
    let s = c.args.self.now in
    next_is p s c.args.step.now c.in_ok-action.action.now c.in_ok-action.ensures.action _
    (c.in-Ok.ensures.value ∙ ap (λ args. changed s (firing (world p) s c.in_ok-action.action.now args)) c.as_slice.ensures)

pub returns-in-Ok-clause-can : goal.returns-in-Ok-clause-can
returns-in-Ok-clause-can c =
    let p = c.args.p.now in
    let s = c.args.self.now in
    can_take p s c.args.step.now c.in_ok-action.action.now c.in_ok-action.ensures.action c.in_ok-action.ensures.fits
    (subst (λ args. ActionHasNone (world p) s c.in_ok-action.action.now args all_faults) c.as_slice.ensures c.in-Ok.ensures.none)

pub returns-in-Err-clause-refused : goal.returns-in-Err-clause-refused
returns-in-Err-clause-refused c =
    let p = c.args.p.now in
    let s = c.args.self.now in
    subst (RefusesStep p s c.args.step.now) (sym c.error.ensures)
    (step_stops p s c.args.step.now c.in_ok-action.action.now c.in_ok-action.ensures.action c.in_ok-action.ensures.fits _
    (subst (λ args. IsStop (world p) s c.in_ok-action.action.now args c.in-Err.stop) c.as_slice.ensures c.in-Err.ensures.stop))

pub returns-in-Ok-clause-typed : goal.returns-in-Ok-clause-typed
returns-in-Ok-clause-typed c = next_stays c.args.p.now c.args.self.now c.args.step.now _ (returns-in-Ok-clause-can c) (returns-in-Ok-clause-next c)

use Rattle.std.proofs.Common.{rules, ◌≡◌, ap}
use Rattle.std.specs.Prelude.{◌≢◌, Err}
use Rattle.up_tree.specs.declared.truth.Truth.TheVariants.{True}
use Rattle.up_tree.specs.Objects.{world}
use Rattle.up_eval.specs.Scope.{assignment_of}
use Rattle.up_eval.proofs.Steps.{of_params, pre_large, pre_fails, effects_fired, effects_none, effects_stop}
use Rattle.up_eval.proofs.state.State.effects.Goals as goal

pub returns-in_err-truth_in-clause-stop : goal.returns-in_err-truth_in-clause-stop
returns-in_err-truth_in-clause-stop c =
    pre_large (world c.args.p.now) c.args.self.now c.args.action.now c.args.args.now (assignment_of c.as_slice-2.result.now)
    (of_params c.args.action.now c.args.args.now c.as_slice.result.now c.in_ok-scope.scope c.as_slice-2.result.now c.as_slice.ensures c.as_slice-2.ensures c.in_ok-scope.ensures)
    c.in_err-truth_in.field-0.0 (λ same. c.in_err-truth_in.ensures.too_large (ap Err same)) c.from_residual-in_err-truth_in.result c.from_residual-in_err-truth_in.ensures.1

pub returns-then-ne-clause-stop : goal.returns-then-ne-clause-stop
returns-then-ne-clause-stop c =
    let differs : c.in_ok-truth_in.field-0 ≢ True = search rules in
    pre_fails (world c.args.p.now) c.args.self.now c.args.action.now c.args.args.now (assignment_of c.as_slice-2.result.now)
    (of_params c.args.action.now c.args.args.now c.as_slice.result.now c.in_ok-scope.scope c.as_slice-2.result.now c.as_slice.ensures c.as_slice-2.ensures c.in_ok-scope.ensures)
    c.in_ok-truth_in.field-0 c.in_ok-truth_in.ensures.value differs

pub returns-clause-effects : goal.returns-clause-effects
returns-clause-effects c =
    let same : c.in_ok-truth_in.field-0 ≡ True = search rules in
    effects_fired (world c.args.p.now) c.args.self.now c.args.action.now c.args.args.now (assignment_of c.as_slice-2.result.now)
    (of_params c.args.action.now c.args.args.now c.as_slice.result.now c.in_ok-scope.scope c.as_slice-2.result.now c.as_slice.ensures c.as_slice-2.ensures c.in_ok-scope.ensures)
    c.in_ok-truth_in.field-0 c.in_ok-truth_in.ensures.value same (assignment_of c.as_slice-3.result.now)
    (of_params c.args.action.now c.args.args.now c.as_slice.result.now c.in_ok-scope.scope c.as_slice-3.result.now c.as_slice.ensures c.as_slice-3.ensures c.in_ok-scope.ensures)
    c.as_slice-4.result.now c.as_slice-4.ensures c.fire.result c.fire.ensures.fires

pub returns-clause-none : goal.returns-clause-none
returns-clause-none c =
    let same : c.in_ok-truth_in.field-0 ≡ True = search rules in
    effects_none (world c.args.p.now) c.args.self.now c.args.action.now c.args.args.now (assignment_of c.as_slice-2.result.now)
    (of_params c.args.action.now c.args.args.now c.as_slice.result.now c.in_ok-scope.scope c.as_slice-2.result.now c.as_slice.ensures c.as_slice-2.ensures c.in_ok-scope.ensures)
    c.in_ok-truth_in.field-0 c.in_ok-truth_in.ensures.value same (assignment_of c.as_slice-3.result.now)
    (of_params c.args.action.now c.args.args.now c.as_slice.result.now c.in_ok-scope.scope c.as_slice-3.result.now c.as_slice.ensures c.as_slice-3.ensures c.in_ok-scope.ensures)
    c.as_slice-4.result.now c.as_slice-4.ensures c.fire.result c.fire.ensures.fires

pub returns-clause-stop : goal.returns-clause-stop
returns-clause-stop c =
    let same : c.in_ok-truth_in.field-0 ≡ True = search rules in
    effects_stop (world c.args.p.now) c.args.self.now c.args.action.now c.args.args.now (assignment_of c.as_slice-2.result.now)
    (of_params c.args.action.now c.args.args.now c.as_slice.result.now c.in_ok-scope.scope c.as_slice-2.result.now c.as_slice.ensures c.as_slice-2.ensures c.in_ok-scope.ensures)
    c.in_ok-truth_in.field-0 c.in_ok-truth_in.ensures.value same (assignment_of c.as_slice-3.result.now)
    (of_params c.args.action.now c.args.args.now c.as_slice.result.now c.in_ok-scope.scope c.as_slice-3.result.now c.as_slice.ensures c.as_slice-3.ensures c.in_ok-scope.ensures)
    c.as_slice-4.result.now c.as_slice-4.ensures c.fire.result c.fire.ensures.stop

use Rattle.std.proofs.Common.{◌+◌, take, subst, sym, ap}
use Rattle.up_validate.specs.Runs.{StandsAfter, HaltsAt, Halts}
use Rattle.up_validate.proofs.Running.{taken_more, stands_on, halts_at, halts_first, handed_on}
use Rattle.up_validate.proofs.run.run_by.Goals as goal

pub returns-in_err-run-clause-halts : goal.returns-in_err-run-clause-halts
returns-in_err-run-clause-halts c =
    handed_on c.from_residual.result c.in_err-run.field-0.0 (Halts c.args.p.now c.args.steps.now) c.from_residual.ensures.1
    (halts_first c.args.p.now c.args.steps.now c.in_err-run.field-0.0 c.in_err-run.ensures.halts)

pub returns-in_err-run-2-clause-halts : goal.returns-in_err-run-2-clause-halts
returns-in_err-run-2-clause-halts c =
    handed_on c.from_residual-in_err-run-2.result c.in_err-run-2.field-0.0 (Halts c.args.p.now c.args.steps.now) c.from_residual-in_err-run-2.ensures.1
    (halts_at c.args.p.now c.args.steps.now c.loop-step.step-index c.step-item.result c.loop-step.run c.in_err-run-2.field-0.0 c.loop-step-test.true
    c.step-item.is c.loop-step.invariant.stands
    (subst (λ n. HaltsAt c.args.p.now c.loop-step.run.state (n + 1) c.step-item.result c.in_err-run-2.field-0.0) c.loop-step.invariant.number_is c.in_err-run-2.ensures.halts))

pub loop-step-preserved : goal.loop-step-preserved
loop-step-preserved c = record {
  number_is = ap (λ n. n + 1) c.loop-step.invariant.number_is;
  stands =
      subst (λ them. StandsAfter c.args.p.now them c.in_ok-run-2.run') (sym (taken_more c.args.p.now c.args.steps.now c.loop-step.step-index c.step-item.result c.loop-step-test.true c.step-item.is))
      (stands_on c.args.p.now (take c.loop-step.step-index c.args.steps.now) c.step-item.result c.loop-step.run c.in_ok-run-2.run' c.loop-step.invariant.stands c.in_ok-run-2.ensures.follows);
}

use Rattle.std.proofs.Common.{◌+◌, length, ap, sym, ◌∙◌, subst}
use Rattle.up_validate.specs.Watches.{first_unkept}
use Rattle.up_validate.specs.Verdicts.{MeetsBig}
use Rattle.up_validate.proofs.Judging.{broken, valid, metric_big}
use Rattle.up_validate.proofs.judge.reached.Goals as goal

pub returns-in-Some-clause-verdict : goal.returns-in-Some-clause-verdict
returns-in-Some-clause-verdict c =
    broken c.args.p.now c.args.plan.now c.args.run.now c.requires.stands c.requires.goal c.in-Some.constraint
    (sym c.in-Some.is ∙ c.first_unkept.ensures ∙ ap (first_unkept 1) c.as_slice.ensures)

pub returns-in-Ok-clause-verdict : goal.returns-in-Ok-clause-verdict
returns-in-Ok-clause-verdict c =
    valid c.args.p.now c.args.plan.now c.args.run.now c.requires.stands c.requires.goal
    (sym c.in_default.is ∙ c.first_unkept.ensures ∙ ap (first_unkept 1) c.as_slice.ensures) c.in-Ok.metric c.in-Ok.ensures.value

pub returns-in-Err-clause-unjudged : goal.returns-in-Err-clause-unjudged
returns-in-Err-clause-unjudged c =
    subst (λ steps. MeetsBig c.args.p.now c.args.plan.now (length steps + 1)) (sym c.as_slice-in-Err.ensures)
    (metric_big c.args.p.now c.args.plan.now c.args.run.now c.requires.stands c.in-Err.ensures.too_large)

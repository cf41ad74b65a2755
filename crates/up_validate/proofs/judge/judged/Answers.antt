use Rattle.std.proofs.Common.{◌+◌, length, Err, ap, sym, subst}
use Rattle.up_tree.specs.Objects.{world, unassigned}
use Rattle.up_tree.specs.Big.{BigFormula}
use Rattle.up_validate.specs.Verdicts.{MeetsBig}
use Rattle.up_validate.proofs.Judging.{goal_big}
use Rattle.up_validate.proofs.judge.judged.Goals as goal

pub returns-in-Err-TooLarge-clause-unjudged : goal.returns-in-Err-TooLarge-clause-unjudged
returns-in-Err-TooLarge-clause-unjudged c =
    subst (λ steps. MeetsBig c.args.p.now c.args.plan.now (length steps + 1)) (sym c.as_slice.ensures)
    (goal_big c.args.p.now c.args.plan.now c.args.run.now c.requires
    (subst (λ parts. BigFormula (world c.args.p.now) c.args.run.now.state unassigned parts.goal) c.parts.ensures (c.in-Err-TooLarge.ensures.too_large (ap Err c.in-Err-TooLarge.field-0-is))))

use Rattle.up_validate.specs.Runs.{Halts}
use Rattle.up_validate.proofs.Judging.{too_large}
use Rattle.std.proofs.Common.{subst}
use Rattle.up_validate.proofs.judge.halted.Goals as goal

pub returns-in-TooLarge-clause-unjudged : goal.returns-in-TooLarge-clause-unjudged
returns-in-TooLarge-clause-unjudged c =
    too_large c.args.p.now c.args.plan.now c.in-TooLarge.step (subst (Halts c.args.p.now c.args.plan.now.steps) c.in-TooLarge.is c.requires)

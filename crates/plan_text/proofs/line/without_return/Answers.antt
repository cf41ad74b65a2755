use Rattle.plan_text.proofs.Splitting.{ends_in_return, ends_in_other}
use Rattle.plan_text.proofs.line.without_return.Goals as goal

pub returns-in-Some : goal.returns-in-Some
returns-in-Some c = ends_in_return c.args.line.now c.in-Some.front.now c.in-Some.last.now c.in-Some.ensures.cases.0 c.if-last-eq13.true

pub returns-in_default : goal.returns-in_default
returns-in_default c = ends_in_other c.args.line.now c.in-Some.front.now c.in-Some.last.now c.in-Some.ensures.cases.0 c.if-last-eq13.false

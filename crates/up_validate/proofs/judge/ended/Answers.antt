use Rattle.up_validate.proofs.Judging.{goal_false, goal_undefined}
use Rattle.up_validate.proofs.judge.ended.Goals as goal

pub returns-in-False : goal.returns-in-False
returns-in-False c = record {
  verdict = goal_false c.args.p.now c.args.plan.now c.args.run.now c.requires.stands c.args.goal c.in-False.is c.requires.judges;
  unjudged = tt;
}

pub returns-in-Undefined : goal.returns-in-Undefined
returns-in-Undefined c = record {
  verdict = goal_undefined c.args.p.now c.args.plan.now c.args.run.now c.requires.stands c.args.goal c.in-Undefined.is c.requires.judges;
  unjudged = tt;
}

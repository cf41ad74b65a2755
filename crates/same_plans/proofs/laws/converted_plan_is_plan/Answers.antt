use Rattle.same_plans.proofs.Consequences.{converted_plan, converted_metric}
use Rattle.same_plans.proofs.laws.converted_plan_is_plan.Goals as goal

pub returns-clause-plan : goal.returns-clause-plan
returns-clause-plan c = converted_plan c.args._p.now c.args._q.now c.args._m.now c.requires

pub returns-clause-metric : goal.returns-clause-metric
returns-clause-metric c = converted_metric c.args._p.now c.args._q.now c.args._m.now c.requires

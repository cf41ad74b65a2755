use Rattle.same_plans.proofs.Consequences.{both_have_plans, both_have_plans_at}
use Rattle.same_plans.proofs.laws.plans_exist_together.Goals as goal

pub returns-clause-plan : goal.returns-clause-plan
returns-clause-plan c = both_have_plans c.args._p.now c.args._q.now c.args._m.now c.requires

pub returns-clause-metric : goal.returns-clause-metric
returns-clause-metric c = both_have_plans_at c.args._p.now c.args._q.now c.args._m.now c.requires

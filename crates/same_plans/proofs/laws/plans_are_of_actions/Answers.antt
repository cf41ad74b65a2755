use Rattle.same_plans.proofs.Identity.{plan_of_actions}
use Rattle.same_plans.proofs.laws.plans_are_of_actions.Goals as goal

pub returns : goal.returns
returns c = plan_of_actions c.args._p.now

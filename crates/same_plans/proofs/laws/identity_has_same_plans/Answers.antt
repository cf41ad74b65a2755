use Rattle.same_plans.proofs.Identity.{identity_same}
use Rattle.same_plans.proofs.laws.identity_has_same_plans.Goals as goal

pub returns : goal.returns
returns c = identity_same c.args._p.now

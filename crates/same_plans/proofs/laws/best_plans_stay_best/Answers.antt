use Rattle.same_plans.proofs.Consequences.{best_becomes_best, best_is_of_best}
use Rattle.same_plans.proofs.laws.best_plans_stay_best.Goals as goal

pub returns-clause-sound : goal.returns-clause-sound
returns-clause-sound c = best_becomes_best c.args._p.now c.args._q.now c.args._m.now c.requires

pub returns-clause-complete : goal.returns-clause-complete
returns-clause-complete c = best_is_of_best c.args._p.now c.args._q.now c.args._m.now c.requires

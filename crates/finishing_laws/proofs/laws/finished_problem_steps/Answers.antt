use Rattle.finishing_laws.proofs.Steps.{own_step}
use Rattle.finishing_laws.proofs.laws.finished_problem_steps.Goals as goal

pub returns : goal.returns
returns c = own_step c.args._p.now c.requires

use Rattle.disjunctions_laws.proofs.Plans.{steps}
use Rattle.disjunctions_laws.proofs.laws.disjunctions_step.Goals as goal

pub returns : goal.returns
returns c = steps c.args._p.now c.requires.formed

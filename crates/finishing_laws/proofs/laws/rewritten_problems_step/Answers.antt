use Rattle.finishing_laws.proofs.Steps.{finished_step}
use Rattle.finishing_laws.proofs.laws.rewritten_problems_step.Goals as goal

pub returns : goal.returns
returns g c = λ pairs used oracle law initial are. finished_step c.args._p.now c.args._r.now pairs g.R.Relates.related law used oracle c.requires initial are

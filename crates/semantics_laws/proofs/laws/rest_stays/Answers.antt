use Rattle.semantics_laws.proofs.Framing.{rest_stays}
use Rattle.semantics_laws.proofs.laws.rest_stays.Goals as goal

pub returns : goal.returns
returns c = λ s. rest_stays c.args._p.now s c.args._step.now

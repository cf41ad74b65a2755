use Rattle.semantics_laws.proofs.Planning.{plans_depend}
use Rattle.semantics_laws.proofs.laws.plans_depend_on_named_parts.Goals as goal

pub returns : goal.returns
returns c = plans_depend c.args._p.now

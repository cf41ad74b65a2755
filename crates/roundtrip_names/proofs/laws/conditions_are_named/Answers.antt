use Rattle.roundtrip_names.proofs.Conditions.{conditions_are_named}
use Rattle.roundtrip_names.proofs.laws.conditions_are_named.Goals as goal

pub returns : goal.returns
returns c = λ names objects. conditions_are_named names c.args._p.now objects

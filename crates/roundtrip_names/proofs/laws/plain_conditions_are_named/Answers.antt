use Rattle.roundtrip_names.proofs.Settings.{plain_conditions_are_named}
use Rattle.roundtrip_names.proofs.laws.plain_conditions_are_named.Goals as goal

pub returns : goal.returns
returns c = λ names objects. plain_conditions_are_named names c.args._p.now objects

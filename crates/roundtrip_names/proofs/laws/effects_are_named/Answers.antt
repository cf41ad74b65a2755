use Rattle.roundtrip_names.proofs.Rows.{effects_are_named}
use Rattle.roundtrip_names.proofs.laws.effects_are_named.Goals as goal

pub returns : goal.returns
returns c = λ names objects. effects_are_named names c.args._p.now objects

use Rattle.roundtrip_names.proofs.Settings.{plain_expressions_are_named}
use Rattle.roundtrip_names.proofs.laws.plain_expressions_are_named.Goals as goal

pub returns : goal.returns
returns c = λ names objects. plain_expressions_are_named names c.args._p.now objects

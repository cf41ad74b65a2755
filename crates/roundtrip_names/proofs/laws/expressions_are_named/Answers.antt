use Rattle.roundtrip_names.proofs.Exprs.{expressions_are_named}
use Rattle.roundtrip_names.proofs.laws.expressions_are_named.Goals as goal

pub returns : goal.returns
returns c = λ names objects. expressions_are_named names c.args._p.now objects

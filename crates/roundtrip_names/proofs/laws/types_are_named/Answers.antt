use Rattle.roundtrip_names.proofs.Listed.{types_are_named}
use Rattle.roundtrip_names.proofs.laws.types_are_named.Goals as goal

pub returns : goal.returns
returns c = types_are_named c.args._p.now

use Rattle.roundtrip_names.proofs.Declaring.{types_are_written}
use Rattle.roundtrip_names.proofs.laws.types_are_written.Goals as goal

pub returns : goal.returns
returns c = types_are_written c.args._p.now

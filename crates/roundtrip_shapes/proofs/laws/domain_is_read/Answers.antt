use Rattle.roundtrip_shapes.proofs.Reading.{domains_are_read}
use Rattle.roundtrip_shapes.proofs.laws.domain_is_read.Goals as goal

pub returns : goal.returns
returns c = domains_are_read c.args._p.now

use Rattle.roundtrip_shapes.proofs.Domains.{domains_are_formed}
use Rattle.roundtrip_shapes.proofs.laws.domain_is_formed.Goals as goal

pub returns : goal.returns
returns c = domains_are_formed c.args._p.now

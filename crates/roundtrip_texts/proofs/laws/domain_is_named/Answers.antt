use Rattle.roundtrip_texts.proofs.Domains.{domains_are_named}
use Rattle.roundtrip_texts.proofs.laws.domain_is_named.Goals as goal

pub returns : goal.returns
returns c = domains_are_named c.args._p.now

use Rattle.roundtrip_tokens.proofs.Spelled.{domains_are_spelled}
use Rattle.roundtrip_tokens.proofs.laws.domain_is_spelled.Goals as goal

pub returns : goal.returns
returns c = domains_are_spelled c.args._p.now

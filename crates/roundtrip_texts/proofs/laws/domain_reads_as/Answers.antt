use Rattle.roundtrip_texts.proofs.Domains.{domains_read_as}
use Rattle.roundtrip_texts.proofs.laws.domain_reads_as.Goals as goal

pub returns : goal.returns
returns c = domains_read_as c.args._p.now

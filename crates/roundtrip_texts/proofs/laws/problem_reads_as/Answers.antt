use Rattle.roundtrip_texts.proofs.Reading.{problems_read_as}
use Rattle.roundtrip_texts.proofs.laws.problem_reads_as.Goals as goal

pub returns : goal.returns
returns c = problems_read_as c.args._p.now

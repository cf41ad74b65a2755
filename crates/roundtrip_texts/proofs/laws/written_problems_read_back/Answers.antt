use Rattle.roundtrip_texts.proofs.Reading.{written_problems_read_back}
use Rattle.roundtrip_texts.proofs.laws.written_problems_read_back.Goals as goal

pub returns : goal.returns
returns c = written_problems_read_back c.args._p.now

use Rattle.roundtrip_shapes.proofs.Reading.{problems_are_read}
use Rattle.roundtrip_shapes.proofs.laws.problem_is_read.Goals as goal

pub returns : goal.returns
returns c = problems_are_read c.args._p.now

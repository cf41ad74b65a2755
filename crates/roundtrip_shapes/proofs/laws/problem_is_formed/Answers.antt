use Rattle.roundtrip_shapes.proofs.Problems.{problems_are_formed}
use Rattle.roundtrip_shapes.proofs.laws.problem_is_formed.Goals as goal

pub returns : goal.returns
returns c = problems_are_formed c.args._p.now

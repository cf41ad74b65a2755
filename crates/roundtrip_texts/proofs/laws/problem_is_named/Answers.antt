use Rattle.roundtrip_texts.proofs.Problems.{problems_are_named}
use Rattle.roundtrip_texts.proofs.laws.problem_is_named.Goals as goal

pub returns : goal.returns
returns c = problems_are_named c.args._p.now

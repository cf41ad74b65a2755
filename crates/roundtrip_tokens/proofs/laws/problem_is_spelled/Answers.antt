use Rattle.roundtrip_tokens.proofs.Spelled.{problems_are_spelled}
use Rattle.roundtrip_tokens.proofs.laws.problem_is_spelled.Goals as goal

pub returns : goal.returns
returns c = problems_are_spelled c.args._p.now

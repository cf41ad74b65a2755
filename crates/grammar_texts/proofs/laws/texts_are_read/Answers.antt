use Rattle.grammar_texts.proofs.Spelled.{one_is_spelled, read_is_spelled, spelled_is_read}
use Rattle.grammar_texts.proofs.laws.texts_are_read.Goals as goal

pub returns-clause-read : goal.returns-clause-read
returns-clause-read c = λ domain problem. (spelled_is_read domain problem c.args._p.now, read_is_spelled domain problem c.args._p.now)

pub returns-clause-one : goal.returns-clause-one
returns-clause-one c = λ domain problem. one_is_spelled domain problem c.args._p.now c.args._q.now

use Rattle.grammar_shapes.proofs.Starts.{inits_read, inits_spelled}
use Rattle.grammar_shapes.proofs.laws.inits_law.Goals as goal

pub returns : goal.returns
returns c = λ members. (inits_read c.args._trees.now members, inits_spelled c.args._trees.now members)

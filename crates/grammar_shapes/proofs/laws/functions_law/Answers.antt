use Rattle.grammar_shapes.proofs.Symbols.{functions_read, functions_spelled}
use Rattle.grammar_shapes.proofs.laws.functions_law.Goals as goal

pub returns : goal.returns
returns c = λ groups. (functions_read c.args._place c.args._trees.now groups, functions_spelled c.args._place c.args._trees.now groups)

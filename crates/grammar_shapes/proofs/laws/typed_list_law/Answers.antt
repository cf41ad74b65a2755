use Rattle.grammar_shapes.proofs.Lists.{names_read, names_spelled}
use Rattle.grammar_shapes.proofs.laws.typed_list_law.Goals as goal

pub returns : goal.returns
returns c = λ groups. (names_read c.args._place c.args._trees.now groups, names_spelled c.args._place c.args._trees.now groups)

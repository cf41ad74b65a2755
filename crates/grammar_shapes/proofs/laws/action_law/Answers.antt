use Rattle.grammar_shapes.proofs.Actions.{action_read, action_spelled}
use Rattle.grammar_shapes.proofs.laws.action_law.Goals as goal

pub returns : goal.returns
returns c = λ a. (action_read c.args._place c.args._trees.now a, action_spelled c.args._place c.args._trees.now a)

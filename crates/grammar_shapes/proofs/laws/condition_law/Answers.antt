use Rattle.grammar_shapes.proofs.Conditions.{condition_read, condition_spelled}
use Rattle.grammar_shapes.proofs.laws.condition_law.Goals as goal

pub returns : goal.returns
returns c = λ f. (condition_read c.args._tree.now f, condition_spelled c.args._tree.now f)

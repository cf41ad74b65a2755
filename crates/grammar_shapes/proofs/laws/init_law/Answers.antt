use Rattle.grammar_shapes.proofs.Starts.{init_read, init_spelled}
use Rattle.grammar_shapes.proofs.laws.init_law.Goals as goal

pub returns : goal.returns
returns c = λ member. (init_read c.args._tree.now member, init_spelled c.args._tree.now member)

use Rattle.grammar_shapes.proofs.Effects.{call_read, call_spelled}
use Rattle.grammar_shapes.proofs.laws.call_law.Goals as goal

pub returns : goal.returns
returns c = λ it. (call_read c.args._tree.now it, call_spelled c.args._tree.now it)

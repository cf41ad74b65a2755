use Rattle.grammar_shapes.proofs.Starts.{metric_read, metric_spelled}
use Rattle.grammar_shapes.proofs.laws.metric_law.Goals as goal

pub returns : goal.returns
returns c = λ m. (metric_read c.args._place c.args._trees.now m, metric_spelled c.args._place c.args._trees.now m)

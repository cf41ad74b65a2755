use Rattle.grammar_shapes.proofs.Symbols.{predicates_read, predicates_spelled}
use Rattle.grammar_shapes.proofs.laws.predicates_law.Goals as goal

pub returns : goal.returns
returns c = λ symbols. (predicates_read c.args._trees.now symbols, predicates_spelled c.args._trees.now symbols)

use Rattle.grammar_shapes.proofs.Constraints.{constraint_read, constraint_spelled, faultless_constraint, rejected_constraint}
use Rattle.grammar_shapes.proofs.laws.constraint_law.Goals as goal

pub returns-clause-read : goal.returns-clause-read
returns-clause-read c = λ it. (constraint_read c.args._tree.now it, constraint_spelled c.args._tree.now it)

pub returns-clause-faultless : goal.returns-clause-faultless
returns-clause-faultless c = (rejected_constraint c.args._tree.now, faultless_constraint c.args._tree.now)

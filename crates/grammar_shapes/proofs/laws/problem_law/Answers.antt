use Rattle.grammar_shapes.proofs.Problems.{problem_read, problem_spelled, faultless_problem, rejected_problem}
use Rattle.grammar_shapes.proofs.laws.problem_law.Goals as goal

pub returns-clause-read : goal.returns-clause-read
returns-clause-read c = λ form. (problem_read c.args._trees.now form, problem_spelled c.args._trees.now form)

pub returns-clause-faultless : goal.returns-clause-faultless
returns-clause-faultless c = (rejected_problem c.args._trees.now, faultless_problem c.args._trees.now)

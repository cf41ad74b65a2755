use Rattle.grammar_names.proofs.Problems.{problems, faultless_problems}
use Rattle.grammar_names.proofs.laws.problems_are_read.Goals as goal

pub returns-clause-read : goal.returns-clause-read
returns-clause-read c = problems

pub returns-clause-faultless : goal.returns-clause-faultless
returns-clause-faultless c = faultless_problems

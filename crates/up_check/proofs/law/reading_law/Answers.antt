use Rattle.up_check.proofs.Laws.{problem_one, faultless, settled}
use Rattle.up_check.proofs.law.reading_law.Goals as goal

pub returns-clause-one : goal.returns-clause-one
returns-clause-one c = λ parts others r s. problem_one c.args.domain.now c.args.problem.now parts others r s

pub returns-clause-faultless : goal.returns-clause-faultless
returns-clause-faultless c = λ parts refusal r shallow stops. faultless c.args.domain.now c.args.problem.now parts refusal r shallow stops

pub returns-clause-settled : goal.returns-clause-settled
returns-clause-settled c = settled c.args.domain.now c.args.problem.now

use Rattle.grammar_shapes.proofs.Domains.{domain_read, domain_spelled, faultless_domain, rejected_domain}
use Rattle.grammar_shapes.proofs.laws.domain_law.Goals as goal

pub returns-clause-read : goal.returns-clause-read
returns-clause-read c = λ form. (domain_read c.args._trees.now form, domain_spelled c.args._trees.now form)

pub returns-clause-faultless : goal.returns-clause-faultless
returns-clause-faultless c = (rejected_domain c.args._trees.now, faultless_domain c.args._trees.now)

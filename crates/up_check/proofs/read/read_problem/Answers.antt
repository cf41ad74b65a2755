use Rattle.up_check.specs.Domains.{known_of}
use Rattle.up_check.proofs.Passes.{forms_both, in_domain, reads_both, shallow_both, stops_inside}
use Rattle.up_check.proofs.read.read_problem.Goals as goal

pub returns-in-Ok-clause-reads : goal.returns-in-Ok-clause-reads
returns-in-Ok-clause-reads c =
    reads_both c.args.domain.now c.args.problem.now (known_of c.in-Ok.domain) c.problem_of.result c.in-Ok.ensures.reads c.problem_of.ensures.reads

pub returns-in-Ok-clause-depth : goal.returns-in-Ok-clause-depth
returns-in-Ok-clause-depth c =
    shallow_both c.args.domain.now c.args.problem.now (known_of c.in-Ok.domain) c.problem_of.result c.in-Ok.ensures.reads c.problem_of.ensures.depth

pub returns-in-Ok-clause-forms : goal.returns-in-Ok-clause-forms
returns-in-Ok-clause-forms c =
    forms_both c.args.domain.now c.args.problem.now c.problem_of.result c.in-Ok.ensures.form c.problem_of.ensures.form

pub returns-in-Ok-clause-refused : goal.returns-in-Ok-clause-refused
returns-in-Ok-clause-refused c =
    stops_inside c.args.domain.now c.args.problem.now (known_of c.in-Ok.domain) c.problem_of.result c.in-Ok.ensures.reads c.problem_of.ensures.refused

pub returns-in-Err-clause-refused : goal.returns-in-Err-clause-refused
returns-in-Err-clause-refused c = λ some. in_domain c.args.domain.now c.args.problem.now c.in-Err.refusal (c.in-Err.ensures.refused some)

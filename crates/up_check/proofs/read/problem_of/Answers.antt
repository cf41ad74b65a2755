use Rattle.pddl_parse.specs.Texts.{problem}
use Rattle.up_check.specs.declared.refusal.File.TheVariants as file
use Rattle.up_check.specs.Domains.{known_of}
use Rattle.up_check.specs.Problems.{problem_names}
use Rattle.up_check.proofs.Passes.{is_form, is_shallow, reads_problem, stops_named, stops_unread}
use Rattle.up_check.proofs.read.problem_of.Goals as goal

pub returns-in-Ok-clause-reads : goal.returns-in-Ok-clause-reads
returns-in-Ok-clause-reads c =
    reads_problem (known_of c.args.domain) c.args.text.now c.in-Ok.form c.named_problem-made.result c.in-Ok.ensures.form c.named_problem-made.ensures.ok

pub returns-in-Ok-clause-depth : goal.returns-in-Ok-clause-depth
returns-in-Ok-clause-depth c = is_shallow problem c.args.text.now c.in-Ok.form c.named_problem-made.result c.in-Ok.ensures.form

pub returns-in-Ok-clause-form : goal.returns-in-Ok-clause-form
returns-in-Ok-clause-form c = is_form problem c.args.text.now c.in-Ok.form c.named_problem-made.result c.in-Ok.ensures.form

pub returns-in-Ok-clause-refused : goal.returns-in-Ok-clause-refused
returns-in-Ok-clause-refused c =
    stops_named problem (problem_names (known_of c.args.domain)) file.Problem c.args.text.now c.in-Ok.form c.named_problem-made.result c.in-Ok.ensures.form
    c.named_problem-made.ensures.refused

pub returns-in-Err-clause-refused : goal.returns-in-Err-clause-refused
returns-in-Err-clause-refused c =
    λ some. stops_unread problem (problem_names (known_of c.args.domain)) file.Problem c.args.text.now c.in-Err.refusal (c.in-Err.ensures.refused some)

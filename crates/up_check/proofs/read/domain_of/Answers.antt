use Rattle.pddl_parse.specs.Texts.{domain}
use Rattle.up_check.specs.declared.refusal.File.TheVariants as file
use Rattle.up_check.specs.Domains.{domain_names}
use Rattle.up_check.proofs.Passes.{has_domain, is_form, stops_named, stops_unread}
use Rattle.up_check.proofs.read.domain_of.Goals as goal

pub returns-in-Ok-clause-reads : goal.returns-in-Ok-clause-reads
returns-in-Ok-clause-reads c = has_domain c.args.text.now c.in-Ok.form c.named_domain-made.result c.in-Ok.ensures.form c.named_domain-made.ensures.ok

pub returns-in-Ok-clause-form : goal.returns-in-Ok-clause-form
returns-in-Ok-clause-form c = is_form domain c.args.text.now c.in-Ok.form c.named_domain-made.result c.in-Ok.ensures.form

pub returns-in-Ok-clause-refused : goal.returns-in-Ok-clause-refused
returns-in-Ok-clause-refused c =
    stops_named domain domain_names file.Domain c.args.text.now c.in-Ok.form c.named_domain-made.result c.in-Ok.ensures.form c.named_domain-made.ensures.refused

pub returns-in-Err-clause-refused : goal.returns-in-Err-clause-refused
returns-in-Err-clause-refused c = λ some. stops_unread domain domain_names file.Domain c.args.text.now c.in-Err.refusal (c.in-Err.ensures.refused some)

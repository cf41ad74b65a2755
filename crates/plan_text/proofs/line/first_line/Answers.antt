use Rattle.plan_text.proofs.Splitting.{last_line, next_line}
use Rattle.plan_text.proofs.line.first_line.Goals as goal

pub returns-in-None-clause-lines : goal.returns-in-None-clause-lines
returns-in-None-clause-lines c =
    last_line c.args.text.now c.split_at.result.0.now c.split_at.result.1.now c.line_length.result c.requires
    c.line_length.ensures.value c.split_at.ensures.front c.split_at.ensures.back c.in-None.ensures.cases

pub returns-in-Some-clause-lines : goal.returns-in-Some-clause-lines
returns-in-Some-clause-lines c =
    next_line c.args.text.now c.split_at.result.0.now c.split_at.result.1.now c.in-Some.behind.now c.without_return.result.now
    c.in-Some.field-0-0.now c.line_length.result
    c.line_length.ensures.value c.split_at.ensures.front c.split_at.ensures.back c.in-Some.ensures.cases.0 c.without_return.ensures

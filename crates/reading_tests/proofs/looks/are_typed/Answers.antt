use Rattle.std.proofs.Common.{sym, ◌∙◌}
use Rattle.reading_tests.proofs.Entries.{are_due, due_pass}
use Rattle.reading_tests.proofs.looks.are_typed.Goals as goal

pub returns-then-entries-due : goal.returns-then-entries-due
returns-then-entries-due c = (
  λ is. are_due c.args.entries.now c.args.due.now c.if-entries-due.true (sym c.each_is_typed.ensures ∙ is),
  λ same. c.each_is_typed.ensures ∙ rw same (due_pass c.args.due.now),
)

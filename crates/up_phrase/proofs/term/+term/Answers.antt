use Rattle.std.proofs.Common.{arith}
use Rattle.std.specs.Option.{option_copied}
use Rattle.up_phrase.specs.Declarations.{declarations}
use Rattle.up_phrase.specs.Scopes.{variables}
use Rattle.up_phrase.specs.Terms.{term}
use Rattle.up_phrase.proofs.Steps.{handed_on, due_all}
use Rattle.up_phrase.proofs.TermNodes.{term_off}
use Rattle.up_phrase.proofs.term.+term.Goals as goal

pub checked_term-returns-in_err-declared-in-Call-clause-err : goal.checked_term-returns-in_err-declared-in-Call-clause-err
checked_term-returns-in_err-declared-in-Call-clause-err t c =
    handed_on c.from_residual.result c.in_err-declared-in-Call.field-0.0 _ c.from_residual.ensures.1
    (λ some. term_off (declarations c.args.names.now) (variables c.args.scope.now) c.args.setting c.args.raw.now c.in-Call.place c.in-Call.f c.in-Call.args
    (option_copied c.args.due) c.in_err-declared-in-Call.field-0.0 c.in-Call.is (c.in_err-declared-in-Call.ensures.err some))

pub checked_terms-returns-clause-ok : goal.checked_terms-returns-clause-ok
checked_terms-returns-clause-ok t c =
    due_all (term (declarations c.args.names.now) (variables c.args.scope.now) c.args.setting) c.args.declared.now c.loop-arg.types.now c.args.args.now
    c.loop-arg.arg-index c.loop-arg.made (omega arith) c.loop-arg.invariant

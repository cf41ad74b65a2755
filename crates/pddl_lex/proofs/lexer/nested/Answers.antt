use Rattle.pddl_lex.specs.Faults.{is_too_deep}
use Rattle.pddl_lex.specs.Nesting.{seen}
use Rattle.pddl_lex.proofs.Lexing.{items_step, nest_on}
use Rattle.pddl_lex.proofs.lexer.nested.Goals as goal

pub reading-preserved : goal.reading-preserved
reading-preserved c =
    nest_on is_too_deep _ _ _ (seen c.reading.nest) (seen c.in_ok-nest.nest) c.in_ok-token.field-0.token c.reading.invariant
    (items_step c.reading.rest.now c.in-Some.behind.now c.in-Some.byte.now c.in_ok-token.field-0.more c.reading.place
    c.after_byte.result c.after_bytes-place.result c.in_ok-token.field-0.token
    c.in-Some.ensures.cases.0 c.in_ok-token.ensures.more c.in_ok-token.ensures.token c.after_byte.ensures c.after_bytes-place.ensures)
    (c.in_ok-nest.ensures (λ (e : _). absurd cc))

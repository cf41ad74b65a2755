use Rattle.pddl_lex.proofs.Reading.{tokens_end}
use Rattle.pddl_lex.proofs.Lexing.{items_step, tokens_on}
use Rattle.pddl_lex.proofs.lexer.tokens.Goals as goal

pub reading-preserved : goal.reading-preserved
reading-preserved c =
    tokens_on _ _ _ c.reading.tokens c.add_token.new.tokens c.in_ok-token.field-0.token c.reading.invariant
    (items_step c.reading.rest.now c.in-Some.behind.now c.in-Some.byte.now c.in_ok-token.field-0.more c.reading.place
    c.after_byte.result c.after_bytes-place.result c.in_ok-token.field-0.token
    c.in-Some.ensures.cases.0 c.in_ok-token.ensures.more c.in_ok-token.ensures.token c.after_byte.ensures c.after_bytes-place.ensures)
    c.in_ok-add_token.ensures

pub returns-clause-tokens : goal.returns-clause-tokens
returns-clause-tokens c = tokens_end c.args.text.now c.reading.rest.now c.reading.place c.reading.tokens c.in_default.ensures.cases c.reading.invariant

use Rattle.std.proofs.Common.{◌≡◌, ◌++◌, map, length, Ok}
use Rattle.pddl_lex.specs.Items.{items_from}
use Rattle.pddl_lex.specs.Places.{start}
use Rattle.pddl_lex.proofs.lexer.tokens.Given as goal

-- the text is the tokens so far and what stands in the rest
abbrev pub invariant-reading : goal.invariant-reading
invariant-reading l = items_from l.text 0 start ≡ map Ok l.tokens ++ items_from l.rest 0 l.place

abbrev pub decreases-reading : goal.decreases-reading
decreases-reading l = length l.rest

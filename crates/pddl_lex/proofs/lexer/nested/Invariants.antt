use Rattle.std.proofs.Common.{◌≡◌, length}
use Rattle.pddl_lex.specs.Items.{items_from}
use Rattle.pddl_lex.specs.Nesting.{nested, seen, empty_nest}
use Rattle.pddl_lex.specs.Faults.{is_too_deep}
use Rattle.pddl_lex.specs.Places.{start}
use Rattle.pddl_lex.proofs.lexer.nested.Given as goal

-- the text has the trees that the rest gives to the nest so far
abbrev pub invariant-reading : goal.invariant-reading
invariant-reading l = nested is_too_deep (items_from l.text 0 start) empty_nest ≡ nested is_too_deep (items_from l.rest 0 l.place) (seen l.nest)

abbrev pub decreases-reading : goal.decreases-reading
decreases-reading l = length l.rest

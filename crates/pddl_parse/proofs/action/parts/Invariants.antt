use Rattle.std.proofs.Common.{◌≡◌, length}
use Rattle.pddl_lex.specs.Parses.{over}
use Rattle.pddl_parse.specs.Actions.{filled, parts, no_keys}
use Rattle.pddl_parse.proofs.action.parts.Given as goal

abbrev pub invariant-reading : goal.invariant-reading
invariant-reading l = over (filled l.fn.start) (parts l.place no_keys l.items) ≡ over (filled l.action) (parts l.place l.keys l.rest)

abbrev pub decreases-reading : goal.decreases-reading
decreases-reading l = length l.rest

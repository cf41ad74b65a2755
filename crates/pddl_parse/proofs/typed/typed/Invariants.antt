use Rattle.std.proofs.Common.{◌≡◌, length, false, []}
use Rattle.pddl_lex.specs.Parses.{before}
use Rattle.pddl_parse.specs.TypedLists.{typed}
use Rattle.pddl_parse.proofs.typed.typed.Given as goal

abbrev pub invariant-reading : goal.invariant-reading
invariant-reading l = typed l.what l.place l.items [] false ≡ before l.typing.groups (typed l.what l.place l.rest l.typing.names l.typing.due)

abbrev pub decreases-reading : goal.decreases-reading
decreases-reading l = length l.rest

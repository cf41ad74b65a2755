use Rattle.std.proofs.Common.{◌≡◌, length, false, []}
use Rattle.pddl_lex.specs.Parses.{before}
use Rattle.pddl_parse.specs.Symbols.{declared}
use Rattle.pddl_parse.proofs.symbol.declared.Given as goal

abbrev pub invariant-reading : goal.invariant-reading
invariant-reading l = declared l.place l.items [] false ≡ before l.declaring.groups (declared l.place l.rest l.declaring.functions l.declaring.due)

abbrev pub decreases-reading : goal.decreases-reading
decreases-reading l = length l.rest

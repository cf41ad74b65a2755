use Rattle.std.proofs.Common.{◌≡◌, drop}
use Rattle.pddl_lex.specs.Parses.{before}
use Rattle.up_phrase.specs.Declarations.{declarations}
use Rattle.up_declare.specs.Declaring.{arg_types}
use Rattle.up_declare.proofs.declare.arg_types.Given as goal

-- the types so far come before those of the rest
abbrev pub invariant-loop-group : goal.invariant-loop-group
invariant-loop-group l =
    arg_types (declarations l.names) l.groups ≡ before l.types (arg_types (declarations l.names) (drop l.group-index l.groups))

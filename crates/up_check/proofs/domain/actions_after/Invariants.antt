use Rattle.std.proofs.Common.{◌≡◌, drop}
use Rattle.pddl_lex.specs.Parses.{before}
use Rattle.up_phrase.specs.Declarations.{declarations}
use Rattle.up_check.specs.Domains.{actions}
use Rattle.up_check.proofs.domain.actions_after.Given as goal

-- the actions so far come before those of the rest, whose names may be none of those declared so far
abbrev pub invariant-loop-raw : goal.invariant-loop-raw
invariant-loop-raw l = actions (declarations l.names) l.fn.declared l.raws ≡ before l.actions (actions (declarations l.names) l.declared (drop l.raw-index l.raws))

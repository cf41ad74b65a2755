use Rattle.std.proofs.Common.{◌≡◌, map, drop}
use Rattle.pddl_lex.specs.Parses.{all, before}
use Rattle.up_phrase.specs.Declarations.{declarations}
use Rattle.up_phrase.specs.Scopes.{variables}
use Rattle.up_phrase.specs.Terms.{each_due, term}
use Rattle.up_phrase.proofs.term.+term.Given as goal

-- the arguments so far come before those of the rest
abbrev pub invariant-checked_terms-loop-arg : goal.invariant-checked_terms-loop-arg
invariant-checked_terms-loop-arg l =
    all (each_due l.declared (map (term (declarations l.names) (variables l.scope) l.setting) l.args))
    ≡ before l.made (all (each_due l.types (map (term (declarations l.names) (variables l.scope) l.setting) (drop l.arg-index l.args))))

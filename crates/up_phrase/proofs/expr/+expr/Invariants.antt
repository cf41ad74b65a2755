use Rattle.std.proofs.Common.{◌≡◌, map, drop}
use Rattle.pddl_lex.specs.Parses.{all, before}
use Rattle.up_phrase.specs.Declarations.{declarations}
use Rattle.up_phrase.specs.Exprs.{expr}
use Rattle.up_phrase.specs.Scopes.{variables}
use Rattle.up_phrase.proofs.expr.+expr.Given as goal

-- the operands so far come before those of the rest
abbrev pub invariant-checked_exprs-loop-operand : goal.invariant-checked_exprs-loop-operand
invariant-checked_exprs-loop-operand l =
    all (map (expr (declarations l.names) (variables l.scope) l.setting) l.operands)
    ≡ before l.made (all (map (expr (declarations l.names) (variables l.scope) l.setting) (drop l.operand-index l.operands)))

use Rattle.std.proofs.Common.{◌≡◌, map, drop}
use Rattle.pddl_lex.specs.Parses.{all, before}
use Rattle.up_phrase.specs.Declarations.{declarations}
use Rattle.up_phrase.specs.Conditions.{formula}
use Rattle.up_phrase.specs.Scopes.{variables, barred}
use Rattle.up_phrase.proofs.formula.+formula.Given as goal

-- the conditions so far come before those of the rest, and the scope is as it was
abbrev pub invariant-checked_formulas-loop-member : goal.invariant-checked_formulas-loop-member
invariant-checked_formulas-loop-member l = record {
  so_far :
      all (map (formula (declarations l.names) (variables l.fn.scope) l.setting) l.members)
      ≡ before l.made (all (map (formula (declarations l.names) (variables l.fn.scope) l.setting) (drop l.member-index l.members)));
  kept : variables l.scope ≡ variables l.fn.scope;
  same : barred l.scope ≡ barred l.fn.scope;
}

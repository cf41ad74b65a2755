use Rattle.std.proofs.Common.{◌≡◌, drop}
use Rattle.up_phrase.specs.Barred.{names_of, each_once}
use Rattle.up_phrase.specs.Scopes.{variables, barred}
use Rattle.up_phrase.proofs.scope.Scope.bar_names.Given as goal

-- the names so far come before those of the rest
abbrev pub invariant-loop-variable : goal.invariant-loop-variable
invariant-loop-variable l = record {
  so_far :
      each_once (barred l.fn.self) (names_of l.vars)
      ≡ each_once (barred l.self) (names_of (drop l.variable-index l.vars));
  kept : variables l.self ≡ variables l.fn.self;
}

use Rattle.std.proofs.Common.{◌≡◌, flat_map, drop}
use Rattle.up_phrase.specs.Barred.{binds, each_once}
use Rattle.up_phrase.specs.Scopes.{variables, barred}
use Rattle.up_phrase.proofs.scope.Scope.+bar.Given as goal

-- what the conditions bind is what those so far bind, and then the rest
abbrev pub invariant-bar_all-loop-condition : goal.invariant-bar_all-loop-condition
invariant-bar_all-loop-condition l = record {
  so_far :
      each_once (barred l.fn.self) (flat_map binds l.conditions)
      ≡ each_once (barred l.self) (flat_map binds (drop l.condition-index l.conditions));
  kept : variables l.self ≡ variables l.fn.self;
}

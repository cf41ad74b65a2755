use Rattle.std.proofs.Common.{◌≡◌, ◌++◌, map, drop}
use Rattle.up_phrase.specs.Scopes.{variables, typed}
use Rattle.up_phrase.proofs.scope.Scope.since.Given as goal

-- the variables so far come before those of the rest
abbrev pub invariant-loop-at : goal.invariant-loop-at
invariant-loop-at l = map typed (drop l.from (variables l.self)) ≡ l.variables ++ map typed (drop l.at (variables l.self))

use Rattle.std.proofs.Common.{◌≡◌, drop}
use Rattle.std.specs.Option.{option_copied}
use Rattle.up_eval.specs.Scope.{assignment_of, found_in}
use Rattle.up_eval.proofs.scope.bound.Given as goal

abbrev pub invariant-loop-binding : goal.invariant-loop-binding
invariant-loop-binding l = assignment_of l.scope l.name ≡ found_in l.name (drop l.binding-index l.scope) (option_copied l.found)

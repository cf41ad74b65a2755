use Rattle.std.proofs.Common.{◌≡◌, map, take}
use Rattle.up_tree.specs.Objects.{assign, unassigned}
use Rattle.up_eval.specs.Scope.{assignment_of}
use Rattle.up_validate.proofs.watch.scopes_at.Given as goal

abbrev pub invariant-loop-tuple : goal.invariant-loop-tuple
invariant-loop-tuple l = map assignment_of l.scopes ≡ map (λ tuple. assign l.vars tuple unassigned) (take l.tuple-index l.tuples)

use Rattle.std.proofs.Common.{◌≡◌, drop}
use Rattle.up_tree.specs.Objects.{assign}
use Rattle.up_eval.specs.Scope.{assignment_of}
use Rattle.up_eval.proofs.scope.assigned.Given as goal

abbrev pub invariant-loop-var : goal.invariant-loop-var
invariant-loop-var l = assign l.vars l.objects (assignment_of l.scope) ≡ assign (drop l.var-index l.vars) l.left (assignment_of l.inner)

use Rattle.std.proofs.Common.{◌≡◌, ◌++◌, drop, option_map}
use Rattle.up_tree.specs.Value.{values_of, ground_at}
use Rattle.up_eval.specs.Scope.{assignment_of}
use Rattle.up_eval.proofs.state.State.+value.Given as goal

abbrev pub invariant-ground-loop-arg : goal.invariant-ground-loop-arg
invariant-ground-loop-arg l =
    let e = assignment_of l.scope in
    ground_at l.self e l.name l.args ≡ option_map (λ rest. l.names ++ rest) (values_of l.self e (drop l.arg-index l.args))

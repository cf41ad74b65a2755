use Rattle.std.proofs.Common.{take}
use Rattle.std.specs.Prelude.{flat_map}
use Rattle.up_tree.specs.Objects.{world}
use Rattle.up_eval.specs.Scope.{assignment_of}
use Rattle.up_eval.specs.Firing.{HasFired, meant_all}
use Rattle.up_eval.proofs.Fired.{only_at}
use Rattle.up_eval.proofs.state.State.fire_row.Given as goal

abbrev pub invariant-loop-tuple : goal.invariant-loop-tuple
invariant-loop-tuple l = HasFired (world l.p) l.self (flat_map (only_at (assignment_of l.scope) l.row) (take l.tuple-index l.tuple-items)) (meant_all l.initial.fired) (meant_all l.fired)

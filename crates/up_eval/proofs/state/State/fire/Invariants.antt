use Rattle.std.proofs.Common.{[], take}
use Rattle.std.specs.Prelude.{flat_map}
use Rattle.up_tree.specs.Objects.{world}
use Rattle.up_tree.specs.Instances.{row_instances}
use Rattle.up_eval.specs.Scope.{assignment_of}
use Rattle.up_eval.specs.Firing.{HasFired, meant_all}
use Rattle.up_eval.proofs.state.State.fire.Given as goal

abbrev pub invariant-loop-row : goal.invariant-loop-row
invariant-loop-row l = HasFired (world l.p) l.self (flat_map (row_instances (world l.p) (assignment_of l.scope)) (take l.row-index l.rows)) [] (meant_all l.fired)

use Rattle.std.proofs.Common.{arith, []}
use Rattle.up_tree.specs.Objects.{world}
use Rattle.up_tree.specs.Instances.{row_instances}
use Rattle.up_eval.specs.Scope.{assignment_of}
use Rattle.up_eval.specs.Firing.{meant_all}
use Rattle.up_eval.proofs.Fired.{loop_next, loop_err}
use Rattle.up_eval.proofs.state.State.fire.Goals as goal

pub returns-in_err-fire_row-clause-stop : goal.returns-in_err-fire_row-clause-stop
returns-in_err-fire_row-clause-stop c =
    loop_err (world c.args.p.now) c.args.self.now (row_instances (world c.args.p.now) (assignment_of c.args.scope.now)) c.args.rows.now c.loop-row.row-index c.row-item.result
    c.in_err-fire_row.field-0.0 c.from_residual.result (omega arith) c.row-item.is c.in_err-fire_row.ensures.stop c.from_residual.ensures.1

pub loop-row-preserved : goal.loop-row-preserved
loop-row-preserved c =
    loop_next (world c.args.p.now) c.args.self.now (row_instances (world c.args.p.now) (assignment_of c.args.scope.now)) c.args.rows.now c.loop-row.row-index c.row-item.result
    [] (meant_all c.loop-row.fired) (meant_all c.fire_row.new.fired) (omega arith) c.row-item.is c.loop-row.invariant c.in_ok-fire_row.ensures.fires

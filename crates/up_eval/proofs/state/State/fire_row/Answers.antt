use Rattle.std.proofs.Common.{arith}
use Rattle.up_tree.specs.Objects.{world}
use Rattle.up_eval.specs.Scope.{assignment_of}
use Rattle.up_eval.specs.Firing.{meant_all}
use Rattle.up_eval.proofs.Fired.{row_tuples, row_next, row_end, row_err}
use Rattle.up_eval.proofs.state.State.fire_row.Goals as goal

pub returns-in_err-fire_at-clause-stop : goal.returns-in_err-fire_at-clause-stop
returns-in_err-fire_at-clause-stop c =
    row_err (world c.args.p.now) c.args.self.now (assignment_of c.args.scope.now) c.args.row.now c.as_slice-tuple-items.result.now
    (row_tuples (world c.args.p.now) c.args.row.now c.as_slice.result.now c.in_ok-them.them c.as_slice-tuple-items.result.now c.as_slice-tuple-items.ensures c.in_ok-them.ensures c.as_slice.ensures)
    c.loop-tuple.tuple-index c.tuple-item.result c.as_slice-in-loop-tuple.result.now c.in_err-fire_at.field-0.0 c.from_residual-in_err-fire_at.result
    (omega arith) c.tuple-item.is c.as_slice-in-loop-tuple.ensures c.in_err-fire_at.ensures.stop c.from_residual-in_err-fire_at.ensures.1

pub loop-tuple-preserved : goal.loop-tuple-preserved
loop-tuple-preserved c =
    row_next (world c.args.p.now) c.args.self.now (assignment_of c.args.scope.now) c.args.row.now c.as_slice-tuple-items.result.now
    c.loop-tuple.tuple-index c.tuple-item.result c.as_slice-in-loop-tuple.result.now (meant_all c.args.fired.now) (meant_all c.loop-tuple.fired) (meant_all c.fire_at.new.fired)
    (omega arith) c.tuple-item.is c.as_slice-in-loop-tuple.ensures c.loop-tuple.invariant c.in_ok-fire_at.ensures.fires

pub returns-clause-fires : goal.returns-clause-fires
returns-clause-fires c =
    row_end (world c.args.p.now) c.args.self.now (assignment_of c.args.scope.now) c.args.row.now c.as_slice-tuple-items.result.now
    (row_tuples (world c.args.p.now) c.args.row.now c.as_slice.result.now c.in_ok-them.them c.as_slice-tuple-items.result.now c.as_slice-tuple-items.ensures c.in_ok-them.ensures c.as_slice.ensures)
    c.loop-tuple.tuple-index (meant_all c.args.fired.now) (meant_all c.loop-tuple.fired) (omega arith) c.loop-tuple.invariant

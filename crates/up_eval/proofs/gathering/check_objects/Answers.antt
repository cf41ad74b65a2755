use Rattle.up_eval.specs.Effects.{object_meant}
use Rattle.up_eval.specs.Gathering.{AreFirst, IsObjectStop}
use Rattle.std.proofs.Common.{map}
use Rattle.up_eval.proofs.Stops.{stopped}
use Rattle.up_eval.proofs.Gathered.{loop_more, loop_stops, firsts_none}
use Rattle.up_eval.proofs.gathering.check_objects.Goals as goal

pub loop-change-preserved : goal.loop-change-preserved
loop-change-preserved c =
    loop_more object_meant (λ cs. AreFirst cs c.in_ok-firsts.firsts) c.args.changes.now c.loop-change.change-index c.change-item.result
    c.loop-change-test.true c.change-item.is (c.in_ok-firsts.ensures.more _ c.loop-change.invariant)

pub loop-change-init : goal.loop-change-init
loop-change-init c = firsts_none c.args.changes.now _ c.new-firsts.ensures

pub returns-in_err-firsts-clause-stop : goal.returns-in_err-firsts-clause-stop
returns-in_err-firsts-clause-stop c =
    stopped c.from_residual.result _ c.from_residual.ensures.1 (IsObjectStop (map object_meant c.args.changes.now))
    (loop_stops object_meant (λ cs. IsObjectStop cs c.in_err-firsts.field-0.0) c.args.changes.now c.loop-change.change-index c.change-item.result
    c.loop-change-test.true c.change-item.is (λ behind. c.in_err-firsts.ensures.stop _ behind c.loop-change.invariant))

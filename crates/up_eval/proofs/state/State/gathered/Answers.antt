use Rattle.up_eval.specs.Effects.{number_meant}
use Rattle.up_eval.specs.Gathering.{AreGathered, IsGatherStop}
use Rattle.std.proofs.Common.{map}
use Rattle.up_eval.proofs.Stops.{stopped}
use Rattle.up_eval.proofs.Gathered.{loop_more, loop_stops, gathers_none}
use Rattle.up_eval.proofs.state.State.gathered.Goals as goal

pub loop-change-preserved : goal.loop-change-preserved
loop-change-preserved c =
    loop_more number_meant (λ cs. AreGathered c.args.self.now cs c.in_ok-gathered.gathered) c.args.changes.now c.loop-change.change-index c.change-item.result
    c.loop-change-test.true c.change-item.is (c.in_ok-gathered.ensures.more _ c.loop-change.invariant)

pub loop-change-init : goal.loop-change-init
loop-change-init c = gathers_none c.args.self.now c.args.changes.now _ c.new-gathered.ensures

pub returns-in_err-gathered-clause-stop : goal.returns-in_err-gathered-clause-stop
returns-in_err-gathered-clause-stop c =
    stopped c.from_residual.result _ c.from_residual.ensures.1 (IsGatherStop c.args.self.now (map number_meant c.args.changes.now))
    (loop_stops number_meant (λ cs. IsGatherStop c.args.self.now cs c.in_err-gathered.field-0.0) c.args.changes.now c.loop-change.change-index c.change-item.result
    c.loop-change-test.true c.change-item.is (λ behind. c.in_err-gathered.ensures.stop _ behind c.loop-change.invariant))

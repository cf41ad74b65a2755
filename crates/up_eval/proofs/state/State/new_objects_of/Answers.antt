use Rattle.std.proofs.Common.{map, ap, subst, ◌∙◌}
use Rattle.up_eval.specs.Firing.{meant_all}
use Rattle.up_eval.specs.Effects.{object_meant}
use Rattle.up_eval.specs.Gathering.{AreUnanimous}
use Rattle.up_eval.specs.Nexts.{IsNewObjectsStop}
use Rattle.up_eval.proofs.Stops.{stopped}
use Rattle.up_eval.proofs.StateChanges.{objects_stop}
use Rattle.up_eval.proofs.state.State.new_objects_of.Goals as goal

pub returns-in_err-check_objects-clause-stop : goal.returns-in_err-check_objects-clause-stop
returns-in_err-check_objects-clause-stop c =
    let s = c.args.self.now in
    let fs = meant_all c.args.effects.now in
    stopped c.from_residual-in_err-check_objects.result _ c.from_residual-in_err-check_objects.ensures.1 (IsNewObjectsStop s fs)
    (objects_stop s fs _ (ap (map object_meant) c.as_slice.ensures ∙ c.in_ok-changes.ensures) _ c.in_err-check_objects.ensures.stop)

pub returns-clause-agree : goal.returns-clause-agree
returns-clause-agree c = subst AreUnanimous (ap (map object_meant) c.as_slice.ensures ∙ c.in_ok-changes.ensures) c.in_ok-check_objects.ensures.agree

use Rattle.std.proofs.Common.{map, ap, sym, ◌∙◌}
use Rattle.up_eval.specs.Firing.{meant_all}
use Rattle.up_eval.specs.Effects.{object_meant}
use Rattle.up_eval.specs.Nexts.{IsEffectsStop}
use Rattle.up_eval.proofs.Stops.{stopped}
use Rattle.up_eval.proofs.OfEffects.{objects_undefined, objects_defined}
use Rattle.up_eval.proofs.StateChanges.{changed_is, effects_numbers_stop, effects_objects_stop, no_conflict}
use Rattle.up_eval.proofs.state.State.changes_of.Goals as goal

pub returns-then-lacks-clause-stop : goal.returns-then-lacks-clause-stop
returns-then-lacks-clause-stop c = objects_undefined c.args.self.now (meant_all c.args.effects.now) (sym c.in_ok-lacks.ensures ∙ c.if-lacks.true)

pub returns-in_err-numbers-clause-stop : goal.returns-in_err-numbers-clause-stop
returns-in_err-numbers-clause-stop c =
    let s = c.args.self.now in
    let fs = meant_all c.args.effects.now in
    stopped c.from_residual-in_err-numbers.result _ c.from_residual-in_err-numbers.ensures.1 (IsEffectsStop s fs)
    (effects_numbers_stop s fs (objects_defined s fs (sym c.in_ok-lacks.ensures ∙ c.if-lacks.false)) _ c.in_err-numbers.ensures.stop)

pub returns-in_err-objects-clause-stop : goal.returns-in_err-objects-clause-stop
returns-in_err-objects-clause-stop c =
    let s = c.args.self.now in
    let fs = meant_all c.args.effects.now in
    stopped c.from_residual-in_err-objects.result _ c.from_residual-in_err-objects.ensures.1 (IsEffectsStop s fs)
    (effects_objects_stop s fs (objects_defined s fs (sym c.in_ok-lacks.ensures ∙ c.if-lacks.false)) c.in_ok-numbers.ensures.defined c.in_ok-numbers.ensures.apart _ c.in_err-objects.ensures.stop)

pub returns-clause-value : goal.returns-clause-value
returns-clause-value c =
    changed_is c.args.self.now (meant_all c.args.effects.now) _ c.in_ok-changes.ensures.deleted c.in_ok-changes.ensures.added
    (c.in_ok-changes.ensures.numbers ∙ c.in_ok-numbers.ensures.value) (ap (map object_meant) c.in_ok-changes.ensures.objects ∙ c.in_ok-objects.ensures.value)
    c.in_ok-objects.ensures.agree

pub returns-clause-no_fault : goal.returns-clause-no_fault
returns-clause-no_fault c =
    let s = c.args.self.now in
    let fs = meant_all c.args.effects.now in
    record {
      objects = objects_defined s fs (sym c.in_ok-lacks.ensures ∙ c.if-lacks.false);
      numbers = c.in_ok-numbers.ensures.defined;
      apart = c.in_ok-numbers.ensures.apart;
      agree = no_conflict s fs c.in_ok-objects.ensures.agree;
    }

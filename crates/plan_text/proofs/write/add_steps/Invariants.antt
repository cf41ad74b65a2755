use Rattle.std.proofs.Common.{◌≡◌, ◌++◌, take}
use Rattle.std.specs.Prelude.{All, flat_map}
use Rattle.plan_text.specs.Texts.{step_text, HasNames}
use Rattle.plan_text.proofs.write.add_steps.Given as goal

abbrev pub invariant-loop-step : goal.invariant-loop-step
invariant-loop-step l = record {
  text : l.text.items ≡ l.initial.text.items ++ flat_map step_text (take l.step-index l.steps);
  names : All HasNames (take l.step-index l.steps);
}

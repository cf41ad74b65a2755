use Rattle.std.proofs.Common.{arith}
use Rattle.std.proofs.lemmas.Grind.{common_steps}
use Rattle.plan_text.specs.Texts.{HasNames}
use Rattle.plan_text.proofs.Gone.{all_more}
use Rattle.plan_text.proofs.write.add_steps.Goals as goal

pub loop-step-preserved : goal.loop-step-preserved
loop-step-preserved c = record {
  text = grind (arith, common_steps);
  names = all_more HasNames c.args.steps.now c.loop-step.step-index c.step-item.result c.loop-step-test.true c.step-item.is c.loop-step.invariant.names c.in_ok-add_step.ensures.names;
}

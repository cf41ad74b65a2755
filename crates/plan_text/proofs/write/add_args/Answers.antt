use Rattle.std.proofs.Common.{arith}
use Rattle.std.proofs.lemmas.Grind.{common_steps}
use Rattle.up_text.specs.Names.{IsName}
use Rattle.plan_text.proofs.Gone.{all_more}
use Rattle.plan_text.proofs.write.add_args.Goals as goal

pub loop-arg-preserved : goal.loop-arg-preserved
loop-arg-preserved c = record {
  text = grind (arith, common_steps);
  names = all_more IsName c.args.args.now c.loop-arg.arg-index c.arg-item.result c.loop-arg-test.true c.arg-item.is c.loop-arg.invariant.names c.bytes.ensures.name;
}

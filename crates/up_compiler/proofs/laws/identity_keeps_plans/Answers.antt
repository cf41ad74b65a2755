use Rattle.up_compiler.proofs.Kept.{identity_keeps}
use Rattle.up_compiler.proofs.laws.identity_keeps_plans.Goals as goal

pub returns : goal.returns
returns c = identity_keeps c.args._p.now

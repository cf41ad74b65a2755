use Rattle.roundtrip_shapes.proofs.Formed.{conditions_are_formed}
use Rattle.roundtrip_shapes.proofs.laws.conditions_are_formed.Goals as goal

pub returns : goal.returns
returns c = conditions_are_formed c.args._p.now

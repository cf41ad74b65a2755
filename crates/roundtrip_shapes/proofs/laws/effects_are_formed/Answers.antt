use Rattle.roundtrip_shapes.proofs.Formed.{effects_are_formed}
use Rattle.roundtrip_shapes.proofs.laws.effects_are_formed.Goals as goal

pub returns : goal.returns
returns c = effects_are_formed c.args._p.now

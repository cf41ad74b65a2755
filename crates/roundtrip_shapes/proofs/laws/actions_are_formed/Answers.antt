use Rattle.roundtrip_shapes.proofs.Actions.{actions_are_formed}
use Rattle.roundtrip_shapes.proofs.laws.actions_are_formed.Goals as goal

pub returns : goal.returns
returns c = actions_are_formed c.args._p.now

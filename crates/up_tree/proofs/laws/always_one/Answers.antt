use Rattle.up_tree.proofs.Steps.{always_one}
use Rattle.up_tree.proofs.laws.always_one.Goals as goal

pub returns : goal.returns
returns c = always_one

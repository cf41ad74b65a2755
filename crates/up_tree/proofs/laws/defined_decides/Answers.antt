use Rattle.up_tree.proofs.Defined.{defined_decides}
use Rattle.up_tree.proofs.laws.defined_decides.Goals as goal

pub returns : goal.returns
returns c = defined_decides

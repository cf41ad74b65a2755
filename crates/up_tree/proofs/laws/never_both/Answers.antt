use Rattle.up_tree.proofs.Steps.{never_both}
use Rattle.up_tree.proofs.laws.never_both.Goals as goal

pub returns : goal.returns
returns c = never_both

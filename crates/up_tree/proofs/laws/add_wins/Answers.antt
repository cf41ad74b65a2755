use Rattle.up_tree.proofs.Steps.{add_wins}
use Rattle.up_tree.proofs.laws.add_wins.Goals as goal

pub returns : goal.returns
returns c = add_wins

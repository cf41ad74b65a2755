use Rattle.wellformed_texts.proofs.Leaves.{trees_literal}
use Rattle.wellformed_texts.proofs.laws.trees_have_literals.Goals as goal

pub returns : goal.returns
returns c = trees_literal

use Rattle.wellformed_texts.proofs.Forms.{problems_are_lawful}
use Rattle.wellformed_texts.proofs.laws.problems_are_lawful.Goals as goal

pub returns : goal.returns
returns c = problems_are_lawful

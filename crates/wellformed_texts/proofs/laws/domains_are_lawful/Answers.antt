use Rattle.wellformed_texts.proofs.Forms.{domains_are_lawful}
use Rattle.wellformed_texts.proofs.laws.domains_are_lawful.Goals as goal

pub returns : goal.returns
returns c = domains_are_lawful

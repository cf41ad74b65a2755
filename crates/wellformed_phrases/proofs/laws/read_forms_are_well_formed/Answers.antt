use Rattle.wellformed_phrases.proofs.Composing.{forms_are_well_formed}
use Rattle.wellformed_phrases.proofs.laws.read_forms_are_well_formed.Goals as goal

pub returns : goal.returns
returns c = λ domain lawful problem also known knows reads. forms_are_well_formed domain lawful problem also known knows c.args._p.now reads

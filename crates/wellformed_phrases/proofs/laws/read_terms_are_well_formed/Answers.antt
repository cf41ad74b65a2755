use Rattle.wellformed_phrases.proofs.Terms.{terms_are_well_formed}
use Rattle.wellformed_phrases.proofs.laws.read_terms_are_well_formed.Goals as goal

pub returns : goal.returns
returns c = λ names objects. terms_are_well_formed names c.args._p.now objects

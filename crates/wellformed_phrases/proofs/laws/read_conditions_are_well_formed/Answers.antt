use Rattle.wellformed_phrases.proofs.Conditions.{conditions_are_well_formed}
use Rattle.wellformed_phrases.proofs.laws.read_conditions_are_well_formed.Goals as goal

pub returns : goal.returns
returns c = λ names objects. conditions_are_well_formed names c.args._p.now objects

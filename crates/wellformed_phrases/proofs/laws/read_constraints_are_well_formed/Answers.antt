use Rattle.wellformed_phrases.proofs.Constraints.{constraints_are_well_formed}
use Rattle.wellformed_phrases.proofs.laws.read_constraints_are_well_formed.Goals as goal

pub returns : goal.returns
returns c = λ names. constraints_are_well_formed names c.args._p.now

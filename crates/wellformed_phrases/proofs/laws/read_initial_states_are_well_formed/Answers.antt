use Rattle.wellformed_phrases.proofs.Facts.{initial_states_are_well_formed}
use Rattle.wellformed_phrases.proofs.laws.read_initial_states_are_well_formed.Goals as goal

pub returns : goal.returns
returns c = λ names. initial_states_are_well_formed names c.args._p.now

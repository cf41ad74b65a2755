use Rattle.wellformed_phrases.proofs.Actions.{actions_are_well_formed}
use Rattle.wellformed_phrases.proofs.laws.read_actions_are_well_formed.Goals as goal

pub returns : goal.returns
returns c = λ names. actions_are_well_formed names c.args._p.now

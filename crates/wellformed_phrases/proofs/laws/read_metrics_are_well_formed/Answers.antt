use Rattle.wellformed_phrases.proofs.Constraints.{metrics_are_well_formed}
use Rattle.wellformed_phrases.proofs.laws.read_metrics_are_well_formed.Goals as goal

pub returns : goal.returns
returns c = λ names. metrics_are_well_formed names c.args._p.now

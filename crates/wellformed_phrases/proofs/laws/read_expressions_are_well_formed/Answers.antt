use Rattle.wellformed_phrases.proofs.Exprs.{expressions_are_well_formed}
use Rattle.wellformed_phrases.proofs.laws.read_expressions_are_well_formed.Goals as goal

pub returns : goal.returns
returns c = λ names objects. expressions_are_well_formed names c.args._p.now objects

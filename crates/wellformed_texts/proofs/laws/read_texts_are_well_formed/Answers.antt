use Rattle.wellformed_texts.proofs.Texts.{texts_are_well_formed}
use Rattle.wellformed_texts.proofs.laws.read_texts_are_well_formed.Goals as goal

pub returns : goal.returns
returns c = λ first second reads. texts_are_well_formed first second c.args._p.now reads

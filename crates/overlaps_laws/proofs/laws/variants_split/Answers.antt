use Rattle.overlaps_laws.proofs.Splitting.{admitted_is, split}
use Rattle.overlaps_laws.proofs.laws.variants_split.Goals as goal

pub returns : goal.returns
returns c = split c.args._p.now c.requires.formed (admitted_is c.args._p.now c.requires.formed c.requires.admitted)

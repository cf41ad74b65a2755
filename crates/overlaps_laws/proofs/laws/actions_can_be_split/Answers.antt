use Rattle.overlaps_laws.proofs.Splitting.{admitted_is}
use Rattle.overlaps_laws.proofs.laws.actions_can_be_split.Goals as goal

pub returns : goal.returns
returns c = (admitted_is c.args._p.now c.requires.formed c.requires.admitted).splittable

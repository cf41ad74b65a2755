use Rattle.conditionals_laws.proofs.Entries.{admitted_is}
use Rattle.conditionals_laws.proofs.Splitting.{split}
use Rattle.conditionals_laws.proofs.laws.variants_split.Goals as goal

pub returns : goal.returns
returns c = split c.args._p.now c.requires.formed (admitted_is c.args._p.now c.requires.admitted).0

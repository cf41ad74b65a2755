use Rattle.up_eval.proofs.Maps.{take-is}
use Rattle.up_eval.proofs.table.Atoms.remove.Goals as goal

pub returns : goal.returns
returns c = rw (← c.self.view_is) (take-is c.self.inside.keys _ c.args.atom.now c.remove.ensures.updates)

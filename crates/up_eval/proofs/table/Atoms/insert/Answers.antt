use Rattle.up_eval.proofs.Maps.{add-is}
use Rattle.up_eval.proofs.table.Atoms.insert.Goals as goal

pub returns : goal.returns
returns c = rw (← c.self.view_is) (add-is c.self.inside.keys _ c.args.atom c.in_ok-insert.ensures.updates)

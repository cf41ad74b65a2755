use Rattle.up_eval.proofs.Maps.{remove-is}
use Rattle.up_eval.proofs.table.Table.remove.Goals as goal

pub returns : goal.returns
returns g c = rw (← c.self.view_is) (remove-is c.self.inside.entries.entries _ c.args.term.now c.remove.ensures.updates.0)

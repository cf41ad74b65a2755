use Rattle.up_eval.proofs.Maps.{insert-is}
use Rattle.up_eval.proofs.table.Table.insert.Goals as goal

pub returns : goal.returns
returns g c = rw (← c.self.view_is) (insert-is c.self.inside.entries.entries _ c.args.term c.args.value c.in_ok-insert.ensures.updates.0)

use Rattle.std.proofs.Common.{◌∙◌, sym}
use Rattle.up_eval.proofs.Maps.{get-is}
use Rattle.up_eval.proofs.table.Table.get.Goals as goal

pub returns : goal.returns
returns g c = rw (← c.self.view_is) (c.get.ensures.value ∙ sym (get-is c.self.inside.entries.entries c.args.term.now))

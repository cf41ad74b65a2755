use Rattle.std.proofs.Common.{◌∙◌, sym}
use Rattle.up_eval.proofs.Maps.{contains-is}
use Rattle.up_eval.proofs.table.Atoms.has.Goals as goal

pub returns : goal.returns
returns c = rw (← c.self.view_is) (c.contains.ensures ∙ sym (contains-is c.self.inside.keys.keys c.args.atom.now))

use Rattle.std.proofs.Common.{◌∙◌, sym}
use Rattle.up_kind.proofs.Totals.{covers_ends}
use Rattle.up_kind.proofs.values.+covering.Goals as goal

pub covers-returns-in-None-clause-covers : goal.covers-returns-in-None-clause-covers
covers-returns-in-None-clause-covers t c =
    let empty = c.in-None.ensures in
    c.contains.ensures ∙ c.requires.each c.args.so_far.now
    ∙ sym (covers_ends c.args.tables.now c.args.so_far.now.name c.args.so_far.now.args.items c.args.types.now empty.cases)

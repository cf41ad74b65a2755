use Rattle.up_kind.proofs.Marking.{adding_more}
use Rattle.up_kind.proofs.tables.add_names.Goals as goal

pub adding-preserved : goal.adding-preserved
adding-preserved c =
    adding_more c.args.marks.now c.args.names c.adding.marks c.add.new.self c.adding.names c.pop.new.self c.in-Some.name c.in-Some.ensures
    c.in_ok-add.ensures.names c.adding.invariant

use Rattle.up_kind.proofs.Marking.{marks_ok}
use Rattle.up_kind.proofs.tables.mark.Goals as goal

pub returns : goal.returns
returns c =
    marks_ok c.args.declared.now c.args.marks.now c.in_ok-path.path c.add_names.new.marks c.args.of.now c.add_names.result c.in_ok-path.ensures c.add_names.ensures

use Rattle.std.proofs.Common.{ap, ◌∙◌}
use Rattle.up_kind.specs.Rows.{filed_by}
use Rattle.up_kind.proofs.Filing.{files_add}
use Rattle.up_kind.proofs.rows.file.Goals as goal

pub returns-in_ok-add_row-in-Add : goal.returns-in_ok-add_row-in-Add
returns-in_ok-add_row-in-Add c =
    files_add c.args.split c.args.table.now c.add_row.new.table c.in_ok-key-in-Add.key c.args.row.now c.in-Add.name c.in-Add.args c.in-Add.is
    c.in_ok-key-in-Add.ensures.name (c.in_ok-key-in-Add.ensures.args ∙ ap (filed_by c.args.split) c.as_slice.ensures) c.in_ok-add_row-in-Add.ensures

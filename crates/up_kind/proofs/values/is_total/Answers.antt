use Rattle.std.proofs.Common.{◌≡◌, false, [], ap, sym, ◌∙◌}
use Rattle.up_kind.specs.Values.{are_inhabited}
use Rattle.up_kind.proofs.Totals.{total_is, covers_empty}
use Rattle.up_kind.proofs.values.is_total.Goals as goal

pub returns-then-not-are_inhabited : goal.returns-then-not-are_inhabited
returns-then-not-are_inhabited c =
    let none : are_inhabited c.args.tables.now c.args.function.now.args ≡ false =
    ap (are_inhabited c.args.tables.now) (sym c.as_slice-types.ensures) ∙ sym c.are_inhabited.ensures ∙ c.if-not-are_inhabited.true in
    sym (total_is c.args.tables.now c.args.function.now
    ∙ covers_empty c.args.tables.now c.args.function.now.name [] c.args.function.now.args none)

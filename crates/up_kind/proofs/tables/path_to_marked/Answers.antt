use Rattle.std.proofs.Common.{length, sym, ◌∙◌}
use Rattle.up_kind.proofs.Marking.{climbed_marked}
use Rattle.up_kind.proofs.tables.path_to_marked.Goals as goal

pub returns-then-has : goal.returns-then-has
returns-then-has c =
    climbed_marked c.args.declared.now c.args.marks.now c.up.path c.args.of.now c.up.here.now (length c.up.steps.now) (sym c.has.ensures ∙ c.if-has.true) c.up.invariant

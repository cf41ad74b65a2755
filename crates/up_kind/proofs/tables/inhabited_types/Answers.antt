use Rattle.std.proofs.Common.{◌≡◌, ◌<◌, ◌≤◌, List, length, get_or, ap, subst, ◌∙◌}
use Rattle.up_tree.specs.declared.term.Typed.{Typed}
use Rattle.up_kind.specs.Tables.{Marks}
use Rattle.up_kind.proofs.Marking.{marks_more, marks_end}
use Rattle.up_kind.proofs.tables.inhabited_types.Goals as goal

pub loop-object-preserved : goal.loop-object-preserved
loop-object-preserved c =
    let all = c.as_slice-object-items.ensures in
    marks_more c.args.parts.now.types c.args.parts.now.objects c.loop-object.object-index c.object-item.result c.loop-object.marks c.mark.new.marks
    (subst (λ (xs : List Typed). c.loop-object.object-index < length xs) all c.loop-object-test.true)
    (c.object-item.is ∙ ap (λ (xs : List Typed). get_or xs c.loop-object.object-index c.object-item.result) all) c.loop-object.invariant
    (subst (λ (xs : List Typed). Marks xs c.loop-object.marks c.mark.new.marks c.object-item.result.of) c.as_slice.ensures c.in_ok-mark.ensures)

pub returns : goal.returns
returns c =
    marks_end c.args.parts.now c.loop-object.marks c.loop-object.object-index
    (subst (λ (xs : List Typed). length xs ≤ c.loop-object.object-index) c.as_slice-object-items.ensures c.loop-object-test.false) c.loop-object.invariant

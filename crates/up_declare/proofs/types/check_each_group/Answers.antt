use Rattle.std.proofs.Common.{◌≡◌, slice_get, sym, ap, ◌∙◌, Some}
use Rattle.up_phrase.specs.Scopes.{type_named}
use Rattle.up_declare.specs.Marks.{Marked}
use Rattle.up_declare.specs.Types.{with_names, name_faults}
use Rattle.up_declare.proofs.Faults.{groups_on, groups_off, handed_if}
use Rattle.up_declare.proofs.types.check_each_group.Goals as goal

pub returns-in_err-check_names-clause-err : goal.returns-in_err-check_names-clause-err
returns-in_err-check_names-clause-err c =
    handed_if c.from_residual-in_err-check_names.result c.in_err-check_names.field-0.0 (Marked c.args.types.now.entries c.args.marks.now.items) _
    c.from_residual-in_err-check_names.ensures.1
    (λ right some.
    let stops : slice_get (name_faults c.args.types.now.entries c.loop-group.seen.entries (type_named c.group-item.result.of) c.group-item.result.names) 0 ≡ Some c.in_err-check_names.field-0.0 =
    ap (λ p. slice_get (name_faults c.args.types.now.entries c.loop-group.seen.entries p c.group-item.result.names) 0) (sym c.in_ok-parent.ensures)
    ∙ ap (λ ns. slice_get (name_faults c.args.types.now.entries c.loop-group.seen.entries c.in_ok-parent.parent ns) 0) (sym c.as_slice.ensures)
    ∙ c.in_err-check_names.ensures.err (c.loop-group.invariant.marked right) some in
    ap (λ fs. slice_get fs 0) (c.loop-group.invariant.so_far right)
    ∙ groups_off c.args.types.now.entries c.loop-group.seen.entries c.args.groups.now c.loop-group.group-index c.group-item.result
    c.in_err-check_names.field-0.0 c.loop-group-test.true c.group-item.is stops)

pub loop-group-preserved : goal.loop-group-preserved
loop-group-preserved c = record {
  so_far = λ right. c.loop-group.invariant.so_far right
      ∙ groups_on c.args.types.now.entries c.loop-group.seen.entries c.check_names.new.seen.entries c.args.groups.now c.loop-group.group-index c.group-item.result
      c.loop-group-test.true c.group-item.is
      (ap (λ p. name_faults c.args.types.now.entries c.loop-group.seen.entries p c.group-item.result.names) (sym c.in_ok-parent.ensures)
      ∙ ap (λ ns. name_faults c.args.types.now.entries c.loop-group.seen.entries c.in_ok-parent.parent ns) (sym c.as_slice.ensures)
      ∙ c.in_ok-check_names.ensures.ok (c.loop-group.invariant.marked right))
      (c.in_ok-check_names.ensures.seen ∙ ap (λ ns. with_names c.in_ok-parent.parent ns c.loop-group.seen.entries) c.as_slice.ensures
      ∙ ap (λ p. with_names p c.group-item.result.names c.loop-group.seen.entries) c.in_ok-parent.ensures);
  marked = λ right. c.check_names.ensures.marked (c.loop-group.invariant.marked right);
}

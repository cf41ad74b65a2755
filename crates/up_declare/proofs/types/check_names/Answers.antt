use Rattle.std.proofs.Common.{◌≡◌, ◌+◌, drop, slice_get, ap, ◌∙◌}
use Rattle.std.proofs.lemmas.List.{drop_more}
use Rattle.up_declare.specs.Types.{with_type, with_names, name_faults}
use Rattle.up_declare.specs.Marks.{Marked}
use Rattle.up_declare.proofs.Faults.{names_on, names_off, grown_on, handed_if}
use Rattle.up_declare.proofs.types.check_names.Goals as goal

pub returns-in_err-check_name-clause-err : goal.returns-in_err-check_name-clause-err
returns-in_err-check_name-clause-err c =
    handed_if c.from_residual.result c.in_err-check_name.field-0.0 (Marked c.args.types.now.entries c.args.marks.now.items) _ c.from_residual.ensures.1
    (λ right some. ap (λ fs. slice_get fs 0) (c.loop-ident.invariant.so_far right)
    ∙ names_off c.args.types.now.entries c.loop-ident.seen.entries c.args.parent.now c.args.idents.now c.loop-ident.ident-index c.ident-item.result
    c.in_err-check_name.field-0.0 c.loop-ident-test.true c.ident-item.is (c.in_err-check_name.ensures.err (c.loop-ident.invariant.marked right) some))

pub loop-ident-preserved : goal.loop-ident-preserved
loop-ident-preserved c = record {
  so_far = λ right. c.loop-ident.invariant.so_far right
      ∙ names_on c.args.types.now.entries c.loop-ident.seen.entries c.add_type.new.types.entries c.args.parent.now c.args.idents.now
      c.loop-ident.ident-index c.ident-item.result c.loop-ident-test.true c.ident-item.is
      (c.in_ok-check_name.ensures.ok (c.loop-ident.invariant.marked right)) c.in_ok-add_type.ensures;
  seen = c.loop-ident.invariant.seen
      ∙ grown_on c.loop-ident.seen.entries c.add_type.new.types.entries c.args.parent.now c.args.idents.now c.loop-ident.ident-index c.ident-item.result
      c.loop-ident-test.true c.ident-item.is c.in_ok-add_type.ensures;
  marked = λ right. c.check_name.ensures.marked (c.loop-ident.invariant.marked right);
}

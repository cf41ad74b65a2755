use Rattle.std.proofs.Common.{◌∙◌, sym}
use Rattle.std.specs.FinMap as table
use Rattle.up_eval.specs.Initial.{put_all}
use Rattle.up_eval.proofs.Initial.{put_all-empty, put_last_entry}
use Rattle.up_eval.proofs.copies.values_copy.Goals as goal

pub entries-init : goal.entries-init
entries-init c = put_all-empty c.args.entries.now.entries ∙ (λ i. put_all (sym c.iter-rest.ensures.rest i) (sym c.new-copy.ensures i))

pub entries-preserved : goal.entries-preserved
entries-preserved c =
    c.entries.invariant
    ∙ put_last_entry c.entries.rest _ (c.in-Some.term.now, c.in-Some.value.now) c.entries.copy _ c.in-Some.ensures.steps
    (c.in_ok-insert.ensures ∙ (λ i. table.insert c.entries.copy (c.in_ok-copy.ensures i) (c.in_ok-value.ensures i)))

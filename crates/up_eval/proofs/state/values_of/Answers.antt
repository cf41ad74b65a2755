use Rattle.std.proofs.Common.{◌∙◌, ◌∷◌, ap, sym}
use Rattle.std.specs.FinMap as table
use Rattle.up_eval.specs.Initial.{put_all, value_entries}
use Rattle.up_eval.proofs.Initial.{put_all-empty, put_value_last}
use Rattle.up_eval.proofs.state.values_of.Goals as goal

pub facts-preserved : goal.facts-preserved
facts-preserved c =
    c.facts.invariant
    ∙ put_value_last c.facts.left.now c.in-Some.before.now c.in-Some.fact.now c.facts.values _ c.in-Some.ensures.cases.0
    (c.in_ok-insert.ensures ∙ (λ i. table.insert c.facts.values ((c.in_ok-term.ensures ∙ ap (λ args. c.in-Some.fact.now.function ∷ args) c.as_slice.ensures) i) (c.in_ok-copy.ensures i)))

pub facts-init : goal.facts-init
facts-init c =
    put_all-empty (value_entries c.args.facts.now)
    ∙ (λ i. put_all (value_entries (sym c.as_slice-left.ensures i)) (sym c.new-values.ensures i))

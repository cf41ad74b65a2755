use Rattle.std.proofs.Common.{◌∙◌, ◌∷◌, ap, sym}
use Rattle.std.specs.FinMap as table
use Rattle.up_eval.specs.Initial.{put_all, number_entries}
use Rattle.up_eval.proofs.Initial.{put_all-empty, put_number_last}
use Rattle.up_eval.proofs.state.numbers_of.Goals as goal

pub facts-preserved : goal.facts-preserved
facts-preserved c =
    c.facts.invariant
    ∙ put_number_last c.facts.left.now c.in-Some.before.now c.in-Some.fact.now c.facts.numbers _ c.in-Some.ensures.cases.0
    (c.in_ok-insert.ensures ∙ ap (λ key. table.insert c.facts.numbers key c.in-Some.fact.now.value) (c.in_ok-term.ensures ∙ ap (λ args. c.in-Some.fact.now.function ∷ args) c.as_slice.ensures))

pub facts-init : goal.facts-init
facts-init c =
    put_all-empty (number_entries c.args.facts.now)
    ∙ (λ i. put_all (number_entries (sym c.as_slice-left.ensures i)) (sym c.new-numbers.ensures i))

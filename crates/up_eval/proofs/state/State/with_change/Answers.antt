use Rattle.std.proofs.Common.{sym, ap, subst, ◌∙◌}
use Rattle.std.specs.FinMap as table
use Rattle.up_tree.specs.State.{number_at}
use Rattle.up_eval.specs.Effects.{number_meant}
use Rattle.up_eval.specs.Gathering.{gathered_after, IsGatheredStop, StopsAt}
use Rattle.up_eval.proofs.Stops.{stopped}
use Rattle.up_eval.proofs.Gathered.{gathers_more, stops_at}
use Rattle.up_eval.proofs.state.State.with_change.Goals as goal

pub returns-in_err-next-clause-stop : goal.returns-in_err-next-clause-stop
returns-in_err-next-clause-stop c =
    let s = c.args.self.now in
    let change = number_meant c.args.change.now in
    stopped c.from_residual.result _ c.from_residual.ensures.1 (StopsAt s c.args.gathered change)
    (stops_at s c.args.gathered change c.in_err-next.field-0.0
    (subst (λ o. IsGatheredStop (gathered_after (number_at s c.args.change.now.target) o change) c.in_err-next.field-0.0) (c.copied-so_far.ensures ∙ c.get.ensures) c.in_err-next.ensures.stop))

pub returns-clause-more : goal.returns-clause-more
returns-clause-more c =
    let s = c.args.self.now in
    let change = number_meant c.args.change.now in
    gathers_more s c.args.gathered change _ c.in_ok-next.next
    (ap (λ o. gathered_after (number_at s c.args.change.now.target) o change) (sym (c.copied-so_far.ensures ∙ c.get.ensures)) ∙ c.in_ok-next.ensures.value)
    (c.in_ok-insert.ensures ∙ ap (λ k. table.insert c.args.gathered k c.in_ok-next.next) c.in_ok-copy.ensures)

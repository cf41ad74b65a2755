use Rattle.std.proofs.Common.{map, ap, ◌∙◌}
use Rattle.up_eval.specs.Firing.{meant_all}
use Rattle.up_eval.specs.Effects.{number_meant}
use Rattle.up_eval.specs.Nexts.{IsNewNumbersStop}
use Rattle.up_eval.proofs.Stops.{stopped}
use Rattle.up_eval.proofs.StateChanges.{first_numbers_stop, second_numbers_stop, no_mixed}
use Rattle.up_eval.proofs.state.State.new_numbers_of.Goals as goal

pub returns-in_err-changes-clause-stop : goal.returns-in_err-changes-clause-stop
returns-in_err-changes-clause-stop c =
    let s = c.args.self.now in
    let fs = meant_all c.args.effects.now in
    stopped c.from_residual.result _ c.from_residual.ensures.1 (IsNewNumbersStop s fs) (first_numbers_stop s fs _ c.in_err-changes.ensures.stop)

pub returns-in_err-news-clause-stop : goal.returns-in_err-news-clause-stop
returns-in_err-news-clause-stop c =
    let s = c.args.self.now in
    let fs = meant_all c.args.effects.now in
    stopped c.from_residual-in_err-news.result _ c.from_residual-in_err-news.ensures.1 (IsNewNumbersStop s fs)
    (second_numbers_stop s fs _ (ap (map number_meant) c.as_slice.ensures ∙ c.in_ok-changes.ensures.value) c.in_ok-changes.ensures.defined _ c.in_err-news.ensures.stop)

pub returns-clause-apart : goal.returns-clause-apart
returns-clause-apart c =
    no_mixed c.args.self.now (meant_all c.args.effects.now) _ (ap (map number_meant) c.as_slice.ensures ∙ c.in_ok-changes.ensures.value) c.in_ok-news.ensures.apart

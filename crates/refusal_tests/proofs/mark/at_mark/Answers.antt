use Rattle.std.proofs.Common.{sym}
use Rattle.std.proofs.lemmas.Option.{none-some}
use Rattle.refusal_tests.proofs.Dividing.{divided, marked, unmarked}
use Rattle.refusal_tests.proofs.mark.at_mark.Goals as goal

pub returns-in_err-index-clause-none : goal.returns-in_err-index-clause-none
returns-in_err-index-clause-none c = (λ _. unmarked c.args.text.now (sym c.in_err-index.ensures), λ _. c.from_residual.ensures)

pub returns-clause-none : goal.returns-clause-none
returns-clause-none c =
    (λ none. absurd (none-some _ (sym none)), λ has. absurd (has (marked c.args.text.now c.in_ok-index.index (sym c.in_ok-index.ensures))))

pub returns-clause-sides : goal.returns-clause-sides
returns-clause-sides c = divided c.args.text.now c.in_ok-index.index (sym c.in_ok-index.ensures)

use Rattle.std.proofs.Common.{◌∙◌, sym}
use Rattle.up_eval.proofs.Initial.{init-parts}
use Rattle.up_eval.proofs.state.state_of.Goals as goal

pub returns : goal.returns
returns c =
    (λ i. record { atoms = c.in_ok-atoms.ensures i; numbers = c.in_ok-numbers.ensures i; values = c.in_ok-values.ensures i })
    ∙ sym (init-parts c.args.parts.now)

use Rattle.std.proofs.Common.{ap, sym, subst, ◌∙◌}
use Rattle.up_tree.specs.Faults.{IsNext}
use Rattle.up_eval.specs.Nexts.{state_with}
use Rattle.up_eval.proofs.state.State.step.Goals as goal

pub returns-clause-next : goal.returns-clause-next
returns-clause-next c =
    subst (IsNext c.args.p.now c.args.self.now c.args.step.now) (sym (c.in_ok-next-2.ensures ∙ ap (λ s. state_with s c.in_ok-changes.changes) c.in_ok-next.ensures)) c.in_ok-changes.ensures.next

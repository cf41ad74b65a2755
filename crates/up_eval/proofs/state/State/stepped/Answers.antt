use Rattle.std.proofs.Common.{sym, subst}
use Rattle.up_tree.specs.Faults.{IsNext}
use Rattle.up_eval.proofs.state.State.stepped.Goals as goal

pub returns-clause-next : goal.returns-clause-next
returns-clause-next c = subst (IsNext c.args.p.now c.args.self c.args.step.now) (sym c.in_ok-next.ensures) c.in_ok-changes.ensures.next

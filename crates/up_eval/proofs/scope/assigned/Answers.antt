use Rattle.std.proofs.Common.{◌∙◌}
use Rattle.up_eval.proofs.Scopes.{assign_next}
use Rattle.up_eval.proofs.scope.assigned.Goals as goal

pub loop-var-preserved : goal.loop-var-preserved
loop-var-preserved c =
    c.loop-var.invariant
    ∙ assign_next c.args.vars.now c.loop-var.var-index c.var-item.result c.loop-var.left.now c.in-Some.behind.now c.in-Some.object.now c.loop-var.inner _ _
    c.loop-var-test.true c.var-item.is c.in-Some.ensures.cases.0 c.in_ok-new.ensures.variable c.in_ok-new.ensures.object c.in_ok-push.ensures.ok

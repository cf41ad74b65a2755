use Rattle.std.proofs.Common.{◌∙◌, ap, sym, option_and_then}
use Rattle.up_tree.specs.State.{object_at}
use Rattle.up_tree.specs.Value.{term_value, ground_at}
use Rattle.up_tree.proofs.Values.{term_value-Fluent}
use Rattle.up_eval.specs.Scope.{assignment_of}
use Rattle.up_eval.proofs.Grounds.{grounds_next}
use Rattle.up_eval.proofs.state.State.+value.Goals as goal

pub ground-loop-arg-preserved : goal.ground-loop-arg-preserved
ground-loop-arg-preserved t c =
    c.loop-arg.invariant
    ∙ grounds_next c.args.self.now (assignment_of c.args.scope.now) c.args.args.now c.loop-arg.arg-index c.arg-item.result _ _ c.in-Some.object
    c.loop-arg-test.true c.arg-item.is (sym c.in_ok-object.ensures ∙ c.in-Some.is) c.in_ok-push-in-Some.ensures.ok

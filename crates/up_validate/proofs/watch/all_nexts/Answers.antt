use Rattle.std.proofs.Common.{◌≡◌, ◌<◌, List, length, get_or, map, ap, ◌∙◌, subst}
use Rattle.up_tree.specs.declared.problem.Constraint.{Constraint}
use Rattle.up_tree.specs.Objects.{world}
use Rattle.up_eval.specs.Scope.{assignment_of}
use Rattle.up_eval.specs.declared.scope.Binding.{Binding}
use Rattle.up_eval.specs.declared.error.TruthError.TheVariants.{TooLarge}
use Rattle.up_validate.specs.declared.phase.Phase.{Phase}
use Rattle.up_validate.specs.Watches.{meant, nexts, BigAmong}
use Rattle.up_validate.proofs.Going.{nexts_more, nexts_big, told}
use Rattle.up_validate.proofs.watch.all_nexts.Goals as goal

pub loop-constraint-preserved : goal.loop-constraint-preserved
loop-constraint-preserved c =
    let are : c.as_slice-constraint-items.result.now ≡ c.args.p.now.constraints = c.as_slice-constraint-items.ensures ∙ ap (λ parts. parts.constraints) c.parts.ensures in
    nexts_more (world c.args.p.now) c.args.state.now c.args.p.now.constraints c.loop-constraint.constraint-index c.constraint-item.result
    c.args.watches.now c.loop-constraint.left.now c.in-Some.behind.now c.in-Some.watch.now c.args.phases.now c.loop-constraint.olds.now
    c.in-Some-split_first.others.now c.loop-constraint.later c.in-Some-split_first.old.now
    (subst (λ (cs : List Constraint). c.loop-constraint.constraint-index < length cs) are c.loop-constraint-test.true)
    (subst (λ (cs : List Constraint). c.constraint-item.result ≡ get_or cs c.loop-constraint.constraint-index c.constraint-item.result) are c.constraint-item.is)
    c.in-Some.ensures.cases.0 c.loop-constraint.invariant c.in_ok-nexts.field-0 c.push.new.self c.in-Some-split_first.ensures.cases.0
    (c.in_ok-nexts.ensures.value
    ∙ ap (λ (scopes : List (List Binding)). nexts (world c.args.p.now) c.args.state.now c.constraint-item.result.rule (map assignment_of scopes) c.as_slice-in-loop-constraint.result.now) c.as_slice.ensures
    ∙ ap (λ (phs : List Phase). nexts (world c.args.p.now) c.args.state.now c.constraint-item.result.rule (meant c.in-Some.watch.now) phs) c.as_slice-in-loop-constraint.ensures)
    c.in_ok-push.ensures.ok

pub returns-in_err-nexts-clause-too_large : goal.returns-in_err-nexts-clause-too_large
returns-in_err-nexts-clause-too_large c = λ is.
    let are : c.as_slice-constraint-items.result.now ≡ c.args.p.now.constraints = c.as_slice-constraint-items.ensures ∙ ap (λ parts. parts.constraints) c.parts.ensures in
    nexts_big (world c.args.p.now) c.args.state.now c.args.p.now.constraints c.loop-constraint.constraint-index c.constraint-item.result
    c.args.watches.now c.loop-constraint.left.now c.in-Some.behind.now c.in-Some.watch.now c.args.phases.now c.loop-constraint.olds.now
    c.in-Some-split_first.others.now c.loop-constraint.later c.in-Some-split_first.old.now
    (subst (λ (cs : List Constraint). c.loop-constraint.constraint-index < length cs) are c.loop-constraint-test.true)
    (subst (λ (cs : List Constraint). c.constraint-item.result ≡ get_or cs c.loop-constraint.constraint-index c.constraint-item.result) are c.constraint-item.is)
    c.in-Some.ensures.cases.0 c.loop-constraint.invariant
    (subst (λ (scopes : List (List Binding)). BigAmong (world c.args.p.now) c.args.state.now c.constraint-item.result.rule (map assignment_of scopes)) c.as_slice.ensures
    (c.in_err-nexts.ensures.too_large (told c.from_residual.result c.in_err-nexts.field-0.0 TooLarge c.from_residual.ensures.1 is)))

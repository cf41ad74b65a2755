use Rattle.std.proofs.Common.{◌≡◌, drop, map}
use Rattle.up_tree.specs.Objects.{world}
use Rattle.up_tree.specs.Judged.{truth_of, all_of, any_of, both, either}
use Rattle.up_eval.specs.Scope.{assignment_of}
use Rattle.up_eval.specs.Conditions.{truths_at}
use Rattle.up_eval.proofs.state.State.+truth.Given as goal

abbrev pub invariant-all-loop-member : goal.invariant-all-loop-member
invariant-all-loop-member l =
    let truths = map (truth_of (world l.problem) l.self (assignment_of l.scope)) in
    all_of (truths l.members) ≡ both l.truth (all_of (truths (drop l.member-index l.members)))

abbrev pub invariant-any-loop-member : goal.invariant-any-loop-member
invariant-any-loop-member l =
    let truths = map (truth_of (world l.problem) l.self (assignment_of l.scope)) in
    any_of (truths l.members) ≡ either l.truth (any_of (truths (drop l.member-index l.members)))

abbrev pub invariant-all_at-loop-tuple : goal.invariant-all_at-loop-tuple
invariant-all_at-loop-tuple l =
    let truths = truths_at (world l.problem) l.self (assignment_of l.scope) l.vars l.formula in
    all_of (truths l.them) ≡ both l.truth (all_of (truths (drop l.tuple-index l.them)))

abbrev pub invariant-any_at-loop-tuple : goal.invariant-any_at-loop-tuple
invariant-any_at-loop-tuple l =
    let truths = truths_at (world l.problem) l.self (assignment_of l.scope) l.vars l.formula in
    any_of (truths l.them) ≡ either l.truth (any_of (truths (drop l.tuple-index l.them)))

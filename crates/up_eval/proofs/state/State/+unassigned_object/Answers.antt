use Rattle.std.proofs.Common.{◌∙◌, ap, sym, true≢false}
use Rattle.up_tree.specs.Objects.{unassigned}
use Rattle.up_tree.specs.Value.{term_value, ground_at}
use Rattle.up_tree.proofs.Values.{term_value-Fluent}
use Rattle.up_eval.proofs.Compared.{found, found-is, found_here, found_behind}
use Rattle.up_eval.proofs.state.State.+unassigned_object.Goals as goal

pub unassigned_object-loop-key-init : goal.unassigned_object-loop-key-init
unassigned_object-loop-key-init t c =
    let s = c.args.self.now in
    let key = ground_at s unassigned c.in-Fluent.name c.in-Fluent.args in
    ap (term_value s unassigned) c.in-Fluent.is ∙ term_value-Fluent s unassigned c.in-Fluent.name c.in-Fluent.args
    ∙ found-is s.values c.values-key-items.result.now.entries key c.values-key-items.ensures
    ∙ ap (λ es. found es key) (sym c.into_iter-key-iterator.ensures.into_iter_gives.0)

pub unassigned_object-returns-then-is_key_of : goal.unassigned_object-returns-then-is_key_of
unassigned_object-returns-then-is_key_of t c =
    sym
    (c.loop-key.invariant
    ∙ found_here c.loop-key.key-iterator _ c.in-Some.key.now c.in-Some.object.now _ c.in-Some.ensures.steps
    (ap (ground_at c.args.self.now unassigned c.in-Fluent.name) (sym c.as_slice.ensures) ∙ c.is_key_of.ensures.0 c.if-is_key_of.true))

pub unassigned_object-loop-key-preserved : goal.unassigned_object-loop-key-preserved
unassigned_object-loop-key-preserved t c =
    c.loop-key.invariant
    ∙ found_behind c.loop-key.key-iterator _ c.in-Some.key.now c.in-Some.object.now _ c.in-Some.ensures.steps
    (λ is. true≢false (sym (c.is_key_of.ensures.1 (ap (ground_at c.args.self.now unassigned c.in-Fluent.name) c.as_slice.ensures ∙ is)) ∙ c.if-is_key_of.false))

use Rattle.std.proofs.Common.{◌∙◌, ap, sym, true≢false}
use Rattle.up_tree.specs.Objects.{unassigned}
use Rattle.up_tree.specs.Value.{ground_at}
use Rattle.up_eval.proofs.Compared.{found, found-is, found_here, found_behind}
use Rattle.up_eval.proofs.state.State.unassigned_fluent.Goals as goal

pub loop-key-init : goal.loop-key-init
loop-key-init c =
    let s = c.args.self.now in
    let key = ground_at s unassigned c.args.name.now c.args.args.now in
    found-is s.numbers c.numbers-key-items.result.now.entries key c.numbers-key-items.ensures
    ∙ ap (λ es. found es key) (sym c.into_iter-key-iterator.ensures.into_iter_gives.0)

pub returns-then-is_key_of : goal.returns-then-is_key_of
returns-then-is_key_of c =
    sym
    (c.loop-key.invariant
    ∙ found_here c.loop-key.key-iterator _ c.in-Some.key.now c.in-Some.number.now _ c.in-Some.ensures.steps (c.is_key_of.ensures.0 c.if-is_key_of.true))

pub loop-key-preserved : goal.loop-key-preserved
loop-key-preserved c =
    c.loop-key.invariant
    ∙ found_behind c.loop-key.key-iterator _ c.in-Some.key.now c.in-Some.number.now _ c.in-Some.ensures.steps
    (λ is. true≢false (sym (c.is_key_of.ensures.1 is) ∙ c.if-is_key_of.false))

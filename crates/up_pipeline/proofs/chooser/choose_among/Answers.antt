use Rattle.std.proofs.Common.{◌≡◌, ◌<◌, ◌≤◌, ◌-◌, ◌+◌, ◌^◌, true, false, length, ap, ◌∙◌, sym, subst, arith, rules}
use Rattle.up_kind.specs.Features.{has}
use Rattle.up_pipeline.specs.declared.search.Node.{Node}
use Rattle.up_pipeline.specs.Chains.{accepts}
use Rattle.up_pipeline.specs.Search.{Stands}
use Rattle.up_pipeline.proofs.Searching.{same_node, search_start, search_finds, search_ends, search_small}
use Rattle.up_pipeline.proofs.chooser.choose_among.Goals as goal

pub searching-init : goal.searching-init
searching-init c =
    let small : c.args.kind.0 < 2 ^ 32 = search rules in
    rw c.in_ok-nodes.ensures (search_start c.args.ids.now (has c.args.engine.now.features.0) c.args.kind small)

pub returns-then-accepts-clause-found : goal.returns-then-accepts-clause-found
returns-then-accepts-clause-found c =
    rw (c.in_ok-stages.ensures, c.as_slice-then-accepts.ensures)
    (search_finds c.args.ids.now (has c.args.engine.now.features.0) (has c.args.kind.0) c.searching.nodes c.searching.at c.node_at-node.result.now c.searching.invariant
    (rw c.as_slice.ensures at c.node_at-node.ensures) (sym c.accepts.ensures ∙ c.if-accepts.true))

pub expand-requires-clause-refused : goal.expand-requires-clause-refused
expand-requires-clause-refused c = λ n st.
    let here : Stands c.searching.nodes c.searching.at c.node_at-node.result.now = rw c.as_slice.ensures at c.node_at-node.ensures in
    subst (λ (m : Node). accepts (has c.args.engine.now.features.0) (has m.kind.0) ≡ false)
    (same_node c.searching.nodes c.searching.at c.node_at-node.result.now n here st) (sym c.accepts.ensures ∙ c.if-accepts.false)

pub searching-smaller : goal.searching-smaller
searching-smaller c =
    let few = search_small c.args.ids.now (has c.args.engine.now.features.0) (has c.args.kind.0) c.searching.nodes c.searching.invariant.nodes_are in
    omega (arith, few, c.searching-test.true, c.len.ensures)

pub returns-clause-none : goal.returns-clause-none
returns-clause-none c = λ is. search_ends c.args.ids.now (has c.args.engine.now.features.0) (has c.args.kind.0) c.searching.nodes c.searching.at c.searching.invariant (omega (arith, c.len.ensures, c.searching-test.false))

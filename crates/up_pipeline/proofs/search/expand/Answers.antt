use Rattle.std.proofs.Common.{◌≡◌}
use Rattle.up_pipeline.proofs.Searching.{search_begins, search_next, search_done}
use Rattle.up_pipeline.proofs.search.expand.Goals as goal

pub loop-id-init : goal.loop-id-init
loop-id-init c =
    rw c.in_ok-from.ensures (search_begins _ _ _ _ _ _ c.requires.searching c.requires.order (rw c.as_slice.ensures at c.node_at.ensures)
    (c.requires.refused _ (rw c.as_slice.ensures at c.node_at.ensures)))

pub loop-id-preserved : goal.loop-id-preserved
loop-id-preserved c = search_next _ _ _ _ _ _ _ _ _ c.loop-id-test.true c.loop-id.invariant c.in_ok-try_stage.ensures

pub returns : goal.returns
returns c = search_done _ _ _ _ _ _ _ c.loop-id-test.false c.loop-id.invariant

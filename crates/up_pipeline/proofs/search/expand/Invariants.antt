use Rattle.std.proofs.Common.{drop}
use Rattle.up_kind.specs.Features.{has}
use Rattle.up_pipeline.specs.Search.{IsExpanding}
use Rattle.up_pipeline.proofs.search.expand.Given as goal

abbrev pub invariant-loop-id : goal.invariant-loop-id
invariant-loop-id l =
    IsExpanding l.ids (has l._engine.features.0) (has l.fn._kind.0) l.nodes l.at l.from (drop l.id-index l.ids)

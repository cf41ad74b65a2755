use Rattle.std.proofs.Common.{ap}
use Rattle.up_store.specs.Planned.{text_of}
use Rattle.up_store.proofs.Cut.{cut_as_planned}
use Rattle.up_store.proofs.memory_store.MemoryStoreStore.write_pieces.Goals as goal

pub returns-in-Ok-clause-cut : goal.returns-in-Ok-clause-cut
returns-in-Ok-clause-cut g c = λ _.
    cut_as_planned c.in-Some.plan _ _ _ _ _ (ap (λ t. text_of t.items) c.plan_call.ensures.texts) c.in-Ok.ensures.ok

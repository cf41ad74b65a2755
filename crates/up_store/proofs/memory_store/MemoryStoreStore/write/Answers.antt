use Rattle.std.proofs.Common.{refl, ap}
use Rattle.up_store.specs.Planned.{text_of}
use Rattle.up_store.proofs.Cut.{cut_moved, cut_at_moved}
use Rattle.up_store.proofs.memory_store.MemoryStoreStore.write.Goals as goal

pub returns-clause-cut_at : goal.returns-clause-cut_at
returns-clause-cut_at c =
    cut_at_moved _ _ _ _ _ _ _ _ _ c.plan_call-plan.ensures.plan (ap (λ t. text_of t.items) c.plan_call-plan.ensures.texts) refl c.write_planned.ensures.cut_at

pub returns-clause-cut : goal.returns-clause-cut
returns-clause-cut c = λ failed.
    cut_moved _ _ _ _ _ _ (ap (λ t. text_of t.items) c.plan_call-plan.ensures.texts) refl (c.write_planned.ensures.cut failed)

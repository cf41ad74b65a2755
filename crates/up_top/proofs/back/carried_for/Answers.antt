use Rattle.up_top.proofs.Carrying.{carries_plan, made_stop, valid_stop}
use Rattle.up_top.proofs.back.carried_for.Goals as goal

pub returns-in-Ok-carried_by-clause-carried : goal.returns-in-Ok-carried_by-clause-carried
returns-in-Ok-carried_by-clause-carried c =
    carries_plan _ _ _ _ _ _ _ _ c.requires.reads
    (rw c.deref.ensures.value at (rw c.deref-2.ensures.value at c.in-Ok.ensures.made)) c.in-Ok-carried_by.ensures.written

pub returns-in-Err-clause-stops : goal.returns-in-Err-clause-stops
returns-in-Err-clause-stops c =
    made_stop _ _ _ _ _ _ c.requires.reads (rw c.deref.ensures.value at (rw c.deref-2.ensures.value at c.in-Err.ensures.stops))

pub returns-clause-stops : goal.returns-clause-stops
returns-clause-stops c =
    valid_stop _ _ _ _ _ _ _ c.requires.reads (rw c.deref.ensures.value at (rw c.deref-2.ensures.value at c.in-Ok.ensures.made))
    c.in-Err-carried_by.ensures.stops

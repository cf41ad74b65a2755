use Rattle.up_top.proofs.Carrying.{back_done_tells, back_stop_tells, back_write_placed, back_wrote}
use Rattle.up_top.proofs.back.write_carried.Goals as goal

pub returns-in-Ok-clause-held : goal.returns-in-Ok-clause-held
returns-in-Ok-clause-held g c =
    back_wrote _ _ _ _ _ _ _ _ _ _ c.requires.of c.requires.texts c.requires.carried (rw c.deref.ensures.value at c.in-Ok.ensures.held)

pub returns-in-Ok-clause-tells : goal.returns-in-Ok-clause-tells
returns-in-Ok-clause-tells g c = back_done_tells _ _ _ _ _ _ _ _ c.requires.texts c.requires.carried

pub returns-in-Err-clause-place : goal.returns-in-Err-clause-place
returns-in-Err-clause-place g c = back_write_placed _ _ c.in-Err.ensures.place c.requires.of

pub returns-in-Err-clause-held : goal.returns-in-Err-clause-held
returns-in-Err-clause-held g c =
    back_wrote _ _ _ _ _ _ _ _ _ _ c.requires.of c.requires.texts c.requires.carried (rw c.deref.ensures.value at c.in-Err.ensures.held)

pub returns-in-Err-clause-tells : goal.returns-in-Err-clause-tells
returns-in-Err-clause-tells g c = back_stop_tells _ _ _ _ _ _ _ _ _ c.requires.inputs c.requires.carried c.in-Err.ensures.stop

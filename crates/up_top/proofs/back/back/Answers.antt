use Rattle.up_top.proofs.Ends.{leaves_from}
use Rattle.up_top.proofs.Carrying.{back_placed, carries_from}
use Rattle.up_top.proofs.Inputs.{compiles_from}
use Rattle.up_top.proofs.back.back.Goals as goal

pub returns-in-Ok-carried_of-clause-held : goal.returns-in-Ok-carried_of-clause-held
returns-in-Ok-carried_of-clause-held g c = leaves_from _ _ _ _ _ c.read_back_inputs.ensures.kept c.write_carried.ensures.held

pub returns-in-Ok-carried_of-clause-compiles : goal.returns-in-Ok-carried_of-clause-compiles
returns-in-Ok-carried_of-clause-compiles g c = compiles_from _ _ _ _ _ c.read_back_inputs.ensures.kept c.write_carried.ensures.compiles

pub returns-in-Ok-carried_of-clause-carries : goal.returns-in-Ok-carried_of-clause-carries
returns-in-Ok-carried_of-clause-carries g c = carries_from _ _ _ _ _ c.read_back_inputs.ensures.kept c.write_carried.ensures.carries

pub returns-clause-place : goal.returns-clause-place
returns-clause-place g c = back_placed _ _ _ _ _ _ c.in-Err-carried_of.ensures.stops c.requires.of

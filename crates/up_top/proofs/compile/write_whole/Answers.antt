use Rattle.up_top.proofs.Inputs.{actions_tell, write_tells}
use Rattle.up_top.proofs.Outputs.{wrote, compiles}
use Rattle.up_top.proofs.compile.write_whole.Goals as goal

pub returns-in-Ok-write_outputs-clause-held : goal.returns-in-Ok-write_outputs-clause-held
returns-in-Ok-write_outputs-clause-held g c =
    wrote _ _ _ _ c.args.whole.now.problem c.args.whole.now.map _ _ _ c.requires.outputs _ _ _
    c.requires.texts c.requires.reads c.requires.whole c.in-Ok-map_pieces.ensures.spells
    c.in-Ok.ensures c.in-Ok-problem_pieces.ensures c.in-Ok-map_pieces.ensures.text c.in-Ok-write_outputs.ensures.held

pub returns-in-Ok-write_outputs-clause-compiles : goal.returns-in-Ok-write_outputs-clause-compiles
returns-in-Ok-write_outputs-clause-compiles g c =
    rw c.len.ensures
    (rw c.parts.ensures
    (compiles _ _ _ c.args.whole.now.problem c.args.whole.now.map _ _ _ _ _ _
    c.requires.texts c.requires.reads c.requires.whole c.in-Ok-map_pieces.ensures.spells
    c.in-Ok.ensures c.in-Ok-problem_pieces.ensures c.in-Ok-map_pieces.ensures.text c.in-Ok-write_outputs.ensures.held))

pub returns-clause-held : goal.returns-clause-held
returns-clause-held g c =
    wrote _ _ _ _ c.args.whole.now.problem c.args.whole.now.map _ _ _ c.requires.outputs _ _ _
    c.requires.texts c.requires.reads c.requires.whole c.in-Ok-map_pieces.ensures.spells
    c.in-Ok.ensures c.in-Ok-problem_pieces.ensures c.in-Ok-map_pieces.ensures.text c.in-Err.ensures.held

pub returns-in-Ok-write_outputs-clause-tells : goal.returns-in-Ok-write_outputs-clause-tells
returns-in-Ok-write_outputs-clause-tells g c =
    rw c.len.ensures (rw c.parts.ensures (actions_tell _ _ _ _ _ c.args.whole.now.problem c.requires.texts c.requires.reads))

pub returns-clause-tells : goal.returns-clause-tells
returns-clause-tells g c =
    write_tells _ _ _ _ _ _ c.args.whole.now.problem c.requires.texts c.requires.reads c.in-Err.ensures.stop

use Rattle.up_top.proofs.Judged.{judged_first, judged_placed}
use Rattle.up_top.proofs.judge.validate.Goals as goal

pub returns-clause-first : goal.returns-clause-first
returns-clause-first g c = judged_first _ 4 _ _ c.judged_inputs.ensures.of c.requires.inputs c.in-Ok.ensures.readable

pub returns-clause-place : goal.returns-clause-place
returns-clause-place g c = judged_placed _ _ c.judged_inputs.ensures.of c.requires.of

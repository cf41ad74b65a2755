use Rattle.up_top.proofs.Answered.{answered}
use Rattle.up_top.proofs.Ends.{leaves_ended}
use Rattle.up_top.proofs.top.attempt.Goals as goal

pub returns-clause-held : goal.returns-clause-held
returns-clause-held g c = rw c.end.ensures (rw c.status.ensures (leaves_ended _ _ _ _ _ c.work-answer.ensures.held))

pub returns-clause-text : goal.returns-clause-text
returns-clause-text g c =
    rw c.end.ensures
    (rw c.status.ensures
    (answered _ _ _ _ _ _ _ _ c.work-answer.ensures.of c.work-answer.ensures.tells c.work-answer.ensures.put
    c.put_answer-put.ensures.whole c.put_answer-put.ensures.prefix c.put_answer-put.ensures.failed))

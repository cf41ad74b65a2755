use Rattle.up_line.proofs.Sheets.{then_put}
use Rattle.pddl_write.proofs.declare.put_requirements.Goals as goal

pub returns : goal.returns
returns c =
    let a = then_put _ _ _ _ _ (then_put _ _ _ _ _ (then_put _ _ _ _ _ c.put.ensures c.put_either.ensures) c.put_word.ensures) c.put_word-2.ensures in
    let b = then_put _ _ _ _ _ (then_put _ _ _ _ _ (then_put _ _ _ _ _ (then_put _ _ _ _ _ a c.put_word-3.ensures) c.put_word-4.ensures) c.put_word-5.ensures) c.put_either-2.ensures in
    then_put _ _ _ _ _ (then_put _ _ _ _ _ (then_put _ _ _ _ _ (then_put _ _ _ _ _ b c.put_word-6.ensures) c.put_word-7.ensures) c.put_word-8.ensures) c.put-2.ensures

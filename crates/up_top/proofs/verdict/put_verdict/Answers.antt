use Rattle.up_top.proofs.verdict.put_verdict.Goals as goal

pub returns-in-BadStep-clause-whole : goal.returns-in-BadStep-clause-whole
returns-in-BadStep-clause-whole g c = rw c.in-BadStep.is (rw c.fault_word.ensures at c.put_numbered.ensures.whole)

pub returns-in-GoalOpen-clause-whole : goal.returns-in-GoalOpen-clause-whole
returns-in-GoalOpen-clause-whole g c = rw c.in-GoalOpen.is c.put.ensures.whole

pub returns-in-Broken-clause-whole : goal.returns-in-Broken-clause-whole
returns-in-Broken-clause-whole g c = rw c.in-Broken.is c.put_count.ensures.whole

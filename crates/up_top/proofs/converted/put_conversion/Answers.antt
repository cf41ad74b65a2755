use Rattle.up_top.proofs.converted.put_conversion.Goals as goal

pub returns-in-BadLine-clause-prefix : goal.returns-in-BadLine-clause-prefix
returns-in-BadLine-clause-prefix g c = rw c.in-BadLine.is c.put_numbered.ensures.prefix

pub returns-in-SecondLine-clause-whole : goal.returns-in-SecondLine-clause-whole
returns-in-SecondLine-clause-whole g c = rw c.in-SecondLine.is c.put_numbered-in-SecondLine.ensures.whole

pub returns-in-SecondLine-clause-prefix : goal.returns-in-SecondLine-clause-prefix
returns-in-SecondLine-clause-prefix g c = rw c.in-SecondLine.is c.put_numbered-in-SecondLine.ensures.prefix

pub returns-in-Unspelled-clause-whole : goal.returns-in-Unspelled-clause-whole
returns-in-Unspelled-clause-whole g c = rw c.in-Unspelled.is c.put_unspelled.ensures.whole

pub returns-in-Unfit-clause-whole : goal.returns-in-Unfit-clause-whole
returns-in-Unfit-clause-whole g c = rw c.in-Unfit.is c.put_count.ensures.whole

pub returns-in-TooLarge-clause-whole : goal.returns-in-TooLarge-clause-whole
returns-in-TooLarge-clause-whole g c = rw c.in-TooLarge.is c.put_too_large.ensures.whole

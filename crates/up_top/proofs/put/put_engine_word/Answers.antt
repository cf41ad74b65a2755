use Rattle.up_top.proofs.put.put_engine_word.Goals as goal

pub returns-clause-whole : goal.returns-clause-whole
returns-clause-whole g c = rw c.as_slice.ensures at c.put_front_named.ensures.whole

pub returns-clause-prefix : goal.returns-clause-prefix
returns-clause-prefix g c = rw c.as_slice.ensures at c.put_front_named.ensures.prefix

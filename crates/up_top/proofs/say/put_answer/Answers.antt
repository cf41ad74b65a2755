use Rattle.up_top.proofs.say.put_answer.Goals as goal

pub returns-in-Chain-clause-whole : goal.returns-in-Chain-clause-whole
returns-in-Chain-clause-whole g c = rw c.in-Chain.is (rw c.as_slice.ensures at c.put_chain.ensures.whole)

pub returns-in-Actions-clause-whole : goal.returns-in-Actions-clause-whole
returns-in-Actions-clause-whole g c = rw c.in-Actions.is c.put_actions.ensures.whole

use Rattle.pddl_write.specs.Phrases.{term_text}
use Rattle.up_line.proofs.Spaced.{spaced-more}
use Rattle.pddl_write.proofs.term.+terms.Goals as goal

pub put_terms-loop-term-preserved : goal.put_terms-loop-term-preserved
put_terms-loop-term-preserved t c =
    let more = spaced-more (term_text) c.args.terms.now c.loop-term.term-index c.term-item.result c.args.line.now c.loop-term-test.true c.term-item.is in
    cc

use Rattle.std.proofs.Common.{◌≡◌, take}
use Rattle.up_line.specs.Sheet.{after}
use Rattle.up_line.specs.Spaced.{spaced}
use Rattle.pddl_write.specs.Phrases.{term_text}
use Rattle.pddl_write.proofs.term.+terms.Given as goal

abbrev pub invariant-put_terms-loop-term : goal.invariant-put_terms-loop-term
invariant-put_terms-loop-term l = l.line ≡ after l.initial.line (spaced term_text (take l.term-index l.terms))

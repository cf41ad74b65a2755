use Rattle.std.proofs.Common.{◌≡◌, length}
use Rattle.pddl_parse.specs.Brackets.{has_section}
use Rattle.pddl_parse.proofs.bracket.has_section.Given as goal

abbrev pub invariant-seeking : goal.invariant-seeking
invariant-seeking l = has_section l.word l.items ≡ has_section l.word l.rest

abbrev pub decreases-seeking : goal.decreases-seeking
decreases-seeking l = length l.rest

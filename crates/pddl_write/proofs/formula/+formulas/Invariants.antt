use Rattle.std.proofs.Common.{◌≡◌, take}
use Rattle.up_line.specs.Sheet.{after}
use Rattle.up_line.specs.Spaced.{spaced}
use Rattle.pddl_write.specs.Phrases.{formula_text}
use Rattle.pddl_write.proofs.formula.+formulas.Given as goal

abbrev pub invariant-put_members-loop-member : goal.invariant-put_members-loop-member
invariant-put_members-loop-member l = l.line ≡ after l.initial.line (spaced (formula_text l.typed) (take l.member-index l.members))

use Rattle.std.proofs.Common.{◌≡◌, take}
use Rattle.up_line.specs.Sheet.{after}
use Rattle.up_line.specs.Spaced.{spaced}
use Rattle.pddl_write.specs.Effects.{constraint_text}
use Rattle.pddl_write.proofs.effect.put_more_constraints.Given as goal

abbrev pub invariant-loop-constraint : goal.invariant-loop-constraint
invariant-loop-constraint l = l.line ≡ after l.initial.line (spaced (constraint_text l.typed) (take l.constraint-index l.constraints))

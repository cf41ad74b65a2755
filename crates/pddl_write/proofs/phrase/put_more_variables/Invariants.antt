use Rattle.std.proofs.Common.{◌≡◌, take}
use Rattle.up_line.specs.Sheet.{after}
use Rattle.up_line.specs.Spaced.{spaced}
use Rattle.pddl_write.specs.Phrases.{variable_text}
use Rattle.pddl_write.proofs.phrase.put_more_variables.Given as goal

abbrev pub invariant-loop-variable : goal.invariant-loop-variable
invariant-loop-variable l = l.line ≡ after l.initial.line (spaced (variable_text l.typed) (take l.variable-index l.variables))

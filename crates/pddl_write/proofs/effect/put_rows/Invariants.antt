use Rattle.std.proofs.Common.{◌≡◌, take}
use Rattle.up_line.specs.Sheet.{after}
use Rattle.up_line.specs.Spaced.{spaced}
use Rattle.pddl_write.specs.Effects.{effect_row_text}
use Rattle.pddl_write.proofs.effect.put_rows.Given as goal

abbrev pub invariant-loop-row : goal.invariant-loop-row
invariant-loop-row l = l.line ≡ after l.initial.line (spaced (effect_row_text l.typed) (take l.row-index l.rows))

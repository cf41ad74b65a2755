use Rattle.std.proofs.Common.{◌≡◌, take}
use Rattle.up_line.specs.Sheet.{after}
use Rattle.pddl_write.specs.Files.{declared_text}
use Rattle.pddl_write.proofs.declare.put_declared.Given as goal

abbrev pub invariant-loop-at : goal.invariant-loop-at
invariant-loop-at l = l.line ≡ after l.initial.line (declared_text l.typed 1 (take l.at l.types))

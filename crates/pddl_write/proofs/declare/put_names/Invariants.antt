use Rattle.std.proofs.Common.{◌≡◌, take}
use Rattle.up_line.specs.Sheet.{after}
use Rattle.up_line.specs.Spaced.{spaced}
use Rattle.pddl_write.specs.Files.{name_text}
use Rattle.pddl_write.proofs.declare.put_names.Given as goal

abbrev pub invariant-loop-name : goal.invariant-loop-name
invariant-loop-name l = l.line ≡ after l.initial.line (spaced (name_text) (take l.name-index l.names))

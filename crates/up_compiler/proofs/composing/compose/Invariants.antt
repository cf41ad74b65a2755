use Rattle.std.proofs.Common.{◌≡◌, map, take}
use Rattle.up_compiler.specs.Compose.{composed_entry}
use Rattle.up_compiler.proofs.composing.compose.Given as goal

abbrev pub invariant-loop-entry : goal.invariant-loop-entry
invariant-loop-entry l = l.entries ≡ map (composed_entry l.earlier) (take l.entry-index l.later)

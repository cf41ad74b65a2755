use Rattle.std.proofs.Common.{◌≡◌, drop}
use Rattle.up_tree.specs.Objects.{type_in}
use Rattle.up_kind.proofs.types.type_in.Given as goal

abbrev pub invariant-loop-entry : goal.invariant-loop-entry
invariant-loop-entry l = type_in l.entries l.name ≡ type_in (drop l.entry-index l.entries) l.name

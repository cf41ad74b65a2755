use Rattle.std.proofs.Common.{◌≡◌, drop}
use Rattle.up_declare.specs.Types.{with_parents}
use Rattle.up_declare.proofs.types.list_parents.Given as goal

-- the parents are listed from the group that the traversal has come to
abbrev pub invariant-loop-group : goal.invariant-loop-group
invariant-loop-group l = with_parents l.groups l.fn.types.entries ≡ with_parents (drop l.group-index l.groups) l.types.entries

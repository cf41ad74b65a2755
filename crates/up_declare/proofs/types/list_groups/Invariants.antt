use Rattle.std.proofs.Common.{◌≡◌, drop}
use Rattle.up_declare.specs.Types.{with_groups}
use Rattle.up_declare.proofs.types.list_groups.Given as goal

-- the list is listed from the group that the traversal has come to
abbrev pub invariant-loop-group : goal.invariant-loop-group
invariant-loop-group l = with_groups l.groups l.fn.types.entries ≡ with_groups (drop l.group-index l.groups) l.types.entries

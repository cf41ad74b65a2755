use Rattle.std.proofs.Common.{◌≡◌, drop}
use Rattle.up_declare.specs.Types.{type_faults}
use Rattle.up_declare.specs.Marks.{Marked}
use Rattle.up_declare.proofs.types.check_each_group.Given as goal

-- the faults are those from the group that the traversal has come to
abbrev pub invariant-loop-group : goal.invariant-loop-group
invariant-loop-group l = record {
  so_far :
      Marked l.types.entries l.fn.marks.items
      → type_faults l.types.entries l.fn.seen.entries l.groups ≡ type_faults l.types.entries l.seen.entries (drop l.group-index l.groups);
  marked : Marked l.types.entries l.fn.marks.items → Marked l.types.entries l.marks.items;
}

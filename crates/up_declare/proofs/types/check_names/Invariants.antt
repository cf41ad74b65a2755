use Rattle.std.proofs.Common.{◌≡◌, drop}
use Rattle.up_declare.specs.Types.{with_names, name_faults}
use Rattle.up_declare.specs.Marks.{Marked}
use Rattle.up_declare.proofs.types.check_names.Given as goal

-- the faults of the group are those from the name that the traversal has come to
abbrev pub invariant-loop-ident : goal.invariant-loop-ident
invariant-loop-ident l = record {
  so_far :
      Marked l.types.entries l.fn.marks.items
      → name_faults l.types.entries l.fn.seen.entries l.parent l.idents
      ≡ name_faults l.types.entries l.seen.entries l.parent (drop l.ident-index l.idents);
  seen : with_names l.parent l.idents l.fn.seen.entries ≡ with_names l.parent (drop l.ident-index l.idents) l.seen.entries;
  marked : Marked l.types.entries l.fn.marks.items → Marked l.types.entries l.marks.items;
}

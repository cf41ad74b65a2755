use Rattle.std.proofs.Common.{◌≡◌, drop}
use Rattle.up_declare.specs.Types.{with_names}
use Rattle.up_declare.proofs.types.list_names.Given as goal

-- the group is listed from the name that the traversal has come to
abbrev pub invariant-loop-ident : goal.invariant-loop-ident
invariant-loop-ident l = with_names l.parent l.idents l.fn.types.entries ≡ with_names l.parent (drop l.ident-index l.idents) l.types.entries

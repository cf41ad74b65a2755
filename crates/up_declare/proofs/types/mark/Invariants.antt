use Rattle.std.proofs.Common.{◌≡◌, true}
use Rattle.up_declare.specs.Types.{reaches}
use Rattle.up_declare.specs.Marks.{Marked}
use Rattle.up_declare.proofs.types.mark.Given as goal

-- the types so far are marked, and the one that the traversal has come to reaches `object` too
abbrev pub invariant-up : goal.invariant-up
invariant-up l = record {
  marked : Marked l.types.entries l.fn.marks.items → reaches l.types.entries l.name ≡ true → Marked l.types.entries l.marks.items;
  here : reaches l.types.entries l.name ≡ true → reaches l.types.entries l.here ≡ true;
}

abbrev pub decreases-up : goal.decreases-up
decreases-up l = l.left

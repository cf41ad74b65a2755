use Rattle.std.proofs.Common.{◌≡◌, ◌+◌, drop, length}
use Rattle.std.specs.List.{list_all}
use Rattle.up_kind.specs.Values.{covers, covers_with}
use Rattle.up_kind.proofs.values.+covering.Given as goal

-- the objects so far are covered
abbrev pub invariant-covers-loop-object : goal.invariant-covers-loop-object
invariant-covers-loop-object l =
    (l.so_far.name ≡ l.initial.so_far.name) × (l.so_far.args.items ≡ l.initial.so_far.args.items)
    × (covers l.tables l.initial.so_far.name l.initial.so_far.args.items l.types
    ≡ list_all (covers_with l.tables l.so_far.name l.so_far.args.items l.behind l.of) (drop l.object-index l.tables.objects))

abbrev pub decreases-covers : goal.decreases-covers
decreases-covers l = length l.types.now + length l.types.now

abbrev pub decreases-covers_with : goal.decreases-covers_with
decreases-covers_with l = length l.types.now + length l.types.now + 1

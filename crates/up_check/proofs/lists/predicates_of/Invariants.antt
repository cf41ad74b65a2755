use Rattle.std.proofs.Common.{◌≡◌, ◌++◌, map}
use Rattle.up_check.specs.Lists.{predicate}
use Rattle.up_check.proofs.lists.predicates_of.Given as goal

-- the list so far comes before what is left
abbrev pub invariant-entries : goal.invariant-entries
invariant-entries l = map predicate l.fn.table.entries ≡ l.list ++ map predicate l.name-iterator

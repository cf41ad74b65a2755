use Rattle.std.proofs.Common.{◌≡◌, ◌++◌, map}
use Rattle.up_check.specs.Held.{fact}
use Rattle.up_check.proofs.lists.facts_of.Given as goal

-- the list so far comes before what is left
abbrev pub invariant-entries : goal.invariant-entries
invariant-entries l = map fact l.fn.set.keys ≡ l.list ++ map fact l.name-iterator

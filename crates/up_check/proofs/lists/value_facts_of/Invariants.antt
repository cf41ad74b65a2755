use Rattle.std.proofs.Common.{◌≡◌, ◌++◌, map}
use Rattle.up_check.specs.Held.{value_fact}
use Rattle.up_check.proofs.lists.value_facts_of.Given as goal

-- the list so far comes before what is left
abbrev pub invariant-entries : goal.invariant-entries
invariant-entries l = map value_fact l.fn.table.entries ≡ l.list ++ map value_fact l.name-iterator

use Rattle.std.proofs.Common.{◌≡◌, ◌++◌, map}
use Rattle.up_check.specs.Held.{number_fact}
use Rattle.up_check.proofs.lists.number_facts_of.Given as goal

-- the list so far comes before what is left
abbrev pub invariant-entries : goal.invariant-entries
invariant-entries l = map number_fact l.fn.table.entries ≡ l.list ++ map number_fact l.name-iterator

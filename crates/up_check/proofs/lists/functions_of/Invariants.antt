use Rattle.std.proofs.Common.{◌≡◌, ◌++◌, map}
use Rattle.up_check.specs.Lists.{function}
use Rattle.up_check.proofs.lists.functions_of.Given as goal

-- the list so far comes before what is left
abbrev pub invariant-entries : goal.invariant-entries
invariant-entries l = map function l.fn.table.entries ≡ l.list ++ map function l.name-iterator

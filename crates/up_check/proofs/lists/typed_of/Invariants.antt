use Rattle.std.proofs.Common.{◌≡◌, ◌++◌, map}
use Rattle.up_phrase.specs.Scopes.{typed}
use Rattle.up_check.proofs.lists.typed_of.Given as goal

-- the list so far comes before what is left
abbrev pub invariant-entries : goal.invariant-entries
invariant-entries l = map typed l.fn.table.entries ≡ l.list ++ map typed l.name-iterator

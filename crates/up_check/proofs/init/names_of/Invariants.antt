use Rattle.std.proofs.Common.{◌≡◌, ◌++◌, drop}
use Rattle.up_check.specs.Initial.{arguments}
use Rattle.up_check.proofs.init.names_of.Given as goal

abbrev pub invariant-loop-ident : goal.invariant-loop-ident
invariant-loop-ident l = arguments l.idents ≡ l.names.items ++ arguments (drop l.ident-index l.idents)

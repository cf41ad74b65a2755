use Rattle.std.proofs.Common.{length}
use Rattle.up_eval.proofs.Indexing.{HasRest, name_of_typed}
use Rattle.up_eval.proofs.index.typed_by_name.Given as goal

abbrev pub invariant-naming : goal.invariant-naming
invariant-naming l = HasRest name_of_typed l.table l.rest l.entries

abbrev pub decreases-naming : goal.decreases-naming
decreases-naming l = length l.rest

use Rattle.std.proofs.Common.{length}
use Rattle.up_eval.proofs.Indexing.{HasRest, name_of_action}
use Rattle.up_eval.proofs.index.actions_by_name.Given as goal

abbrev pub invariant-naming : goal.invariant-naming
invariant-naming l = HasRest name_of_action l.table l.rest l.actions

abbrev pub decreases-naming : goal.decreases-naming
decreases-naming l = length l.rest

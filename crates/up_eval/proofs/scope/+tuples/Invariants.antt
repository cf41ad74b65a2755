use Rattle.std.proofs.Common.{length}
use Rattle.up_eval.proofs.scope.+tuples.Given as goal

abbrev pub decreases-tuples : goal.decreases-tuples
decreases-tuples l = length l.vars.now

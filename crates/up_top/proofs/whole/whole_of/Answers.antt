use Rattle.up_top.proofs.Inputs.{stops_result}
use Rattle.up_top.proofs.whole.whole_of.Goals as goal

pub returns-clause-stops : goal.returns-clause-stops
returns-clause-stops c =
    stops_result _ _ _ c.in_ok-problem.problem _ c.in_ok-problem.ensures.reads (rw c.deref.ensures.value at c.whole_with.ensures.stops)

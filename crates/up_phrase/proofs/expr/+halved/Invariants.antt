use Rattle.up_phrase.proofs.expr.+halved.Given as goal

abbrev pub decreases-halved : goal.decreases-halved
decreases-halved l = l.count

use Rattle.up_eval.proofs.index.Index.+reaches.Given as goal

abbrev pub decreases-reaches : goal.decreases-reaches
decreases-reaches l = l.left

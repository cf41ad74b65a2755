use Rattle.grammar_names.proofs.Problems.{metrics}
use Rattle.grammar_names.proofs.laws.metrics_are_read.Goals as goal

pub returns : goal.returns
returns c = metrics

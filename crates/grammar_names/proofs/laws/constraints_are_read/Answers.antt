use Rattle.grammar_names.proofs.Problems.{all_constraints}
use Rattle.grammar_names.proofs.laws.constraints_are_read.Goals as goal

pub returns : goal.returns
returns c = all_constraints

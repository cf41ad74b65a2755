use Rattle.grammar_names.proofs.Problems.{initial_states}
use Rattle.grammar_names.proofs.laws.initial_states_are_read.Goals as goal

pub returns : goal.returns
returns c = initial_states

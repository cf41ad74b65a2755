use Rattle.grammar_names.proofs.Actions.{action_read, action_denotes}
use Rattle.grammar_names.proofs.laws.action_is_read.Goals as goal

pub returns : goal.returns
returns c = λ names raw act. (action_read names raw act, action_denotes names raw act)

use Rattle.grammar_names.proofs.Actions.{actions_read, actions_denote}
use Rattle.grammar_names.proofs.laws.actions_are_read.Goals as goal

pub returns : goal.returns
returns c = λ names raws acts. (actions_read names raws acts, actions_denote names raws acts)

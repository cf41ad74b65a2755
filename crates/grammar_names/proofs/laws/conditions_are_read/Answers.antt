use Rattle.grammar_names.proofs.Conditions.{formula_read, formula_denotes}
use Rattle.grammar_names.proofs.laws.conditions_are_read.Goals as goal

pub returns : goal.returns
returns c = λ names vars s raw f. (formula_read names vars s raw f, formula_denotes names vars s raw f)

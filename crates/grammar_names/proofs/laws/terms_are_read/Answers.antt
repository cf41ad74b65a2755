use Rattle.grammar_names.proofs.Terms.{term_read, term_denotes}
use Rattle.grammar_names.proofs.laws.terms_are_read.Goals as goal

pub returns : goal.returns
returns c = λ names vars s due raw t. (term_read names vars s due raw t, term_denotes names vars s due raw t)

use Rattle.grammar_names.proofs.Exprs.{expr_read, expr_denotes}
use Rattle.grammar_names.proofs.laws.expressions_are_read.Goals as goal

pub returns : goal.returns
returns c = λ names vars s raw e. (expr_read names vars s raw e, expr_denotes names vars s raw e)

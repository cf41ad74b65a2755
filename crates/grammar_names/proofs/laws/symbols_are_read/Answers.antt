use Rattle.grammar_names.proofs.Declares.{predicates_read, predicates_declare, functions_read, functions_declare}
use Rattle.grammar_names.proofs.laws.symbols_are_read.Goals as goal

pub returns-clause-predicates : goal.returns-clause-predicates
returns-clause-predicates c = λ symbols names more. (predicates_read symbols names more, predicates_declare symbols names more)

pub returns-clause-functions : goal.returns-clause-functions
returns-clause-functions c = λ groups names more. (functions_read groups names more, functions_declare groups names more)

use Rattle.grammar_names.proofs.Declares.{declared_read, declared_declare}
use Rattle.grammar_names.proofs.laws.declarations_are_read.Goals as goal

pub returns : goal.returns
returns c = λ form names. (declared_read form names, declared_declare form names)

use Rattle.grammar_names.proofs.Declares.{objects_read, objects_declare}
use Rattle.grammar_names.proofs.laws.objects_are_read.Goals as goal

pub returns : goal.returns
returns c = λ groups names more. (objects_read groups names more, objects_declare groups names more)

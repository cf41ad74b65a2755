use Rattle.grammar_names.proofs.DeclaredTypes.{types_law, faultless_law}
use Rattle.grammar_names.proofs.laws.types_are_read.Goals as goal

pub returns-clause-read : goal.returns-clause-read
returns-clause-read c = types_law

pub returns-clause-faultless : goal.returns-clause-faultless
returns-clause-faultless c = faultless_law

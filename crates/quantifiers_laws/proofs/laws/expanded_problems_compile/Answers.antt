use Rattle.quantifiers_laws.proofs.Owing.{expanded_compiled}
use Rattle.quantifiers_laws.proofs.laws.expanded_problems_compile.Goals as goal

pub returns : goal.returns
returns c = expanded_compiled c.args._p.now c.requires.formed c.requires.admitted

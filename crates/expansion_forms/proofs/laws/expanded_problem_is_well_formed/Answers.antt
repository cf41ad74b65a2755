use Rattle.expansion_forms.proofs.Problems.{problem_well}
use Rattle.expansion_forms.proofs.laws.expanded_problem_is_well_formed.Goals as goal

pub returns : goal.returns
returns c = problem_well c.args._p.now c.requires

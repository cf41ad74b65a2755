use Rattle.up_tree.proofs.Steps.{next_unique, next_exists}
use Rattle.up_tree.proofs.laws.next_is_one.Goals as goal

pub returns-clause-one : goal.returns-clause-one
returns-clause-one c = next_unique

pub returns-clause-there : goal.returns-clause-there
returns-clause-there c = next_exists

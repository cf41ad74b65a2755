use Rattle.pddl_lex.proofs.Nested.{trees_faultless, faultless_trees, trees_one, depth_faultless}
use Rattle.pddl_lex.proofs.laws.bracket_law.Goals as goal

pub returns-clause-trees : goal.returns-clause-trees
returns-clause-trees c = λ trees t. trees_faultless c.args.text.now trees t

pub returns-clause-faultless : goal.returns-clause-faultless
returns-clause-faultless c = λ none. faultless_trees c.args.text.now none

pub returns-clause-one : goal.returns-clause-one
returns-clause-one c = λ trees others t u. trees_one c.args.text.now trees others t u

pub returns-clause-depth : goal.returns-clause-depth
returns-clause-depth c = λ none. depth_faultless c.args.text.now none

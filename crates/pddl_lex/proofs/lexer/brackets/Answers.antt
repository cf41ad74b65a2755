use Rattle.pddl_lex.proofs.Nested.{read_trees, read_depth, read_fault}
use Rattle.pddl_lex.proofs.lexer.brackets.Goals as goal

pub returns-clause-trees : goal.returns-clause-trees
returns-clause-trees c = read_trees c.args.text.now _ c.nested.ensures

pub returns-clause-depth : goal.returns-clause-depth
returns-clause-depth c = read_depth c.args.text.now _ c.nested.ensures

pub returns-clause-fault : goal.returns-clause-fault
returns-clause-fault c = read_fault c.args.text.now _ c.nested.ensures

use Rattle.pddl_lex.proofs.Reading.{items_stand}
use Rattle.pddl_lex.proofs.Spelling.{stands_whole}
use Rattle.pddl_lex.proofs.laws.item_law.Goals as goal

pub returns-clause-stands : goal.returns-clause-stands
returns-clause-stands c = items_stand c.args.text.now

pub returns-clause-one : goal.returns-clause-one
returns-clause-one c = λ others stands. stands_whole c.args.text.now others stands

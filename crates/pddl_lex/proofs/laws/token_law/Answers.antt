use Rattle.pddl_lex.proofs.TokenLaws.{spelled_faultless, faultless_spelled, spelled_one}
use Rattle.pddl_lex.proofs.laws.token_law.Goals as goal

pub returns-clause-spelled : goal.returns-clause-spelled
returns-clause-spelled c = λ tokens spells. spelled_faultless c.args.text.now tokens spells

pub returns-clause-faultless : goal.returns-clause-faultless
returns-clause-faultless c = λ none. faultless_spelled c.args.text.now none

pub returns-clause-one : goal.returns-clause-one
returns-clause-one c = λ tokens others first second. spelled_one c.args.text.now tokens others first second

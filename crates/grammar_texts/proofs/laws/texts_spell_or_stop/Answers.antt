use Rattle.grammar_texts.proofs.Faults.{one_fault}
use Rattle.grammar_texts.proofs.Spelled.{all_spell_or_stop, spelled_is_faultless}
use Rattle.grammar_texts.proofs.laws.texts_spell_or_stop.Goals as goal

pub returns-clause-one : goal.returns-clause-one
returns-clause-one c = one_fault

pub returns-clause-faultless : goal.returns-clause-faultless
returns-clause-faultless c = λ domain problem. spelled_is_faultless domain problem c.args._p.now

pub returns-clause-settled : goal.returns-clause-settled
returns-clause-settled c = all_spell_or_stop

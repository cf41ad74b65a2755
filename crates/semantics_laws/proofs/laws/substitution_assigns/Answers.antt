use Rattle.semantics_laws.proofs.Replacing.{terms_substitute, exprs_substitute, formulas_substitute}
use Rattle.semantics_laws.proofs.laws.substitution_assigns.Goals as goal

pub returns-clause-terms : goal.returns-clause-terms
returns-clause-terms c = λ s e vars objects. terms_substitute s e vars objects c.args._t.now

pub returns-clause-exprs : goal.returns-clause-exprs
returns-clause-exprs c = λ s e vars objects. exprs_substitute s e vars objects c.args._x.now

pub returns-clause-formulas : goal.returns-clause-formulas
returns-clause-formulas c = λ w s e vars objects. formulas_substitute w s e vars objects c.args._f.now

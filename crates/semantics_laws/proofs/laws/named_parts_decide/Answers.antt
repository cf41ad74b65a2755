use Rattle.semantics_laws.proofs.Agreeing.{terms_depend, exprs_depend, formulas_depend}
use Rattle.semantics_laws.proofs.laws.named_parts_decide.Goals as goal

pub returns-clause-terms : goal.returns-clause-terms
returns-clause-terms c = λ s t e. terms_depend s t e c.args._u.now

pub returns-clause-exprs : goal.returns-clause-exprs
returns-clause-exprs c = λ s t e. exprs_depend s t e c.args._x.now

pub returns-clause-formulas : goal.returns-clause-formulas
returns-clause-formulas c = λ w s t e. formulas_depend w s t e c.args._f.now

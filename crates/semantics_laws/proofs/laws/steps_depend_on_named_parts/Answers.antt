use Rattle.semantics_laws.proofs.Stepping.{faults_depend, next_depends, wider_depends}
use Rattle.semantics_laws.proofs.laws.steps_depend_on_named_parts.Goals as goal

pub returns-clause-faults : goal.returns-clause-faults
returns-clause-faults c = λ s t. faults_depend c.args._p.now s t c.args._step.now

pub returns-clause-next : goal.returns-clause-next
returns-clause-next c = λ s t next_s next_t agree. next_depends c.args._p.now s t c.args._step.now agree next_s next_t

pub returns-clause-wider : goal.returns-clause-wider
returns-clause-wider c = λ symbols s t next_s next_t named agree. wider_depends c.args._p.now s t c.args._step.now symbols named agree next_s next_t

use Rattle.roundtrip_names.proofs.Declaring.{parts_are_declared}
use Rattle.roundtrip_names.proofs.laws.parts_are_declared.Goals as goal

pub returns-clause-constants : goal.returns-clause-constants
returns-clause-constants c = (parts_are_declared c.args._p.now).0

pub returns-clause-objects : goal.returns-clause-objects
returns-clause-objects c = (parts_are_declared c.args._p.now).1

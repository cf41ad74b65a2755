use Rattle.trajectory_laws.proofs.Owing.{compiled}
use Rattle.trajectory_laws.proofs.laws.monitored_compiles.Goals as goal

pub returns : goal.returns
returns c = compiled c.args._p.now c.requires

use Rattle.std.proofs.Common.{arith}
use Rattle.up_map.proofs.Gathering.{ended_more}
use Rattle.up_map.proofs.read.ended.Goals as goal

pub returns-in_default-clause-fault : goal.returns-in_default-clause-fault
returns-in_default-clause-fault c = ended_more c.args.number c.args.entries c.args.behind.now (omega (arith, c.in_default.len_at_least))

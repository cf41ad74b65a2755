use Rattle.std.proofs.Common.{option_copied}
use Rattle.up_map.proofs.Gathering.{StagesSo, left}
use Rattle.up_map.proofs.read.read_stages.Given as goal

abbrev pub invariant-reading : goal.invariant-reading
invariant-reading l = StagesSo (option_copied l.words) l.stages (option_copied l.rest)

abbrev pub decreases-reading : goal.decreases-reading
decreases-reading l = left (option_copied l.rest)

use Rattle.std.proofs.Common.{length, ◌-◌}
use Rattle.up_store.proofs.folder.write_all.Given as goal

abbrev pub decreases-loop-at : goal.decreases-loop-at
decreases-loop-at g l = length l.bytes - l.at

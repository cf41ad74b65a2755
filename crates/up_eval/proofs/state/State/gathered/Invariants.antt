use Rattle.std.proofs.Common.{map, take}
use Rattle.up_eval.specs.Effects.{number_meant}
use Rattle.up_eval.specs.Gathering.{AreGathered}
use Rattle.up_eval.proofs.state.State.gathered.Given as goal

abbrev pub invariant-loop-change : goal.invariant-loop-change
invariant-loop-change l = AreGathered l.self (map number_meant (take l.change-index l.changes)) l.gathered

use Rattle.std.proofs.Common.{map, take}
use Rattle.up_eval.specs.Effects.{object_meant}
use Rattle.up_eval.specs.Gathering.{AreFirst}
use Rattle.up_eval.proofs.gathering.check_objects.Given as goal

abbrev pub invariant-loop-change : goal.invariant-loop-change
invariant-loop-change l = AreFirst (map object_meant (take l.change-index l.changes)) l.firsts

use Rattle.std.proofs.Common.{◌≡◌, map, take}
use Rattle.up_eval.specs.Effects.{number_meant}
use Rattle.up_eval.specs.Gathering.{new_numbers}
use Rattle.up_eval.proofs.state.State.new_numbers.Given as goal

abbrev pub invariant-loop-change : goal.invariant-loop-change
invariant-loop-change l = l.news ≡ new_numbers l.self l.gathered (map number_meant (take l.change-index l.changes))

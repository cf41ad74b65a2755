use Rattle.std.proofs.Common.{◌≡◌, drop}
use Rattle.std.specs.List.{list_any}
use Rattle.up_eval.specs.Firing.{meant_all}
use Rattle.up_eval.specs.Effects.{at_fired, lacks_object}
use Rattle.up_eval.proofs.state.State.lacks_some_object.Given as goal

abbrev pub invariant-loop-fired : goal.invariant-loop-fired
invariant-loop-fired l = list_any (at_fired lacks_object l.self) (meant_all l.effects) ≡ list_any (at_fired lacks_object l.self) (meant_all (drop l.fired-index l.effects))

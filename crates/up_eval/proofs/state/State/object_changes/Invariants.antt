use Rattle.std.proofs.Common.{◌≡◌, map, take}
use Rattle.up_tree.specs.Changes.{object_change, of_firing}
use Rattle.up_eval.specs.Firing.{meant_all}
use Rattle.up_eval.specs.Effects.{object_meant}
use Rattle.up_eval.proofs.state.State.object_changes.Given as goal

abbrev pub invariant-loop-fired : goal.invariant-loop-fired
invariant-loop-fired l = map object_meant l.changes ≡ of_firing object_change l.self (meant_all (take l.fired-index l.effects))

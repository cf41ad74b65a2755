-- The effects that take place, as a program holds them.
use Rattle.std.specs.Prelude.{◌≡◌, ⊤, List, ◌++◌, map, filter_map}
use Rattle.up_text.specs.declared.name.Name.{Name}
use Rattle.up_text.specs.Lists.{Every, Somewhere}
use Rattle.up_tree.specs.declared.action.Row.{Row}
use Rattle.up_tree.specs.Objects.{World, Assignment, assign}
use Rattle.up_tree.specs.State.{State}
use Rattle.up_tree.specs.Truth.{IsUndefined}
use Rattle.up_tree.specs.Instances.{Instance, Fired, fired}
use Rattle.up_tree.specs.Big.{BigFormula}
use Rattle.up_eval.specs.declared.firing.Firing.{Firing}
use Rattle.up_eval.specs.declared.step_error.Why.TheVariants as why
use Rattle.up_eval.specs.declared.stop.Stop.{Stop}
use Rattle.up_eval.specs.declared.stop.Stop.TheVariants as stop
use Rattle.up_eval.specs.Scope.{assignment_of}

abbrev pub meant : Firing → Fired
meant f = record { assignment = assignment_of f.scope; effect = f.effect.now }

abbrev pub meant_all : List Firing → List Fired
meant_all fs = map meant fs

abbrev pub instance_at : Assignment → Row → List Name → Instance
instance_at e row tuple = record { assignment = assign row.vars tuple e; row = row }

-- the effects of the instances that fire stand after those that were there, and no condition is undefined
pub record HasFired (w : World) (s : State) (is : List Instance) (old new : List Fired) : Type 0 where
  pub effects : new ≡ old ++ filter_map (fired w s) is
  pub conditions : Every (λ i. ¬ IsUndefined w s i.assignment i.row.when) is

-- what stops a look at the conditions of the instances
abbrev pub IsConditionStop : World → State → List Instance → Stop → Type 0
IsConditionStop w s is stop.Memory = ⊤
IsConditionStop w s is stop.TooLarge = Somewhere (λ i. BigFormula w s i.assignment i.row.when) is
IsConditionStop w s is (stop.Refused why.ConditionUndefined) = Somewhere (λ i. IsUndefined w s i.assignment i.row.when) is
IsConditionStop w s is (stop.Refused _) = ⊥

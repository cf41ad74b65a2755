-- The state that a step's changes leave, and what stops them.
use Rattle.std.specs.Prelude.{◌⊎◌, ⊤, List}
use Rattle.std.specs.FinSet as set
use Rattle.up_tree.specs.declared.problem.Parts.{Parts}
use Rattle.up_tree.specs.State.{State}
use Rattle.up_tree.specs.StateOf.{IsStateOf}
use Rattle.up_tree.specs.WellFormed.{IsWellFormed}
use Rattle.up_tree.specs.Instances.{Fired}
use Rattle.up_tree.specs.Changes.{number_change, of_firing}
use Rattle.up_tree.specs.Faults.{OfEffect, ObjectUndefined, NumberUndefined, NumbersConflict, ObjectsConflict}
use Rattle.up_tree.specs.Big.{BigOperand, BigChange}
use Rattle.up_eval.specs.declared.next.Changes.{Changes}
use Rattle.up_eval.specs.declared.step_error.Why.TheVariants as why
use Rattle.up_eval.specs.declared.stop.Stop.{Stop}
use Rattle.up_eval.specs.declared.stop.Stop.TheVariants as stop
use Rattle.up_eval.specs.Gathering.{put_numbers, put_objects}

-- deletes before adds
abbrev pub state_with : State → Changes → State
state_with s c = record {
  atoms = set.union (set.difference s.atoms (set.from_list c.deleted)) (set.from_list c.added);
  numbers = put_numbers s.numbers c.numbers;
  values = put_objects s.values c.objects;
}

-- of a well-formed problem, and where the first is a state of it, the second is one too
abbrev pub StaysOf : Parts → State → State → Type 0
StaysOf p s t = IsWellFormed p → IsStateOf p s → IsStateOf p t

-- nothing that the effects need is undefined, and no two of them conflict
pub record HaveNoFault (s : State) (fs : List Fired) : Type 0 where
  pub objects : ¬ OfEffect ObjectUndefined s fs
  pub numbers : ¬ OfEffect NumberUndefined s fs
  pub apart : ¬ NumbersConflict s fs
  pub agree : ¬ ObjectsConflict s fs

-- an operand or a new number is past the bound
abbrev pub BigNumbers : State → List Fired → Type 0
BigNumbers s fs = OfEffect BigOperand s fs ⊎ BigChange s (of_firing number_change s fs)

-- what stops the effects' numbers
abbrev pub IsNewNumbersStop : State → List Fired → Stop → Type 0
IsNewNumbersStop s fs stop.Memory = ⊤
IsNewNumbersStop s fs stop.TooLarge = BigNumbers s fs
IsNewNumbersStop s fs (stop.Refused why.NumberUndefined) = OfEffect NumberUndefined s fs
IsNewNumbersStop s fs (stop.Refused why.NumberConflict) = NumbersConflict s fs × (¬ OfEffect NumberUndefined s fs)
IsNewNumbersStop s fs (stop.Refused _) = ⊥

-- and their objects
abbrev pub IsNewObjectsStop : State → List Fired → Stop → Type 0
IsNewObjectsStop s fs stop.Memory = ⊤
IsNewObjectsStop s fs stop.TooLarge = ⊥
IsNewObjectsStop s fs (stop.Refused why.ObjectConflict) = ObjectsConflict s fs
IsNewObjectsStop s fs (stop.Refused _) = ⊥

-- a fault of the effects, where none of those before it is one, or a number past the bound
abbrev pub IsEffectsStop : State → List Fired → Stop → Type 0
IsEffectsStop s fs stop.Memory = ⊤
IsEffectsStop s fs stop.TooLarge = BigNumbers s fs
IsEffectsStop s fs (stop.Refused why.ObjectUndefined) = OfEffect ObjectUndefined s fs
IsEffectsStop s fs (stop.Refused why.NumberUndefined) = OfEffect NumberUndefined s fs × (¬ OfEffect ObjectUndefined s fs)
IsEffectsStop s fs (stop.Refused why.NumberConflict) = NumbersConflict s fs × (¬ OfEffect NumberUndefined s fs) × (¬ OfEffect ObjectUndefined s fs)
IsEffectsStop s fs (stop.Refused why.ObjectConflict) =
    ObjectsConflict s fs × (¬ NumbersConflict s fs) × (¬ OfEffect NumberUndefined s fs) × (¬ OfEffect ObjectUndefined s fs)
IsEffectsStop s fs (stop.Refused _) = ⊥

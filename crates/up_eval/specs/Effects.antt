-- What the effects that take place lack and change, as a program finds it.
use Rattle.std.specs.Prelude.{⊤, Bool, true, false, ◌&&◌, ◌||◌, is_none, ℤ, pos, zero, List, [], ◌∷◌, Option, Some, None}
use Rattle.up_text.specs.declared.name.Name.{Name}
use Rattle.up_frac.specs.Fraction.{Fraction}
use Rattle.up_tree.specs.declared.action.Change.{Change}
use Rattle.up_tree.specs.declared.action.Change.TheVariants as change
use Rattle.up_tree.specs.declared.action.Effect.{Effect}
use Rattle.up_tree.specs.declared.action.Effect.TheVariants as effect
use Rattle.up_tree.specs.Objects.{Assignment}
use Rattle.up_tree.specs.State.{State, Ground, number_at}
use Rattle.up_tree.specs.Value.{term_value, ground_at}
use Rattle.up_tree.specs.Instances.{Fired}
use Rattle.up_tree.specs.Changes.{NumberChange as MeantNumber, ObjectChange as MeantObject}
use Rattle.up_tree.specs.Faults.{OfEffect, NumberUndefined}
use Rattle.up_tree.specs.Big.{BigOperand}
use Rattle.up_eval.specs.declared.changes.NumberChange.{NumberChange}
use Rattle.up_eval.specs.declared.changes.ObjectChange.{ObjectChange}
use Rattle.up_eval.specs.declared.step_error.Why.TheVariants as why
use Rattle.up_eval.specs.declared.stop.Stop.{Stop}
use Rattle.up_eval.specs.declared.stop.Stop.TheVariants as stop

-- what is said of an effect, said of one that fires
abbrev pub at_fired : {A : Type 0} → (State → Assignment → Effect → A) → State → Fired → A
at_fired what s f = what s f.assignment f.effect

abbrev pub OfFired : (State → Assignment → Effect → Type 0) → State → Fired → Type 0
OfFired What s f = What s f.assignment f.effect

-- an argument of the atom or target is undefined, or an assigned term is
abbrev pub lacks_object : State → Assignment → Effect → Bool
lacks_object s e (effect.Add name ts) = is_none (ground_at s e name ts)
lacks_object s e (effect.Delete name ts) = is_none (ground_at s e name ts)
lacks_object s e (effect.Number change f ts x) = is_none (ground_at s e f ts)
lacks_object s e (effect.Object f ts t) = is_none (ground_at s e f ts) || is_none (term_value s e t)
lacks_object s e (effect.Undefine f ts) = is_none (ground_at s e f ts)

abbrev pub needs_old : Change → Bool
needs_old change.Assign = false
needs_old change.Increase = true
needs_old change.Decrease = true
needs_old change.ScaleUp = true
needs_old change.ScaleDown = true

abbrev pub is_zero : ℤ → Bool
is_zero (pos zero) = true
is_zero n = false

-- a division by 0
abbrev pub divides_by_zero : Change → Fraction → Bool
divides_by_zero change.ScaleDown x = is_zero x.numerator
divides_by_zero c x = false

-- an old value that is needed is undefined
abbrev pub lacks_old : State → Change → Option Ground → Bool
lacks_old s c None = false
lacks_old s c (Some t) = needs_old c && is_none (number_at s t)

-- an operand is undefined, an old value that is needed is, or a divisor is 0
abbrev pub lacks_number : State → Change → Option Ground → Option Fraction → Bool
lacks_number s c target None = true
lacks_number s c target (Some x) = divides_by_zero c x || lacks_old s c target

abbrev pub number_meant : NumberChange → MeantNumber
number_meant c = record { target = c.target; change = c.change; operand = c.operand }

abbrev pub object_meant : ObjectChange → MeantObject
object_meant c = record { target = c.target; value = c.value }

-- the change of a target by an operand, where both are defined
abbrev pub change_of : Change → Option Ground → Option Fraction → Option MeantNumber
change_of c (Some t) (Some x) = Some (record { target = t; change = c; operand = x })
change_of c t x = None

-- the value of a target, where it is defined
abbrev pub value_of : Option Ground → Option Name → Option MeantObject
value_of (Some t) v = Some (record { target = t; value = v })
value_of None v = None

-- an object is assigned where it is defined
abbrev pub assigned_value : Option Ground → Option Name → Option MeantObject
assigned_value t (Some v) = value_of t (Some v)
assigned_value t None = None

-- the item, if there is one
abbrev pub at_most_one : {X : Type 0} → Option X → List X
at_most_one None = []
at_most_one (Some x) = x ∷ []

-- what stops a look at the numbers of an effect
abbrev pub IsNumberStop : State → Fired → Stop → Type 0
IsNumberStop s f stop.Memory = ⊤
IsNumberStop s f stop.TooLarge = BigOperand s f.assignment f.effect
IsNumberStop s f (stop.Refused why.NumberUndefined) = NumberUndefined s f.assignment f.effect
IsNumberStop s f (stop.Refused _) = ⊥

-- and of all effects
abbrev pub IsNumbersStop : State → List Fired → Stop → Type 0
IsNumbersStop s fs stop.Memory = ⊤
IsNumbersStop s fs stop.TooLarge = OfEffect BigOperand s fs
IsNumbersStop s fs (stop.Refused why.NumberUndefined) = OfEffect NumberUndefined s fs
IsNumbersStop s fs (stop.Refused _) = ⊥

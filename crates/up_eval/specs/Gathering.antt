-- The changes of each term gathered, as a program does it, and the values that they give.
use Rattle.std.specs.Prelude.{◌≡◌, ◌≢◌, ⊤, ◌≤◌, Bool, true, false, List, [], ◌∷◌, ◌++◌, map, length, fold, Option, Some, None, IsSomeAnd}
use Rattle.std.specs.FinMap as table
use Rattle.up_text.specs.declared.name.Name.{Name}
use Rattle.up_text.specs.Lists.{Every, Somewhere}
use Rattle.up_frac.specs.Fraction.{Fraction}
use Rattle.up_tree.specs.declared.action.Change.{Change}
use Rattle.up_tree.specs.declared.action.Change.TheVariants.{Assign, Increase, Decrease, ScaleUp, ScaleDown}
use Rattle.up_tree.specs.State.{State, Ground, ground_cmp, number_at}
use Rattle.up_tree.specs.Changes.{NumberChange, ObjectChange, changes_at, objects_at, new_number, put}
use Rattle.up_tree.specs.Faults.{IsShift}
use Rattle.up_tree.specs.Big.{IsBigNumber, BigChange}
use Rattle.up_eval.specs.declared.changes.ObjectChange.{ObjectChange as FoundObject}
use Rattle.up_eval.specs.declared.gathering.Gathered.{Gathered}
use Rattle.up_eval.specs.declared.gathering.NewNumber.{NewNumber}
use Rattle.up_eval.specs.declared.step_error.Why.TheVariants as why
use Rattle.up_eval.specs.declared.stop.Stop.{Stop}
use Rattle.up_eval.specs.declared.stop.Stop.TheVariants as stop
use Rattle.up_eval.specs.Numbers.{sum_of, difference_of, product_of, quotient_of}

-- ---- numbers

abbrev pub is_shift : Change → Bool
is_shift Increase = true
is_shift Decrease = true
is_shift _ = false

-- the number after a term's first change
abbrev pub first_number : Change → Fraction → Option Fraction → Option Fraction
first_number Assign x old = Some x
first_number Increase x old = sum_of old (Some x)
first_number Decrease x old = difference_of old (Some x)
first_number ScaleUp x old = product_of old (Some x)
first_number ScaleDown x old = quotient_of old (Some x)

-- more of the same, where only increases and decreases came before
abbrev pub more_shifts : Bool → Option Fraction → Option Gathered
more_shifts true v = Some (record { shifts = true; value = v })
more_shifts false v = None

-- an increase or a decrease after others, and nothing else
abbrev pub gathered_next : Change → Fraction → Gathered → Option Gathered
gathered_next Increase x g = more_shifts g.shifts (sum_of g.value (Some x))
gathered_next Decrease x g = more_shifts g.shifts (difference_of g.value (Some x))
gathered_next Assign x g = None
gathered_next ScaleUp x g = None
gathered_next ScaleDown x g = None

abbrev pub gathered_after : Option Fraction → Option Gathered → NumberChange → Option Gathered
gathered_after old None c = Some (record { shifts = is_shift c.change; value = first_number c.change c.operand old })
gathered_after old (Some g) c = gathered_next c.change c.operand g

-- what stops it
abbrev pub IsGatheredStop : Option Gathered → Stop → Type 0
IsGatheredStop g stop.Memory = ⊤
IsGatheredStop g stop.TooLarge = IsSomeAnd g (λ it. IsBigNumber it.value)
IsGatheredStop g (stop.Refused why.NumberConflict) = g ≡ None
IsGatheredStop g (stop.Refused _) = ⊥

-- what the changes of one term make
abbrev pub gathered_of : Option Fraction → List NumberChange → Option Gathered
gathered_of old [] = None
gathered_of old (c ∷ more) = Some (record { shifts = is_shift c.change; value = new_number old (c ∷ more) })

-- two or more changes that are not all increases and decreases
abbrev pub IsMixed : List NumberChange → Type 0
IsMixed changes = (2 ≤ length changes) × Somewhere (λ c. ¬ IsShift c.change) changes

-- no term's changes are mixed
abbrev pub AreApart : List NumberChange → Type 0
AreApart changes = (t : Ground) → ¬ IsMixed (changes_at t changes)

-- the table has what the changes of each term make, and no term's changes are mixed
pub record AreGathered (s : State) (changes : List NumberChange) (m : table.FinMap ground_cmp Gathered) : Type 0 where
  pub made : (t : Ground) → table.get m t ≡ gathered_of (number_at s t) (changes_at t changes)
  pub apart : AreApart changes

-- what stops the gathering of the changes
abbrev pub IsGatherStop : State → List NumberChange → Stop → Type 0
IsGatherStop s changes stop.Memory = ⊤
IsGatherStop s changes stop.TooLarge = BigChange s changes
IsGatherStop s changes (stop.Refused why.NumberConflict) = (t : Ground) × IsMixed (changes_at t changes)
IsGatherStop s changes (stop.Refused _) = ⊥

-- one more change
abbrev pub GathersMore : State → table.FinMap ground_cmp Gathered → NumberChange → table.FinMap ground_cmp Gathered → Type 0
GathersMore s m c n = (before : List NumberChange) → AreGathered s before m → AreGathered s (before ++ c ∷ []) n

abbrev pub StopsAt : State → table.FinMap ground_cmp Gathered → NumberChange → Stop → Type 0
StopsAt s m c e = (before behind : List NumberChange) → AreGathered s before m → IsGatherStop s (before ++ c ∷ behind) e

-- the value that was gathered, or else the old one
abbrev pub gathered_value : Option Gathered → Option Fraction → Option Fraction
gathered_value None old = old
gathered_value (Some g) old = g.value

-- the new number of each change's target
abbrev pub new_numbers : State → table.FinMap ground_cmp Gathered → List NumberChange → List NewNumber
new_numbers s m changes = map (λ c. record { target = c.target; value = gathered_value (table.get m c.target) (number_at s c.target) }) changes

abbrev pub settled_numbers : State → List NumberChange → List NewNumber
settled_numbers s changes = map (λ c. record { target = c.target; value = new_number (number_at s c.target) (changes_at c.target changes) }) changes

-- the numbers put into a map, in turn
abbrev pub put_numbers : table.FinMap ground_cmp Fraction → List NewNumber → table.FinMap ground_cmp Fraction
put_numbers m news = fold (λ m (n : NewNumber). put m n.target n.value) m news

-- ---- objects

-- the value of the first change
abbrev pub first_value : List ObjectChange → Option (Option Name)
first_value [] = None
first_value (c ∷ more) = Some c.value

-- each change gives its term the value of the term's first change
abbrev pub AreUnanimous : List ObjectChange → Type 0
AreUnanimous changes = Every (λ c. first_value (objects_at c.target changes) ≡ Some c.value) changes

-- the table has the first value of each term, and the changes agree
pub record AreFirst (changes : List ObjectChange) (m : table.FinMap ground_cmp (Option Name)) : Type 0 where
  pub made : (t : Ground) → table.get m t ≡ first_value (objects_at t changes)
  pub agree : AreUnanimous changes

-- two changes of one term differ
abbrev pub TwoDiffer : List ObjectChange → Type 0
TwoDiffer changes = (t : Ground) × Somewhere (λ c. Somewhere (λ d. c.value ≢ d.value) (objects_at t changes)) (objects_at t changes)

-- what stops a look at the changes
abbrev pub IsObjectStop : List ObjectChange → Stop → Type 0
IsObjectStop changes stop.Memory = ⊤
IsObjectStop changes stop.TooLarge = ⊥
IsObjectStop changes (stop.Refused why.ObjectConflict) = TwoDiffer changes
IsObjectStop changes (stop.Refused _) = ⊥

-- one more change
abbrev pub FirstOfMore : table.FinMap ground_cmp (Option Name) → ObjectChange → table.FinMap ground_cmp (Option Name) → Type 0
FirstOfMore m c n = (before : List ObjectChange) → AreFirst before m → AreFirst (before ++ c ∷ []) n

abbrev pub DiffersFrom : table.FinMap ground_cmp (Option Name) → ObjectChange → Stop → Type 0
DiffersFrom m c e = (before behind : List ObjectChange) → AreFirst before m → IsObjectStop (before ++ c ∷ behind) e

-- the values put into a map, in turn
abbrev pub put_objects : table.FinMap ground_cmp Name → List FoundObject → table.FinMap ground_cmp Name
put_objects m changes = fold (λ m (c : FoundObject). put m c.target c.value) m changes

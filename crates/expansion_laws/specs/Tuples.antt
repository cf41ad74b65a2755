-- Typed tuples: their members, number and order.
use Rattle.std.specs.Prelude.{◌≡◌, ◌*◌, ◌+◌, ◌&&◌, slice_get, None, ℕ, Bool, true, false, List, [], ◌∷◌, length, zip, map, Some, IsSomeAnd, Option}
use Rattle.up_text.specs.declared.name.Name.{Name}
use Rattle.up_text.specs.Lists.{Every, Member}
use Rattle.up_tree.specs.declared.term.Typed.{Typed}
use Rattle.up_tree.specs.declared.action.Action.{Action}
use Rattle.up_tree.specs.Objects.{World, Assignment, assign, unassigned, is_of, objects_of}
use Rattle.up_tree.specs.State.{State}
use Rattle.up_tree.specs.Faults.{unknown, arity, argument_type, ActionApplies}
use Rattle.up_tree.specs.Value.{with_both}

-- an object of each variable's type at its place
pub record AreTyped (w : World) (vars : List Typed) (objects : List Name) : Type 0 where
  pub as_many : length objects ≡ length vars
  pub typed : Every (λ pair. Member pair.0 (objects_of w pair.1.of)) (zip objects vars)

-- the product of the numbers of objects
abbrev pub tuple_number : World → List Typed → ℕ
tuple_number w [] = 1
tuple_number w (v ∷ vars) = length (objects_of w v.of) * tuple_number w vars

-- the tuple of the objects that stand at these places among those of the variables' types
abbrev pub chosen : World → List Typed → List ℕ → Option (List Name)
chosen w [] [] = Some []
chosen w (v ∷ vars) (i ∷ places) =
    with_both (λ o rest. Some (o ∷ rest)) (slice_get (objects_of w v.of) i) (chosen w vars places)
chosen w _ _ = None

-- where it stands among the typed tuples: the last place varies fastest
abbrev pub place : World → List Typed → List ℕ → ℕ
place w [] places = 0
place w (v ∷ vars) [] = 0
place w (v ∷ vars) (i ∷ places) = i * tuple_number w vars + place w vars places

-- an object of its type for each variable
abbrev pub Suits : World → List Typed → Assignment → Type 0
Suits w vars e = Every (λ v. IsSomeAnd (e v.name) (λ o. Member o (objects_of w v.of))) vars

-- each variable has the object at its place of the tuple
abbrev pub IsOfTuple : List Typed → List Name → Assignment → Type 0
IsOfTuple vars tuple e = Every (λ v. e v.name ≡ assign vars tuple unassigned v.name) vars

-- no fault of arguments applies
abbrev pub ArgumentsFit : World → State → Action → List Name → Type 0
ArgumentsFit w s a args = (¬ ActionApplies w s a args unknown) × (¬ ActionApplies w s a args arity) × (¬ ActionApplies w s a args argument_type)

-- the names of all objects
abbrev pub object_names : World → List Name
object_names w = map (λ o. o.name) w.objects

-- each object is of the type at its place
abbrev pub fits : World → List Typed → List Name → Bool
fits w [] [] = true
fits w (v ∷ vars) (o ∷ objects) = is_of w o v.of && fits w vars objects
fits w _ _ = false

-- each variable may be any object
abbrev pub AreWide : World → List Typed → Type 0
AreWide w vars = Every (λ v. objects_of w v.of ≡ object_names w) vars

-- What the monitors of the output's state tell of the source's states before the present one.
use Rattle.std.specs.Prelude.{◌≡◌, ◌↔◌, ◌⊎◌, ⊤, List, [], ◌∷◌, ◌++◌, flat_map, IsTrue}
use Rattle.up_text.specs.declared.name.Name.{Name}
use Rattle.up_text.specs.Lists.{Every, Somewhere, Member}
use Rattle.up_tree.specs.declared.formula.Formula.{Formula}
use Rattle.up_tree.specs.declared.problem.Parts.{Parts}
use Rattle.up_tree.specs.Objects.{world, unassigned}
use Rattle.up_tree.specs.State.{State}
use Rattle.up_tree.specs.Truth.{True}
use Rattle.semantics_laws.specs.Symbols.{predicate, AgreeOn}
use Rattle.trajectory_laws.specs.Trajectory.{Watch, always, sometime, at_most_once, sometime_after, sometime_before, monitors, watches}
use Rattle.trajectory_laws.specs.Memory.{is_set}

-- ---- lists of states, the oldest first

-- P held in one, and not in a later one
abbrev pub HeldAndCeased : (State → Type 0) → List State → Type 0
HeldAndCeased P [] = ⊥
HeldAndCeased P (s ∷ rest) = (P s × Somewhere (λ t. ¬ P t) rest) ⊎ HeldAndCeased P rest

-- P held in one, and Q neither there nor later
abbrev pub IsOwed : (State → Type 0) → (State → Type 0) → List State → Type 0
IsOwed P Q [] = ⊥
IsOwed P Q (s ∷ rest) = (P s × Every (λ t. ¬ Q t) (s ∷ rest)) ⊎ IsOwed P Q rest

-- ---- the relation

abbrev pub TrueIn : Parts → Formula → State → Type 0
TrueIn p f s = True (world p) s unassigned f

-- each monitor of the instance is true exactly where the source's states before the present one say so
abbrev pub Tells : Parts → List State → State → Watch → Type 0
Tells p past t (always f) = ⊤
Tells p past t (sometime f had) = IsTrue (is_set t had) ↔ Somewhere (TrueIn p f) past
Tells p past t (at_most_once f seen gone) =
    (IsTrue (is_set t seen) ↔ Somewhere (TrueIn p f) past) × (IsTrue (is_set t gone) ↔ HeldAndCeased (TrueIn p f) past)
Tells p past t (sometime_after f g due) = IsTrue (is_set t due) ↔ IsOwed (TrueIn p f) (TrueIn p g) past
Tells p past t (sometime_before f g was) = IsTrue (is_set t was) ↔ Somewhere (TrueIn p g) past

-- a state of the source and one of the output, after these states of the source
pub record AreRelated (p : Parts) (past : List State) (s t : State) : Type 0 where
  -- equal on all but the monitors
  pub same : AgreeOn (λ x. (m : Name) → Member m (flat_map monitors (watches p)) → ¬ (x ≡ predicate m)) s t
  pub tells : Every (Tells p past t) (watches p)

-- state by state
abbrev pub GoAlong : Parts → List State → List State → List State → Type 0
GoAlong p past [] [] = ⊤
GoAlong p past (s ∷ states) (t ∷ others) = AreRelated p past s t × GoAlong p (past ++ s ∷ []) states others
GoAlong p past _ _ = ⊥

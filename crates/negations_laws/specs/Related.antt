-- The states of a problem and of the one with twins that go along with one another.
use Rattle.std.specs.Prelude.{◌≡◌, ⊤, not as flip, List, [], ◌∷◌, map, Some, IsSome}
use Rattle.std.specs.FinSet as set
use Rattle.up_text.specs.declared.name.Name.{Name}
use Rattle.up_text.specs.Lists.{Member}
use Rattle.up_text.specs.Names.{same_name}
use Rattle.up_tree.specs.declared.problem.Parts.{Parts}
use Rattle.up_tree.specs.Objects.{named}
use Rattle.up_tree.specs.State.{State, ground}
use Rattle.up_tree.specs.WellFormed.{ObjectsFit}
use Rattle.semantics_laws.specs.Symbols.{Symbol, predicate, function, AgreeOn}
use Rattle.negations_laws.specs.Twins.{Twin, twins_in, differ_in}

-- a predicate of the problem, or a function
abbrev pub IsOld : Parts → Symbol → Type 0
IsOld p (predicate name) = Member name (map (λ d. d.name) p.predicates)
IsOld p (function f) = ⊤

pub record AreTwinned (p : Parts) (s t : State) : Type 0 where
  -- the same old atoms, numbers and values
  pub old : AgreeOn (IsOld p) s t
  -- a twin holds for a typed tuple exactly where the old atom doesn't
  pub twins : (x : Twin) → Member x (twins_in p) → (objects : List Name) → ObjectsFit p objects x.of.args →
      set.contains t.atoms (ground x.name objects) ≡ flip (set.contains s.atoms (ground x.of.name objects))
  -- `differ` holds exactly for different objects
  pub differ : (name : Name) → differ_in p ≡ Some name → (a b : Name) → IsSome (named p.objects a) → IsSome (named p.objects b) →
      set.contains t.atoms (ground name (a ∷ b ∷ [])) ≡ flip (same_name a b)

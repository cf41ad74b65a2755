-- Which states of a problem and of the one without types go along with one another.
use Rattle.std.specs.Prelude.{◌≡◌, ◌↔◌, List, [], ◌∷◌}
use Rattle.up_text.specs.declared.name.Name.{Name}
use Rattle.up_text.specs.Lists.{Somewhere, Member}
use Rattle.up_tree.specs.declared.problem.Parts.{Parts}
use Rattle.up_tree.specs.Objects.{world, objects_of}
use Rattle.up_tree.specs.State.{State, Holds, ground}
use Rattle.semantics_laws.specs.Symbols.{Symbol, predicate, AgreeOn}
use Rattle.types_laws.specs.Guards.{Guard, guards}

-- a predicate that stands for a type
abbrev pub IsGuard : Parts → Symbol → Type 0
IsGuard p x = Somewhere (λ g. x ≡ predicate g.predicate) (guards p)

pub record AreRelated (p : Parts) (s t : State) : Type 0 where
  -- equal on the source's atoms and terms
  pub same : AgreeOn (λ x. ¬ IsGuard p x) s t
  -- a new predicate holds exactly of the objects of its type
  pub guards_hold : (g : Guard) → Member g (guards p) → (args : List Name) →
      Holds t (ground g.predicate args) ↔ ((o : Name) × (args ≡ o ∷ []) × Member o (objects_of (world p) g.of))

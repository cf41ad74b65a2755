-- Oracles that tell what holds.
use Rattle.std.specs.Prelude.{◌≡◌, Bool, Some}
use Rattle.std.specs.FinSet as set
use Rattle.up_text.specs.Lists.{Somewhere}
use Rattle.up_tree.specs.declared.problem.Fact.{Fact}
use Rattle.up_tree.specs.declared.problem.Parts.{Parts}
use Rattle.up_tree.specs.State.{State, ground, init}
use Rattle.up_tree.specs.Simplify.{Oracle}
use Rattle.semantics_laws.specs.Symbols.{Symbol, predicate, target, AgreeOn}

-- whether the state holds the atom
abbrev pub holds : State → Fact → Bool
holds s fact = set.contains s.atoms (ground fact.predicate fact.args)

-- what the oracle tells of an atom is so in the state
abbrev pub IsTrueTo : State → Oracle → Type 0
IsTrueTo s oracle = (fact : Fact) (told : Bool) → oracle fact ≡ Some told → holds s fact ≡ told

-- some row of some action changes the predicate's atoms or the function's terms
abbrev pub IsChanged : Parts → Symbol → Type 0
IsChanged p x = Somewhere (λ a. Somewhere (λ row. x ≡ target row.effect) a.rows) p.actions

-- it tells of predicates that no row changes alone, by the initial atoms
pub record IsInitial (p : Parts) (oracle : Oracle) : Type 0 where
  pub unchanged : (fact : Fact) (told : Bool) → oracle fact ≡ Some told → ¬ IsChanged p (predicate fact.predicate)
  pub told : (fact : Fact) (told : Bool) → oracle fact ≡ Some told → holds (init p) fact ≡ told

-- the state is as the initial one on all that no row changes
abbrev pub IsUnchanged : Parts → State → Type 0
IsUnchanged p s = AgreeOn (λ x. ¬ IsChanged p x) (init p) s

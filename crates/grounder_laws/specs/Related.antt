-- The states of a problem and of its ground problem that go along with one another.
use Rattle.std.specs.Prelude.{◌≡◌, [], codes}
use Rattle.up_text.specs.declared.name.Name.{Name}
use Rattle.up_text.specs.Fresh.{fresh_name}
use Rattle.up_tree.specs.declared.problem.Parts.{Parts}
use Rattle.up_tree.specs.State.{State, Holds, ground}
use Rattle.condition_laws.specs.Oracles.{IsUnchanged}
use Rattle.compiling_laws.specs.Forms.{symbols}

-- the states are equal, and on what no row changes they are as the initial one
pub record AreSame (p : Parts) (s t : State) : Type 0 where
  pub same : s ≡ t
  pub static : IsUnchanged p s

-- the name that the goal rule makes
abbrev pub never_name : Parts → Name
never_name p = fresh_name (codes "never") (symbols p)

-- So are related states of the source and of the output: equal, what no row changes is as in the initial state, so that
-- each predicate that no row changes has its initial atoms, and `never` is false.
pub record AreRelated (p : Parts) (s t : State) : Type 0 where
  pub same : s ≡ t
  pub static : IsUnchanged p s
  pub never : ¬ Holds t (ground (never_name p) [])

-- States of a source and of what is finished that go along with one another.
use Rattle.std.specs.Prelude.{◌≡◌}
use Rattle.up_tree.specs.declared.problem.Parts.{Parts}
use Rattle.up_tree.specs.State.{State}
use Rattle.condition_laws.specs.Oracles.{IsUnchanged}

-- related by `R`, and on what no row of `r` changes the second is as the initial one
pub record StaysRelated (r : Parts) (R : State → State → Type 0) (s t : State) : Type 0 where
  pub related : R s t
  pub unchanged : IsUnchanged r t

-- one state
abbrev pub SameState : State → State → Type 0
SameState s t = s ≡ t

-- The states of a problem and of the one without conditional effects that go along with one another.
use Rattle.std.specs.Prelude.{◌≡◌}
use Rattle.up_tree.specs.State.{State}

-- they are equal
abbrev pub AreRelated : State → State → Type 0
AreRelated s t = s ≡ t

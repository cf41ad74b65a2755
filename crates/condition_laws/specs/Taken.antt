-- Actions that are taken as others are.
use Rattle.std.specs.Prelude.{◌≡◌, ◌↔◌, List}
use Rattle.up_text.specs.declared.name.Name.{Name}
use Rattle.up_tree.specs.declared.action.Action.{Action}
use Rattle.up_tree.specs.Objects.{World}
use Rattle.up_tree.specs.State.{State}
use Rattle.up_tree.specs.Instances.{firing}
use Rattle.up_tree.specs.Faults.{Fault, ActionApplies}

-- of one action the same faults apply and the same effects fire as of the other
pub record IsTakenAs (w : World) (s : State) (args : List Name) (b a : Action) : Type 0 where
  pub faults : (fault : Fault) → ActionApplies w s b args fault ↔ ActionApplies w s a args fault
  pub fires : firing w s b args ≡ firing w s a args

-- no fault applies
abbrev pub CanBeTaken : World → State → List Name → Action → Type 0
CanBeTaken w s args a = (fault : Fault) → ¬ ActionApplies w s a args fault

-- with any arguments, a well-formed action can be taken exactly where its simplified action is there and can be taken
pub record IsTakenWith (w : World) (s : State) (args : List Name) (b a : Action) : Type 0 where
  pub can : CanBeTaken w s args b ↔ CanBeTaken w s args a
  pub fires : CanBeTaken w s args b → firing w s b args ≡ firing w s a args

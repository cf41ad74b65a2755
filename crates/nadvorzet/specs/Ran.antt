-- How a run ends as a process.
use Rattle.std.specs.Prelude.{◌≡◌, ℕ, List, Option}
use Rattle.up_store.specs.Outside.{Files}
use Rattle.up_top.specs.declared.status.Status.{Status}
use Rattle.up_top.specs.Code.{status_code}
use Rattle.up_top.specs.Says.{PutsAnswer}

-- some status has this number, and the text of an answer with it was put
pub record Ran (words : List (List ℕ)) (held : Option Files) (before now : ℕ) (old new : Option (List ℕ)) (number : ℕ) : Type 0 where
  pub status : Status
  pub is : number ≡ status_code status
  pub put : PutsAnswer words held status before now old new

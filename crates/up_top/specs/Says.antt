-- What may be put at each status.
use Rattle.std.specs.Prelude.{◌≡◌, ⊤, ℕ, Bool, true, false, List, Option, None, Some, IfSome}
use Rattle.up_store.specs.Outside.{Files, Rose, written_with, GotPrefix}
use Rattle.up_top.specs.declared.command.Command.{Command}
use Rattle.up_top.specs.declared.answer.Answer.{Answer}
use Rattle.up_top.specs.declared.answer.Answer.TheVariants as answer
use Rattle.up_top.specs.declared.status.Status.{Status}
use Rattle.up_top.specs.declared.status.Status.TheVariants.{Done, WriteFault}
use Rattle.up_top.specs.Words.{command_of}
use Rattle.up_top.specs.Cause.{IsKind, IsPipeline, IsCompile, IsValidate, IsBack}
use Rattle.up_top.specs.Answers.{answer_text, status_of}
use Rattle.up_top.specs.Inputs.{Tells}

-- an answer is that of the command
abbrev pub IsOf : Option Command → Answer → Type 0
IsOf command (answer.Features kind) = IsKind command
IsOf command (answer.Chain chain) = IsPipeline command
IsOf command (answer.Actions count) = IsCompile command
IsOf command (answer.Judged verdict) = IsValidate command
IsOf command (answer.Unspelled place) = IsValidate command
IsOf command (answer.TooLarge number) = IsValidate command
IsOf command (answer.Converted conversion) = IsBack command
IsOf command answer = ⊤

-- the status after the put of an answer's text
abbrev pub ended : Status → Bool → Status
ended Done true = Done
ended Done false = WriteFault None
ended status put = status

-- A text was put, or a prefix of it where the sink failed. A put that failed makes done a write fault without a place.
pub data Puts (status : Status) (text : List ℕ) (before now : ℕ) (old new : Option (List ℕ)) : Type 0 where
  whole : ¬ (status ≡ WriteFault None) → new ≡ written_with text old → Puts status text before now old new
  prefix : ¬ (status ≡ Done) → Rose before now → GotPrefix text old new → Puts status text before now old new

-- The text of an answer was put, which is one of the command, has the status and holds of the held texts.
pub record PutsAnswer (words : List (List ℕ)) (held : Option Files) (status : Status) (before now : ℕ) (old new : Option (List ℕ)) : Type 0 where
  pub answer : Answer
  pub put_whole : Bool
  pub of : IsOf (command_of words) answer
  pub is : status ≡ ended (status_of answer) put_whole
  pub tells : IfSome held (Tells words answer)
  pub put : Puts status (answer_text words answer) before now old new

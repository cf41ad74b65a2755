-- When each status comes.
use Rattle.std.specs.Prelude.{◌≡◌, ℕ, zero, suc, ◌≤◌, ◌<◌, List, length, Option, None, Some, IsSomeAnd, ⊤}
use Rattle.up_store.specs.Outside.{Files, Rose, input_limit}
use Rattle.up_top.specs.declared.command.Command.{Command}
use Rattle.up_top.specs.declared.command.Command.TheVariants.{Kind, Pipeline, Compile, Validate, Back}
use Rattle.up_top.specs.declared.status.Status.{Status}
use Rattle.up_top.specs.declared.status.Status.TheVariants.{Done, Usage, Memory, Missing, ReadFault, WriteFault, DomainRefused, ProblemRefused, EngineRefused, NoPipeline, MapRefused, PlanRefused, PlanUnfit, PlanInvalid, NumberTooLarge, InputTooLarge}
use Rattle.up_top.specs.Words.{word_at, command_of}

-- the place behind the inputs of a command; the first input stands at place 1
abbrev pub inputs_end : Option Command → ℕ
inputs_end (Some Kind) = 3
inputs_end (Some Back) = 5
inputs_end command = 4

-- the text of the input at a place, which is held and not too long
abbrev pub IsHeld : List (List ℕ) → ℕ → List ℕ → Files → Type 0
IsHeld words at text files = (files (word_at words at) ≡ Some text) × (length text ≤ input_limit)

-- the count of a name rose
abbrev pub RoseAt : {S : Type 0} → (S → List ℕ → ℕ) → S → S → List ℕ → Type 0
RoseAt count old new name = Rose (count old name) (count new name)

-- a read that stopped raised the count of its name
abbrev pub ReadCause : {S : Type 0} (faults misses larges : S → List ℕ → ℕ) → List (List ℕ) → S → S → Status → Type 0
ReadCause faults misses larges words old new (Missing at) = RoseAt misses old new (word_at words at)
ReadCause faults misses larges words old new (ReadFault at) = RoseAt faults old new (word_at words at)
ReadCause faults misses larges words old new (InputTooLarge at) = RoseAt larges old new (word_at words at)
ReadCause faults misses larges words old new status = ⊤

-- what a told store holds under the name at which a read stopped
abbrev pub StopsAt : List (List ℕ) → Status → Files → Type 0
StopsAt words (Missing at) files = files (word_at words at) ≡ None
StopsAt words (InputTooLarge at) files = IsSomeAnd (files (word_at words at)) (λ text. input_limit < length text)
StopsAt words status files = ⊤

-- the statuses at which the read of a place stops
abbrev pub IsReadStop : ℕ → Status → Type 0
IsReadStop place (Missing at) = at ≡ place
IsReadStop place (ReadFault at) = at ≡ place
IsReadStop place (InputTooLarge at) = at ≡ place
IsReadStop place Memory = ⊤
IsReadStop place status = ⊥

-- the input at a place is held and not too long
abbrev pub IsReadable : List (List ℕ) → ℕ → Files → Type 0
IsReadable words at files = IsSomeAnd (files (word_at words at)) (λ text. length text ≤ input_limit)

-- the inputs before a place are held and not too long
abbrev pub AreReadable : List (List ℕ) → ℕ → Files → Type 0
AreReadable words zero files = ⊤
AreReadable words (suc zero) files = ⊤
AreReadable words (suc (suc at)) files = AreReadable words (suc at) files × IsReadable words (suc at) files

-- an input at which a run stops is the first that can't be read
abbrev pub FirstStop : List (List ℕ) → Status → Files → Type 0
FirstStop words (Missing at) files = AreReadable words at files
FirstStop words (ReadFault at) files = AreReadable words at files
FirstStop words (InputTooLarge at) files = AreReadable words at files
FirstStop words status files = ⊤

-- A run that stops at an input stops at the first that can't be read, and one that stops behind the inputs has read
-- them all.
abbrev pub StopsFirst : List (List ℕ) → Status → Files → Type 0
StopsFirst words (Missing at) files = AreReadable words at files
StopsFirst words (ReadFault at) files = AreReadable words at files
StopsFirst words (InputTooLarge at) files = AreReadable words at files
StopsFirst words Usage files = ⊤
StopsFirst words Memory files = ⊤
StopsFirst words status files = AreReadable words (inputs_end (command_of words)) files

-- the statuses at which the reads of the places before an end stop
abbrev pub IsInputStop : ℕ → Status → Type 0
IsInputStop end (Missing at) = (1 ≤ at) × (at < end)
IsInputStop end (ReadFault at) = (1 ≤ at) × (at < end)
IsInputStop end (InputTooLarge at) = (1 ≤ at) × (at < end)
IsInputStop end Memory = ⊤
IsInputStop end status = ⊥

-- the statuses at which the reading of a problem stops
abbrev pub IsReadRefusal : Status → Type 0
IsReadRefusal Memory = ⊤
IsReadRefusal DomainRefused = ⊤
IsReadRefusal ProblemRefused = ⊤
IsReadRefusal status = ⊥

-- the statuses at which the texts of the inputs are refused
abbrev pub IsRefusal : Status → Type 0
IsRefusal Memory = ⊤
IsRefusal DomainRefused = ⊤
IsRefusal ProblemRefused = ⊤
IsRefusal EngineRefused = ⊤
IsRefusal NoPipeline = ⊤
IsRefusal MapRefused = ⊤
IsRefusal PlanRefused = ⊤
IsRefusal PlanUnfit = ⊤
IsRefusal PlanInvalid = ⊤
IsRefusal NumberTooLarge = ⊤
IsRefusal status = ⊥

-- the statuses of writes at the places from first to last
abbrev pub IsWriteStatus : ℕ → ℕ → Status → Type 0
IsWriteStatus first last Done = ⊤
IsWriteStatus first last Memory = ⊤
IsWriteStatus first last (WriteFault (Some at)) = (first ≤ at) × (at ≤ last)
IsWriteStatus first last status = ⊥

-- a write that failed raised the count of its name
abbrev pub WriteCause : {S : Type 0} (losses : S → List ℕ → ℕ) → List (List ℕ) → S → S → Status → Type 0
WriteCause losses words old new (WriteFault (Some at)) = RoseAt losses old new (word_at words at)
WriteCause losses words old new status = ⊤

abbrev pub IsKind : Option Command → Type 0
IsKind (Some Kind) = ⊤
IsKind command = ⊥

abbrev pub IsPipeline : Option Command → Type 0
IsPipeline (Some Pipeline) = ⊤
IsPipeline command = ⊥

abbrev pub IsCompile : Option Command → Type 0
IsCompile (Some (Compile limit)) = ⊤
IsCompile command = ⊥

abbrev pub IsValidate : Option Command → Type 0
IsValidate (Some Validate) = ⊤
IsValidate command = ⊥

abbrev pub IsBack : Option Command → Type 0
IsBack (Some Back) = ⊤
IsBack command = ⊥

-- the commands that write outputs
abbrev pub HasOutputs : Option Command → Type 0
HasOutputs (Some (Compile limit)) = ⊤
HasOutputs (Some Back) = ⊤
HasOutputs command = ⊥

-- an output of the command stands at a place
abbrev pub IsOutput : Option Command → ℕ → Type 0
IsOutput (Some (Compile limit)) at = (4 ≤ at) × (at ≤ 6)
IsOutput (Some Back) at = at ≡ 5
IsOutput command at = ⊥

-- the commands that read an engine
abbrev pub HasEngine : Option Command → Type 0
HasEngine (Some Pipeline) = ⊤
HasEngine (Some (Compile limit)) = ⊤
HasEngine command = ⊥

-- the commands that read a plan
abbrev pub HasPlan : Option Command → Type 0
HasPlan (Some Validate) = ⊤
HasPlan (Some Back) = ⊤
HasPlan command = ⊥

-- a third text, an engine's, a plan's or a map's, is read by all commands but `kind`
abbrev pub HasThird : Option Command → Type 0
HasThird (Some Pipeline) = ⊤
HasThird (Some (Compile limit)) = ⊤
HasThird (Some Validate) = ⊤
HasThird (Some Back) = ⊤
HasThird command = ⊥

-- the statuses at which a command over texts that can be read ends, where nothing fails
abbrev pub IsOutcome : Option Command → Status → Type 0
IsOutcome command Done = ⊤
IsOutcome command Memory = ⊤
IsOutcome command DomainRefused = ⊤
IsOutcome command ProblemRefused = ⊤
IsOutcome command EngineRefused = HasEngine command
IsOutcome command NoPipeline = HasEngine command
IsOutcome command MapRefused = IsBack command
IsOutcome command PlanRefused = HasPlan command
IsOutcome command PlanUnfit = IsBack command
IsOutcome command PlanInvalid = HasPlan command
IsOutcome command NumberTooLarge = HasPlan command
IsOutcome command status = ⊥

-- The statuses of a command, and the places that they carry: that of an input, or of an output where a write failed.
abbrev pub IsPlaced : Option Command → Status → Type 0
IsPlaced command Done = ⊤
IsPlaced command Usage = ⊤
IsPlaced command Memory = ⊤
IsPlaced command (Missing at) = (1 ≤ at) × (at < inputs_end command)
IsPlaced command (ReadFault at) = (1 ≤ at) × (at < inputs_end command)
IsPlaced command (InputTooLarge at) = (1 ≤ at) × (at < inputs_end command)
IsPlaced command (WriteFault None) = ⊤
IsPlaced command (WriteFault (Some at)) = IsOutput command at
IsPlaced command DomainRefused = ⊤
IsPlaced command ProblemRefused = ⊤
IsPlaced command EngineRefused = HasEngine command
IsPlaced command NoPipeline = HasEngine command
IsPlaced command MapRefused = IsBack command
IsPlaced command PlanRefused = HasPlan command
IsPlaced command PlanUnfit = IsBack command
IsPlaced command PlanInvalid = HasPlan command
IsPlaced command NumberTooLarge = HasPlan command
IsPlaced command status = ⊥

-- the count of no input's name rose
abbrev pub NoInputRose : {S : Type 0} → (S → List ℕ → ℕ) → List (List ℕ) → S → S → Type 0
NoInputRose count words old new =
    (at : ℕ) → 1 ≤ at → at < inputs_end (command_of words) → ¬ RoseAt count old new (word_at words at)

-- the count of no output's name rose
abbrev pub NoOutputRose : {S : Type 0} → (S → List ℕ → ℕ) → List (List ℕ) → S → S → Type 0
NoOutputRose count words old new = (at : ℕ) → IsOutput (command_of words) at → ¬ RoseAt count old new (word_at words at)

-- the inputs can be read, and neither a read, a write nor a put failed
pub record AllWell {S : Type 0} (faults losses : S → List ℕ → ℕ) (words : List (List ℕ)) (old new : S) (before now : ℕ) (files : Files) : Type 0 where
  pub readable : AreReadable words (inputs_end (command_of words)) files
  pub reads : NoInputRose faults words old new
  pub writes : NoOutputRose losses words old new
  pub puts : ¬ Rose before now

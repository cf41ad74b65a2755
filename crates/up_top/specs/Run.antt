-- What a run leaves in the store.
use Rattle.std.specs.Prelude.{◌≡◌, ◌⊎◌, ◌<◌, ⊤, ℕ, length, List, [], ◌∷◌, Option, None, Some, IfSome, Result, Ok, Err}
use Rattle.up_store.specs.Outside.{Files, held_with, written_with, KeepsOrCuts}
use Rattle.up_eval.specs.declared.metric.Value.{Value}
use Rattle.up_tree.specs.declared.problem.Plan.{Plan}
use Rattle.up_validate.specs.declared.verdict.Verdict.TheVariants as verdict
use Rattle.up_validate.specs.Verdicts.{IsVerdict}
use Rattle.plan_text.specs.Texts.{plan_text}
use Rattle.up_compiler.specs.Identity.{identity_entries}
use Rattle.up_tree.specs.declared.problem.Parts.{Parts}
use Rattle.up_map.specs.declared.map.Map.{Map}
use Rattle.up_map.specs.Spells.{MapText}
use Rattle.up_map.specs.Texts.{map_text}
use Rattle.pddl_write.specs.Files.{domain_text, problem_text}
use Rattle.up_top.specs.declared.command.Command.{Command}
use Rattle.up_top.specs.declared.answer.Answer.{Answer}
use Rattle.up_top.specs.declared.answer.Answer.TheVariants as answer
use Rattle.up_top.specs.declared.answer.Conversion.TheVariants as conversion
use Rattle.up_top.specs.declared.answer.Stop.{Stop}
use Rattle.up_top.specs.declared.status.Status.{Status}
use Rattle.up_top.specs.declared.status.Status.TheVariants.{Done, Memory, Missing, ReadFault, WriteFault, InputTooLarge}
use Rattle.up_top.specs.Words.{word_at, command_of}
use Rattle.up_top.specs.Answers.{stop_status, actions_text}
use Rattle.up_top.specs.Verdicts.{verdict_text}
use Rattle.up_top.specs.Cause.{IsCompile, IsBack, HasOutputs}
use Rattle.up_top.specs.Inputs.{AreFour, AreInputs, AreReadAs, IsChosen, OfMade}

-- a text under the output name at a place of the words
pub record Output : Type 0 where
  pub place : ℕ
  pub text : List ℕ

-- what is held once these outputs are written in their order
abbrev pub held_after : List (List ℕ) → List Output → Option Files → Option Files
held_after words [] held = held
held_after words (output ∷ outputs) held =
    held_after words outputs (held_with (word_at words output.place) output.text held)

-- the three outputs with these texts
abbrev pub outputs_of : List ℕ → List ℕ → List ℕ → List Output
outputs_of domain problem map =
    record { place = 4; text = domain } ∷ record { place = 5; text = problem } ∷ record { place = 6; text = map } ∷ []

-- the first outputs in their order are written whole, and the others are as before
abbrev pub SomeWritten : List (List ℕ) → List Output → Option Files → Option Files → Type 0
SomeWritten words [] old new = new ≡ old
SomeWritten words (output ∷ outputs) old new =
    (new ≡ old) ⊎ SomeWritten words outputs (held_with (word_at words output.place) output.text old) new

-- The write at this place failed: the outputs before it are whole, its own is as before or a prefix, and those
-- behind it are as before.
abbrev pub FailsAt : List (List ℕ) → List Output → Option Files → Option Files → ℕ → Type 0
FailsAt words [] old new at = ⊥
FailsAt words (output ∷ outputs) old new at =
    ((at ≡ output.place) × KeepsOrCuts (word_at words at) output.text old new)
    ⊎ FailsAt words outputs (held_with (word_at words output.place) output.text old) new at

-- what is held after each status, where the outputs of status 0 are these
abbrev pub HeldAfter : List (List ℕ) → List Output → Option Files → Option Files → Status → Type 0
HeldAfter words outputs old new Done = new ≡ held_after words outputs old
HeldAfter words outputs old new Memory = SomeWritten words outputs old new
HeldAfter words outputs old new (WriteFault None) = new ≡ held_after words outputs old
HeldAfter words outputs old new (WriteFault (Some at)) = FailsAt words outputs old new at
HeldAfter words outputs old new status = new ≡ old

-- a problem that no compiler changed, and its map
pub record IsWhole (engine : List ℕ) (problem : Parts) (map : Map) : Type 0 where
  pub chosen : IsChosen engine problem map.stages.stages
  pub kept : map.back ≡ identity_entries problem.actions

-- The texts of the problem that the held texts read as, and of its map, whose chain is chosen for the held engine text. The
-- map's text spells the map.
pub record AreOutputs (words : List (List ℕ)) (held : Option Files) (problem : Parts) (outputs : List Output) : Type 0 where
  pub domain : List ℕ
  pub source : List ℕ
  pub engine : List ℕ
  pub holds : IfSome held (AreInputs words domain source engine)
  pub reads : AreReadAs domain source problem
  pub map : Map
  pub whole : IsWhole engine problem map
  pub spelled : MapText (map_text map) map
  pub texts : outputs ≡ outputs_of (domain_text problem) (problem_text problem) (map_text map)

-- the status of the writes
abbrev pub write_status : {T : Type 0} → Result T Stop → Status
write_status (Ok done) = Done
write_status (Err stop) = stop_status stop

-- The statuses at which nothing is written: all but those of a command with outputs that is done or whose write or
-- put failed.
abbrev pub KeepsHeld : Option Command → Status → Type 0
KeepsHeld command Done = ¬ HasOutputs command
KeepsHeld command (WriteFault at) = ¬ HasOutputs command
KeepsHeld command status = ⊤

-- the plan is valid for the problem with this metric, and this is its text
pub record IsWritten (metric : Value) (text : List ℕ) (parts : Parts) (made : Plan) : Type 0 where
  pub valid : IsVerdict parts made (verdict.Valid metric)
  pub written : text ≡ plan_text made

-- The text of the plan that the held map makes of the held plan, and that is valid for the problem of the held texts.
pub record IsCarried (words : List (List ℕ)) (held : Option Files) (metric : Value) (text : List ℕ) : Type 0 where
  pub domain : List ℕ
  pub problem : List ℕ
  pub map : List ℕ
  pub plan : List ℕ
  pub holds : IfSome held (AreFour words domain problem map plan)
  pub of : OfMade domain problem map plan (IsWritten metric text)

-- what is held after each status of `back`, where this is the text of its output
abbrev pub HeldBack : List (List ℕ) → List ℕ → Option Files → Option Files → Status → Type 0
HeldBack words text old new Done = new ≡ held_with (word_at words 5) text old
HeldBack words text old new (WriteFault None) = new ≡ held_with (word_at words 5) text old
HeldBack words text old new (WriteFault (Some at)) = KeepsOrCuts (word_at words 5) text old new
HeldBack words text old new status = new ≡ old

-- what a run leaves: all as it was, or what comes of the writes of a problem and its map, or of a converted plan
pub data Leaves (words : List (List ℕ)) (old new : Option Files) (status : Status) : Type 0 where
  untouched : KeepsHeld (command_of words) status → new ≡ old → Leaves words old new status
  wrote : (outputs : List Output) (problem : Parts) → IsCompile (command_of words) → AreOutputs words old problem outputs
      → HeldAfter words outputs old new status → Leaves words old new status
  carried : (metric : Value) (text : List ℕ) → IsBack (command_of words) → IsCarried words old metric text
      → HeldBack words text old new status → Leaves words old new status

-- A compile that is done: the texts of the problem and its map are held, and this is the number of its actions.
pub record Compiles (words : List (List ℕ)) (old new : Option Files) (count : ℕ) : Type 0 where
  pub problem : Parts
  pub outputs : List Output
  pub are : AreOutputs words old problem outputs
  pub held : new ≡ held_after words outputs old
  pub counted : count ≡ length problem.actions

-- the same of an answer that tells how many actions were compiled
abbrev pub CompilesAt : List (List ℕ) → Option Files → Option Files → Answer → Type 0
CompilesAt words old new (answer.Actions count) = Compiles words old new count
CompilesAt words old new answer = ⊤

-- What a compile that is done holds and puts.
pub record CompilesDone (words : List (List ℕ)) (old new : Option Files) (before now : Option (List ℕ)) : Type 0 where
  pub count : ℕ
  pub compiles : Compiles words old new count
  pub put : now ≡ written_with (actions_text count) before

-- A `back` that is done: the text of the converted plan is held, which is valid with this metric.
pub record Carries (words : List (List ℕ)) (old new : Option Files) (metric : Value) : Type 0 where
  pub text : List ℕ
  pub is : IsCarried words old metric text
  pub held : new ≡ held_with (word_at words 5) text old

-- the same of an answer that tells that a converted plan is valid
abbrev pub CarriesAt : List (List ℕ) → Option Files → Option Files → Answer → Type 0
CarriesAt words old new (answer.Converted (conversion.Judged (verdict.Valid metric))) = Carries words old new metric
CarriesAt words old new answer = ⊤

-- What a `back` that is done holds and puts.
pub record CarriesDone (words : List (List ℕ)) (old new : Option Files) (before now : Option (List ℕ)) : Type 0 where
  pub metric : Value
  pub carries : Carries words old new metric
  pub put : now ≡ written_with (verdict_text (verdict.Valid metric)) before

-- a name stands at each place that a status carries
abbrev pub HasPlace : List (List ℕ) → Status → Type 0
HasPlace words (Missing at) = at < length words
HasPlace words (ReadFault at) = at < length words
HasPlace words (InputTooLarge at) = at < length words
HasPlace words status = ⊤

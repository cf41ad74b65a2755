-- Writes of outputs that follow one another.
use Rattle.std.proofs.Common.{◌≡◌, inl, inr, ℕ, List, [], ◌∷◌, Option, None, Some, Result, Ok, Err, refl}
use Rattle.std.specs.Prelude.{IfSome, IsErrAnd, length}
use Rattle.up_store.specs.Outside.{Files, held_with}
use Rattle.up_top.specs.declared.answer.Stop.{Stop}
use Rattle.up_top.specs.declared.answer.Stop.TheVariants as stop
use Rattle.up_top.specs.declared.status.Status.{Status}
use Rattle.up_top.specs.declared.status.Status.TheVariants.{Done, Usage, Memory, Missing, ReadFault, WriteFault, DomainRefused, ProblemRefused, EngineRefused, NoPipeline, TooMany, MapRefused, PlanRefused, PlanUnfit, PlanInvalid, NumberTooLarge, InputTooLarge}
use Rattle.up_top.specs.Words.{word_at, command_of}
use Rattle.up_tree.specs.declared.problem.Parts.{Parts}
use Rattle.up_map.specs.declared.map.Map.{Map}
use Rattle.up_map.specs.Spells.{MapText}
use Rattle.up_map.specs.Texts.{map_text}
use Rattle.pddl_write.specs.Files.{domain_text, problem_text}
use Rattle.up_top.specs.Run.{Output, SomeWritten, HeldAfter, Leaves, IsWhole, Compiles, outputs_of, held_after, write_status}
use Rattle.up_top.specs.Cause.{IsWriteStatus, IsCompile}
use Rattle.up_top.specs.Inputs.{AreReadAs, AreInputs}
use Rattle.up_top.specs.Answers.{stop_status}

none_written : (words : List (List ℕ)) (outputs : List Output) (old new : Option Files) → new ≡ old → SomeWritten words outputs old new
none_written words [] old new same = same
none_written words (output ∷ outputs) old new same = inl same

-- a write that stops ends the writes
pub stops : (words : List (List ℕ)) (output : Output) (outputs : List Output) (old new : Option Files) (stop : Stop) (first last : ℕ)
    → HeldAfter words (output ∷ []) old new (stop_status stop) → IsWriteStatus first last (stop_status stop)
    → HeldAfter words (output ∷ outputs) old new (stop_status stop)
stops words output outputs old new stop.Memory first last held kind =
    elim held [ inl same ↦ inl same | inr same ↦ inr (none_written words outputs _ new same) ]
stops words output outputs old new (stop.WriteFault at) first last held kind =
    elim held [ inl here ↦ inl here | inr behind ↦ absurd behind ]
stops words output outputs old new stop.Usage first last held kind = held
stops words output outputs old new (stop.Missing at) first last held kind = held
stops words output outputs old new (stop.ReadFault at) first last held kind = held
stops words output outputs old new stop.NoPipeline first last held kind = held
stops words output outputs old new (stop.InputTooLarge at) first last held kind = held

-- the same of a result that hands the stop on
pub stops_at : (words : List (List ℕ)) (output : Output) (outputs : List Output) (old new : Option Files) (r : Result Unit Stop) (stop : Stop) (first last : ℕ)
    → IsErrAnd r (λ e. e ≡ stop) → HeldAfter words (output ∷ []) old new (stop_status stop) → IsWriteStatus first last (stop_status stop)
    → HeldAfter words (output ∷ outputs) old new (write_status r)
stops_at words output outputs old new (Ok u) stop first last same held kind = absurd same
stops_at words output outputs old new (Err e) stop first last same held kind = rw same (stops words output outputs old new stop first last held kind)

-- after a write that was done the others go on
pub goes_on : (words : List (List ℕ)) (output : Output) (outputs : List Output) (old mid new : Option Files) (status : Status) (first last : ℕ)
    → mid ≡ held_with (word_at words output.place) output.text old
    → HeldAfter words outputs mid new status → IsWriteStatus first last status
    → HeldAfter words (output ∷ outputs) old new status
goes_on words output outputs old mid new Done first last done held kind = rw (← done) held
goes_on words output outputs old mid new Memory first last done held kind = rw (← done) (inr held)
goes_on words output outputs old mid new (WriteFault None) first last done held kind = absurd kind
goes_on words output outputs old mid new (WriteFault (Some at)) first last done held kind = rw (← done) (inr held)
goes_on words output outputs old mid new Usage first last done held kind = absurd kind
goes_on words output outputs old mid new (Missing at) first last done held kind = absurd kind
goes_on words output outputs old mid new (ReadFault at) first last done held kind = absurd kind
goes_on words output outputs old mid new (InputTooLarge at) first last done held kind = absurd kind
goes_on words output outputs old mid new DomainRefused first last done held kind = absurd kind
goes_on words output outputs old mid new ProblemRefused first last done held kind = absurd kind
goes_on words output outputs old mid new EngineRefused first last done held kind = absurd kind
goes_on words output outputs old mid new NoPipeline first last done held kind = absurd kind
goes_on words output outputs old mid new TooMany first last done held kind = absurd kind
goes_on words output outputs old mid new MapRefused first last done held kind = absurd kind
goes_on words output outputs old mid new PlanRefused first last done held kind = absurd kind
goes_on words output outputs old mid new PlanUnfit first last done held kind = absurd kind
goes_on words output outputs old mid new PlanInvalid first last done held kind = absurd kind
goes_on words output outputs old mid new NumberTooLarge first last done held kind = absurd kind

-- what comes of the writes of a problem and its map
pub wrote : (words : List (List ℕ)) (old new : Option Files) (status : Status) (problem : Parts) (map : Map) (domain_bytes problem_bytes map_bytes : List ℕ)
    → IsCompile (command_of words) → (domain source engine : List ℕ) → IfSome old (AreInputs words domain source engine) → AreReadAs domain source problem
    → IsWhole engine problem map → MapText map_bytes map
    → domain_bytes ≡ domain_text problem → problem_bytes ≡ problem_text problem → map_bytes ≡ map_text map
    → HeldAfter words (outputs_of domain_bytes problem_bytes map_bytes) old new status
    → Leaves words old new status
wrote words old new status problem map domain_bytes problem_bytes map_bytes has domain source engine holds reads whole spelled same_domain same_problem same_map held =
    Leaves.wrote (outputs_of (domain_text problem) (problem_text problem) (map_text map)) problem has
    (record { domain = domain; source = source; engine = engine; holds = holds; reads = reads; map = map; whole = whole; spelled = rw same_map at spelled; texts = refl })
    (rw (← same_domain) (rw (← same_problem) (rw (← same_map) held)))

-- the writes of a problem and its map that are done
pub compiles : (words : List (List ℕ)) (old new : Option Files) (problem : Parts) (map : Map) (domain_bytes problem_bytes map_bytes : List ℕ)
    → (domain source engine : List ℕ) → IfSome old (AreInputs words domain source engine) → AreReadAs domain source problem → IsWhole engine problem map
    → MapText map_bytes map
    → domain_bytes ≡ domain_text problem → problem_bytes ≡ problem_text problem → map_bytes ≡ map_text map
    → new ≡ held_after words (outputs_of domain_bytes problem_bytes map_bytes) old
    → Compiles words old new (length problem.actions)
compiles words old new problem map domain_bytes problem_bytes map_bytes domain source engine holds reads whole spelled same_domain same_problem same_map held =
    record {
      problem = problem;
      outputs = outputs_of (domain_text problem) (problem_text problem) (map_text map);
      are = record { domain = domain; source = source; engine = engine; holds = holds; reads = reads; map = map; whole = whole; spelled = rw same_map at spelled; texts = refl };
      held = rw (← same_domain) (rw (← same_problem) (rw (← same_map) held));
      counted = refl;
    }

pub ruleset writes = (stops, goes_on)

-- A run of which nothing fails is done, refuses a text or wants memory.
use Rattle.std.proofs.Common.{◌≡◌, ℕ, zero, suc, ◌≤◌, ◌<◌, true, List, length, Option, None, Some, refl, arith}
use Rattle.std.specs.Prelude.{IfSome, IsSomeAnd, ◌↔◌, is_some}
use Rattle.std.proofs.lemmas.Bool.{false≢true}
use Rattle.up_store.specs.Outside.{Files, Rose, input_limit}
use Rattle.up_top.specs.declared.command.Command.{Command}
use Rattle.up_top.specs.declared.command.Command.TheVariants as command
use Rattle.up_top.specs.declared.status.Status.{Status}
use Rattle.up_top.specs.declared.status.Status.TheVariants.{Done, Usage, Memory, Missing, ReadFault, WriteFault, DomainRefused, ProblemRefused, EngineRefused, NoPipeline, TooMany, MapRefused, PlanRefused, PlanUnfit, PlanInvalid, NumberTooLarge, InputTooLarge}
use Rattle.up_top.specs.Words.{word_at, command_of}
use Rattle.up_top.specs.Cause.{ReadCause, WriteCause, StopsAt, IsPlaced, IsReadable, AreReadable, AllWell, IsOutcome, inputs_end}

two_readable : (words : List (List ℕ)) (files : Files) (at : ℕ) → AreReadable words 3 files → 1 ≤ at → at < 3 → IsReadable words at files
two_readable words files zero all some few = absurd (omega arith)
two_readable words files (suc zero) all some few = all.0.1
two_readable words files (suc (suc zero)) all some few = all.1
two_readable words files (suc (suc (suc at))) all some few = absurd (omega arith)

three_readable : (words : List (List ℕ)) (files : Files) (at : ℕ) → AreReadable words 4 files → 1 ≤ at → at < 4 → IsReadable words at files
three_readable words files zero all some few = absurd (omega arith)
three_readable words files (suc zero) all some few = all.0.0.1
three_readable words files (suc (suc zero)) all some few = all.0.1
three_readable words files (suc (suc (suc zero))) all some few = all.1
three_readable words files (suc (suc (suc (suc at)))) all some few = absurd (omega arith)

four_readable : (words : List (List ℕ)) (files : Files) (at : ℕ) → AreReadable words 5 files → 1 ≤ at → at < 5 → IsReadable words at files
four_readable words files zero all some few = absurd (omega arith)
four_readable words files (suc zero) all some few = all.0.0.0.1
four_readable words files (suc (suc zero)) all some few = all.0.0.1
four_readable words files (suc (suc (suc zero))) all some few = all.0.1
four_readable words files (suc (suc (suc (suc zero)))) all some few = all.1
four_readable words files (suc (suc (suc (suc (suc at))))) all some few = absurd (omega arith)

readable_at : (command : Option Command) (words : List (List ℕ)) (files : Files) (at : ℕ) → AreReadable words (inputs_end command) files → 1 ≤ at → at < inputs_end command
    → IsReadable words at files
readable_at None words files at all some few = three_readable words files at all some few
readable_at (Some command.Kind) words files at all some few = two_readable words files at all some few
readable_at (Some command.Pipeline) words files at all some few = three_readable words files at all some few
readable_at (Some (command.Compile limit)) words files at all some few = three_readable words files at all some few
readable_at (Some command.Validate) words files at all some few = three_readable words files at all some few
readable_at (Some command.Back) words files at all some few = four_readable words files at all some few

none_is_not_readable : (file : Option (List ℕ)) → file ≡ None → IsSomeAnd file (λ text. length text ≤ input_limit) → ⊥
none_is_not_readable None is readable = readable
none_is_not_readable (Some text) is readable = cc

not_both : (file : Option (List ℕ)) → IsSomeAnd file (λ text. input_limit < length text) → IsSomeAnd file (λ text. length text ≤ input_limit) → ⊥
not_both None large readable = large
not_both (Some text) large readable = omega arith

none_is_no_command : (command : Option Command) → command ≡ None → is_some command ≡ true → ⊥
none_is_no_command None is fit = false≢true fit
none_is_no_command (Some command) is fit = cc

well : {S : Type 0} (faults misses larges losses : S → List ℕ → ℕ) (words : List (List ℕ)) (old new : S) (before now : ℕ) (files : Files) (status : Status)
    → ((status ≡ Usage) ↔ (command_of words ≡ None)) → IsPlaced (command_of words) status → ReadCause faults misses larges words old new status → WriteCause losses words old new status
    → (status ≡ WriteFault None → Rose before now) → StopsAt words status files → is_some (command_of words) ≡ true
    → AllWell faults losses words old new before now files → IsOutcome (command_of words) status
well faults misses larges losses words old new before now files Done usage placed read write put stops fit all = tt
well faults misses larges losses words old new before now files Memory usage placed read write put stops fit all = tt
well faults misses larges losses words old new before now files DomainRefused usage placed read write put stops fit all = tt
well faults misses larges losses words old new before now files ProblemRefused usage placed read write put stops fit all = tt
well faults misses larges losses words old new before now files EngineRefused usage placed read write put stops fit all = placed
well faults misses larges losses words old new before now files NoPipeline usage placed read write put stops fit all = placed
well faults misses larges losses words old new before now files TooMany usage placed read write put stops fit all = absurd placed
well faults misses larges losses words old new before now files MapRefused usage placed read write put stops fit all = placed
well faults misses larges losses words old new before now files PlanRefused usage placed read write put stops fit all = placed
well faults misses larges losses words old new before now files PlanUnfit usage placed read write put stops fit all = placed
well faults misses larges losses words old new before now files PlanInvalid usage placed read write put stops fit all = placed
well faults misses larges losses words old new before now files NumberTooLarge usage placed read write put stops fit all = placed
well faults misses larges losses words old new before now files Usage usage placed read write put stops fit all = absurd (none_is_no_command (command_of words) (usage.0 refl) fit)
well faults misses larges losses words old new before now files (Missing at) usage placed read write put stops fit all =
    absurd (none_is_not_readable (files (word_at words at)) stops (readable_at (command_of words) words files at all.readable placed.0 placed.1))
well faults misses larges losses words old new before now files (ReadFault at) usage placed read write put stops fit all =
    absurd (all.reads at placed.0 placed.1 read)
well faults misses larges losses words old new before now files (WriteFault None) usage placed read write put stops fit all = absurd (all.puts (put refl))
well faults misses larges losses words old new before now files (WriteFault (Some at)) usage placed read write put stops fit all = absurd (all.writes at placed write)
well faults misses larges losses words old new before now files (InputTooLarge at) usage placed read write put stops fit all =
    absurd (not_both (files (word_at words at)) stops (readable_at (command_of words) words files at all.readable placed.0 placed.1))

-- the same of a store that may not tell
pub well_told : {S : Type 0} (faults misses larges losses : S → List ℕ → ℕ) (words : List (List ℕ)) (old new : S) (before now : ℕ) (held : Option Files) (status : Status)
    → ((status ≡ Usage) ↔ (command_of words ≡ None)) → IsPlaced (command_of words) status → ReadCause faults misses larges words old new status → WriteCause losses words old new status
    → (status ≡ WriteFault None → Rose before now) → IfSome held (StopsAt words status) → is_some (command_of words) ≡ true
    → IfSome held (λ files. AllWell faults losses words old new before now files → IsOutcome (command_of words) status)
well_told faults misses larges losses words old new before now None status usage placed read write put told fit = tt
well_told faults misses larges losses words old new before now (Some files) status usage placed read write put told fit =
    well faults misses larges losses words old new before now files status usage placed read write put told fit

-- Ends of a run: stops at the inputs, refused texts, and stops of the writes.
use Rattle.std.proofs.Common.{◌≡◌, ℕ, ◌≤◌, ◌<◌, List, length, Option, None, Some, Bool, true, false, Result, Ok, Err, arith}
use Rattle.std.specs.Prelude.{IfSome, IfErr, IsErrAnd}
use Rattle.up_store.specs.Outside.{Files}
use Rattle.up_top.specs.declared.command.Command.{Command}
use Rattle.up_top.specs.declared.command.Command.TheVariants as command
use Rattle.up_top.specs.declared.answer.Stop.{Stop}
use Rattle.up_top.specs.declared.answer.Stop.TheVariants as stop
use Rattle.up_top.specs.declared.status.Status.{Status}
use Rattle.up_top.specs.declared.status.Status.TheVariants.{Done, Usage, Memory, Missing, ReadFault, WriteFault, DomainRefused, ProblemRefused, EngineRefused, NoPipeline, TooMany, MapRefused, PlanRefused, PlanUnfit, PlanInvalid, NumberTooLarge, InputTooLarge}
use Rattle.up_top.specs.Words.{command_of}
use Rattle.up_top.specs.declared.answer.Answer.{Answer}
use Rattle.up_top.specs.Answers.{stop_status, status_of}
use Rattle.up_top.specs.Says.{ended}
use Rattle.up_top.specs.Cause.{ReadCause, WriteCause, StopsAt, FirstStop, StopsFirst, AreReadable, IsReadStop, IsInputStop, IsRefusal, IsReadRefusal, IsWriteStatus, IsPlaced, IsOutput, IsCompile, IsPipeline, HasEngine, HasOutputs, inputs_end}
use Rattle.up_top.specs.Run.{Leaves, untouched, wrote, carried, HasPlace}

-- the stop of one input is one of the inputs
pub input_stop : (stop : Stop) (place end : ℕ) → IsReadStop place (stop_status stop) → 1 ≤ place → place < end → IsInputStop end (stop_status stop)
input_stop stop.Usage place end kind some few = absurd kind
input_stop stop.Memory place end kind some few = tt
input_stop (stop.Missing at) place end kind some few = (omega (arith, kind), omega (arith, kind))
input_stop (stop.ReadFault at) place end kind some few = (omega (arith, kind), omega (arith, kind))
input_stop (stop.WriteFault at) place end kind some few = absurd kind
input_stop stop.NoPipeline place end kind some few = absurd kind
input_stop (stop.InputTooLarge at) place end kind some few = (omega (arith, kind), omega (arith, kind))

pub first_stop : (words : List (List ℕ)) (stop : Stop) (place : ℕ) (held : Option Files) → IsReadStop place (stop_status stop) → IfSome held (AreReadable words place) → IfSome held (FirstStop words (stop_status stop))
first_stop words stop.Usage place None kind all = tt
first_stop words stop.Memory place None kind all = tt
first_stop words (stop.Missing at) place None kind all = tt
first_stop words (stop.ReadFault at) place None kind all = tt
first_stop words (stop.WriteFault at) place None kind all = tt
first_stop words stop.NoPipeline place None kind all = tt
first_stop words (stop.InputTooLarge at) place None kind all = tt
first_stop words stop.Usage place (Some files) kind all = tt
first_stop words stop.Memory place (Some files) kind all = tt
first_stop words (stop.Missing at) place (Some files) kind all = rw kind all
first_stop words (stop.ReadFault at) place (Some files) kind all = rw kind all
first_stop words (stop.WriteFault at) place (Some files) kind all = tt
first_stop words stop.NoPipeline place (Some files) kind all = tt
first_stop words (stop.InputTooLarge at) place (Some files) kind all = rw kind all

-- a stop of fewer inputs is one of more
pub later_stop : (stop : Stop) (end more : ℕ) → IsInputStop end (stop_status stop) → end ≤ more → IsInputStop more (stop_status stop)
later_stop stop.Usage end more kind few = absurd kind
later_stop stop.Memory end more kind few = tt
later_stop (stop.Missing at) end more kind few = (kind.0, omega (arith, kind.1))
later_stop (stop.ReadFault at) end more kind few = (kind.0, omega (arith, kind.1))
later_stop (stop.WriteFault at) end more kind few = absurd kind
later_stop stop.NoPipeline end more kind few = absurd kind
later_stop (stop.InputTooLarge at) end more kind few = (kind.0, omega (arith, kind.1))

pub ruleset reads = (input_stop, first_stop, later_stop)

pub input_placed : (command : Option Command) (stop : Stop) (end : ℕ) → IsInputStop end (stop_status stop) → inputs_end command ≡ end → IsPlaced command (stop_status stop)
input_placed command stop.Usage end kind same = absurd kind
input_placed command stop.Memory end kind same = tt
input_placed command (stop.Missing at) end kind same = (kind.0, omega (arith, kind.1, same))
input_placed command (stop.ReadFault at) end kind same = (kind.0, omega (arith, kind.1, same))
input_placed command (stop.WriteFault at) end kind same = absurd kind
input_placed command stop.NoPipeline end kind same = absurd kind
input_placed command (stop.InputTooLarge at) end kind same = (kind.0, omega (arith, kind.1, same))

pub input_within : (words : List (List ℕ)) (stop : Stop) (end : ℕ) → IsInputStop end (stop_status stop) → end ≤ length words → HasPlace words (stop_status stop)
input_within words stop.Usage end kind long = absurd kind
input_within words stop.Memory end kind long = tt
input_within words (stop.Missing at) end kind long = omega (arith, kind.1, long)
input_within words (stop.ReadFault at) end kind long = omega (arith, kind.1, long)
input_within words (stop.WriteFault at) end kind long = absurd kind
input_within words stop.NoPipeline end kind long = absurd kind
input_within words (stop.InputTooLarge at) end kind long = omega (arith, kind.1, long)

pub input_fit : (stop : Stop) (end : ℕ) → IsInputStop end (stop_status stop) → ¬ (stop_status stop ≡ Usage)
input_fit stop.Usage end kind = absurd kind
input_fit stop.Memory end kind = λ same. cc
input_fit (stop.Missing at) end kind = λ same. cc
input_fit (stop.ReadFault at) end kind = λ same. cc
input_fit (stop.WriteFault at) end kind = absurd kind
input_fit stop.NoPipeline end kind = absurd kind
input_fit (stop.InputTooLarge at) end kind = λ same. cc

pub stop_put : (stop : Stop) → ¬ (stop_status stop ≡ WriteFault None)
stop_put stop.Usage = λ same. cc
stop_put stop.Memory = λ same. cc
stop_put (stop.Missing at) = λ same. cc
stop_put (stop.ReadFault at) = λ same. cc
stop_put (stop.WriteFault at) = λ same. cc
stop_put stop.NoPipeline = λ same. cc
stop_put (stop.InputTooLarge at) = λ same. cc

pub input_held : (words : List (List ℕ)) (old new : Option Files) (stop : Stop) (end : ℕ) → IsInputStop end (stop_status stop) → new ≡ old → Leaves words old new (stop_status stop)
input_held words old new stop.Usage end kind same = absurd kind
input_held words old new stop.Memory end kind same = Leaves.untouched tt same
input_held words old new (stop.Missing at) end kind same = Leaves.untouched tt same
input_held words old new (stop.ReadFault at) end kind same = Leaves.untouched tt same
input_held words old new (stop.WriteFault at) end kind same = absurd kind
input_held words old new stop.NoPipeline end kind same = absurd kind
input_held words old new (stop.InputTooLarge at) end kind same = Leaves.untouched tt same

pub input_write : {S : Type 0} (losses : S → List ℕ → ℕ) (words : List (List ℕ)) (old new : S) (stop : Stop) (end : ℕ) → IsInputStop end (stop_status stop) → WriteCause losses words old new (stop_status stop)
input_write losses words old new stop.Usage end kind = absurd kind
input_write losses words old new stop.Memory end kind = tt
input_write losses words old new (stop.Missing at) end kind = tt
input_write losses words old new (stop.ReadFault at) end kind = tt
input_write losses words old new (stop.WriteFault at) end kind = absurd kind
input_write losses words old new stop.NoPipeline end kind = absurd kind
input_write losses words old new (stop.InputTooLarge at) end kind = tt

pub input_first : (words : List (List ℕ)) (stop : Stop) (end : ℕ) (held : Option Files) → IsInputStop end (stop_status stop) → IfSome held (FirstStop words (stop_status stop)) → IfSome held (StopsFirst words (stop_status stop))
input_first words stop.Usage end None kind all = tt
input_first words stop.Memory end None kind all = tt
input_first words (stop.Missing at) end None kind all = tt
input_first words (stop.ReadFault at) end None kind all = tt
input_first words (stop.WriteFault at) end None kind all = tt
input_first words stop.NoPipeline end None kind all = tt
input_first words (stop.InputTooLarge at) end None kind all = tt
input_first words stop.Usage end (Some files) kind all = absurd kind
input_first words stop.Memory end (Some files) kind all = all
input_first words (stop.Missing at) end (Some files) kind all = all
input_first words (stop.ReadFault at) end (Some files) kind all = all
input_first words (stop.WriteFault at) end (Some files) kind all = absurd kind
input_first words stop.NoPipeline end (Some files) kind all = absurd kind
input_first words (stop.InputTooLarge at) end (Some files) kind all = all

pub read_refusal : (status : Status) → IsReadRefusal status → IsRefusal status
read_refusal Done kind = absurd kind
read_refusal Usage kind = absurd kind
read_refusal Memory kind = tt
read_refusal (Missing at) kind = absurd kind
read_refusal (ReadFault at) kind = absurd kind
read_refusal (WriteFault at) kind = absurd kind
read_refusal DomainRefused kind = tt
read_refusal ProblemRefused kind = tt
read_refusal EngineRefused kind = absurd kind
read_refusal NoPipeline kind = absurd kind
read_refusal TooMany kind = absurd kind
read_refusal MapRefused kind = absurd kind
read_refusal PlanRefused kind = absurd kind
read_refusal PlanUnfit kind = absurd kind
read_refusal PlanInvalid kind = absurd kind
read_refusal NumberTooLarge kind = absurd kind
read_refusal (InputTooLarge at) kind = absurd kind

pub read_refusal_placed : (command : Option Command) (status : Status) → IsReadRefusal status → IsPlaced command status
read_refusal_placed command Done kind = absurd kind
read_refusal_placed command Usage kind = absurd kind
read_refusal_placed command Memory kind = tt
read_refusal_placed command (Missing at) kind = absurd kind
read_refusal_placed command (ReadFault at) kind = absurd kind
read_refusal_placed command (WriteFault at) kind = absurd kind
read_refusal_placed command DomainRefused kind = tt
read_refusal_placed command ProblemRefused kind = tt
read_refusal_placed command EngineRefused kind = absurd kind
read_refusal_placed command NoPipeline kind = absurd kind
read_refusal_placed command TooMany kind = absurd kind
read_refusal_placed command MapRefused kind = absurd kind
read_refusal_placed command PlanRefused kind = absurd kind
read_refusal_placed command PlanUnfit kind = absurd kind
read_refusal_placed command PlanInvalid kind = absurd kind
read_refusal_placed command NumberTooLarge kind = absurd kind
read_refusal_placed command (InputTooLarge at) kind = absurd kind

pub refusal_within : (words : List (List ℕ)) (status : Status) → IsRefusal status → HasPlace words status
refusal_within words Done kind = absurd kind
refusal_within words Usage kind = absurd kind
refusal_within words Memory kind = tt
refusal_within words (Missing at) kind = absurd kind
refusal_within words (ReadFault at) kind = absurd kind
refusal_within words (WriteFault at) kind = absurd kind
refusal_within words DomainRefused kind = tt
refusal_within words ProblemRefused kind = tt
refusal_within words EngineRefused kind = tt
refusal_within words NoPipeline kind = tt
refusal_within words TooMany kind = absurd kind
refusal_within words MapRefused kind = tt
refusal_within words PlanRefused kind = tt
refusal_within words PlanUnfit kind = tt
refusal_within words PlanInvalid kind = tt
refusal_within words NumberTooLarge kind = tt
refusal_within words (InputTooLarge at) kind = absurd kind

pub refusal_fit : (status : Status) → IsRefusal status → ¬ (status ≡ Usage)
refusal_fit Done kind = absurd kind
refusal_fit Usage kind = absurd kind
refusal_fit Memory kind = λ same. cc
refusal_fit (Missing at) kind = absurd kind
refusal_fit (ReadFault at) kind = absurd kind
refusal_fit (WriteFault at) kind = absurd kind
refusal_fit DomainRefused kind = λ same. cc
refusal_fit ProblemRefused kind = λ same. cc
refusal_fit EngineRefused kind = λ same. cc
refusal_fit NoPipeline kind = λ same. cc
refusal_fit TooMany kind = absurd kind
refusal_fit MapRefused kind = λ same. cc
refusal_fit PlanRefused kind = λ same. cc
refusal_fit PlanUnfit kind = λ same. cc
refusal_fit PlanInvalid kind = λ same. cc
refusal_fit NumberTooLarge kind = λ same. cc
refusal_fit (InputTooLarge at) kind = absurd kind

pub refusal_put : (status : Status) → IsRefusal status → ¬ (status ≡ WriteFault None)
refusal_put Done kind = absurd kind
refusal_put Usage kind = absurd kind
refusal_put Memory kind = λ same. cc
refusal_put (Missing at) kind = absurd kind
refusal_put (ReadFault at) kind = absurd kind
refusal_put (WriteFault at) kind = absurd kind
refusal_put DomainRefused kind = λ same. cc
refusal_put ProblemRefused kind = λ same. cc
refusal_put EngineRefused kind = λ same. cc
refusal_put NoPipeline kind = λ same. cc
refusal_put TooMany kind = absurd kind
refusal_put MapRefused kind = λ same. cc
refusal_put PlanRefused kind = λ same. cc
refusal_put PlanUnfit kind = λ same. cc
refusal_put PlanInvalid kind = λ same. cc
refusal_put NumberTooLarge kind = λ same. cc
refusal_put (InputTooLarge at) kind = absurd kind

pub refusal_held : (words : List (List ℕ)) (old new : Option Files) (status : Status) → IsRefusal status → new ≡ old → Leaves words old new status
refusal_held words old new Done kind same = absurd kind
refusal_held words old new Usage kind same = absurd kind
refusal_held words old new Memory kind same = Leaves.untouched tt same
refusal_held words old new (Missing at) kind same = absurd kind
refusal_held words old new (ReadFault at) kind same = absurd kind
refusal_held words old new (WriteFault at) kind same = absurd kind
refusal_held words old new DomainRefused kind same = Leaves.untouched tt same
refusal_held words old new ProblemRefused kind same = Leaves.untouched tt same
refusal_held words old new EngineRefused kind same = Leaves.untouched tt same
refusal_held words old new NoPipeline kind same = Leaves.untouched tt same
refusal_held words old new TooMany kind same = absurd kind
refusal_held words old new MapRefused kind same = Leaves.untouched tt same
refusal_held words old new PlanRefused kind same = Leaves.untouched tt same
refusal_held words old new PlanUnfit kind same = Leaves.untouched tt same
refusal_held words old new PlanInvalid kind same = Leaves.untouched tt same
refusal_held words old new NumberTooLarge kind same = Leaves.untouched tt same
refusal_held words old new (InputTooLarge at) kind same = absurd kind

pub refusal_read : {S : Type 0} (faults misses larges : S → List ℕ → ℕ) (words : List (List ℕ)) (old new : S) (status : Status) → IsRefusal status → ReadCause faults misses larges words old new status
refusal_read faults misses larges words old new Done kind = absurd kind
refusal_read faults misses larges words old new Usage kind = absurd kind
refusal_read faults misses larges words old new Memory kind = tt
refusal_read faults misses larges words old new (Missing at) kind = absurd kind
refusal_read faults misses larges words old new (ReadFault at) kind = absurd kind
refusal_read faults misses larges words old new (WriteFault at) kind = absurd kind
refusal_read faults misses larges words old new DomainRefused kind = tt
refusal_read faults misses larges words old new ProblemRefused kind = tt
refusal_read faults misses larges words old new EngineRefused kind = tt
refusal_read faults misses larges words old new NoPipeline kind = tt
refusal_read faults misses larges words old new TooMany kind = absurd kind
refusal_read faults misses larges words old new MapRefused kind = tt
refusal_read faults misses larges words old new PlanRefused kind = tt
refusal_read faults misses larges words old new PlanUnfit kind = tt
refusal_read faults misses larges words old new PlanInvalid kind = tt
refusal_read faults misses larges words old new NumberTooLarge kind = tt
refusal_read faults misses larges words old new (InputTooLarge at) kind = absurd kind

pub refusal_write : {S : Type 0} (losses : S → List ℕ → ℕ) (words : List (List ℕ)) (old new : S) (status : Status) → IsRefusal status → WriteCause losses words old new status
refusal_write losses words old new Done kind = absurd kind
refusal_write losses words old new Usage kind = absurd kind
refusal_write losses words old new Memory kind = tt
refusal_write losses words old new (Missing at) kind = absurd kind
refusal_write losses words old new (ReadFault at) kind = absurd kind
refusal_write losses words old new (WriteFault at) kind = absurd kind
refusal_write losses words old new DomainRefused kind = tt
refusal_write losses words old new ProblemRefused kind = tt
refusal_write losses words old new EngineRefused kind = tt
refusal_write losses words old new NoPipeline kind = tt
refusal_write losses words old new TooMany kind = absurd kind
refusal_write losses words old new MapRefused kind = tt
refusal_write losses words old new PlanRefused kind = tt
refusal_write losses words old new PlanUnfit kind = tt
refusal_write losses words old new PlanInvalid kind = tt
refusal_write losses words old new NumberTooLarge kind = tt
refusal_write losses words old new (InputTooLarge at) kind = absurd kind

pub refusal_stops : (words : List (List ℕ)) (status : Status) (files : Files) → IsRefusal status → StopsAt words status files
refusal_stops words Done files kind = absurd kind
refusal_stops words Usage files kind = absurd kind
refusal_stops words Memory files kind = tt
refusal_stops words (Missing at) files kind = absurd kind
refusal_stops words (ReadFault at) files kind = absurd kind
refusal_stops words (WriteFault at) files kind = absurd kind
refusal_stops words DomainRefused files kind = tt
refusal_stops words ProblemRefused files kind = tt
refusal_stops words EngineRefused files kind = tt
refusal_stops words NoPipeline files kind = tt
refusal_stops words TooMany files kind = absurd kind
refusal_stops words MapRefused files kind = tt
refusal_stops words PlanRefused files kind = tt
refusal_stops words PlanUnfit files kind = tt
refusal_stops words PlanInvalid files kind = tt
refusal_stops words NumberTooLarge files kind = tt
refusal_stops words (InputTooLarge at) files kind = absurd kind

pub refusal_told : (words : List (List ℕ)) (status : Status) (held : Option Files) → IsRefusal status → IfSome held (StopsAt words status)
refusal_told words status None kind = tt
refusal_told words status (Some files) kind = refusal_stops words status files kind

pub refusal_last : (words : List (List ℕ)) (status : Status) (files : Files) → IsRefusal status → AreReadable words (inputs_end (command_of words)) files → StopsFirst words status files
refusal_last words Done files kind all = absurd kind
refusal_last words Usage files kind all = absurd kind
refusal_last words Memory files kind all = tt
refusal_last words (Missing at) files kind all = absurd kind
refusal_last words (ReadFault at) files kind all = absurd kind
refusal_last words (WriteFault at) files kind all = absurd kind
refusal_last words DomainRefused files kind all = all
refusal_last words ProblemRefused files kind all = all
refusal_last words EngineRefused files kind all = all
refusal_last words NoPipeline files kind all = all
refusal_last words TooMany files kind all = absurd kind
refusal_last words MapRefused files kind all = all
refusal_last words PlanRefused files kind all = all
refusal_last words PlanUnfit files kind all = all
refusal_last words PlanInvalid files kind all = all
refusal_last words NumberTooLarge files kind all = all
refusal_last words (InputTooLarge at) files kind all = absurd kind

pub refusal_first : (words : List (List ℕ)) (status : Status) (end : ℕ) (held : Option Files) → IsRefusal status → inputs_end (command_of words) ≡ end
    → IfSome held (AreReadable words end) → IfSome held (StopsFirst words status)
refusal_first words status end None kind same all = tt
refusal_first words status end (Some files) kind same all = refusal_last words status files kind (rw same all)

compile_output : (command : Option Command) (at : ℕ) → IsCompile command → 4 ≤ at → at ≤ 6 → IsOutput command at
compile_output None at has first last = has
compile_output (Some command.Kind) at has first last = has
compile_output (Some command.Pipeline) at has first last = has
compile_output (Some (command.Compile limit)) at has first last = (first, last)
compile_output (Some command.Validate) at has first last = has
compile_output (Some command.Back) at has first last = absurd has

pub write_placed : (command : Option Command) (stop : Stop) → IsWriteStatus 4 6 (stop_status stop) → IsCompile command → IsPlaced command (stop_status stop)
write_placed command stop.Usage kind has = absurd kind
write_placed command stop.Memory kind has = tt
write_placed command (stop.Missing at) kind has = absurd kind
write_placed command (stop.ReadFault at) kind has = absurd kind
write_placed command (stop.WriteFault at) kind has = compile_output command at has kind.0 kind.1
write_placed command stop.NoPipeline kind has = absurd kind
write_placed command (stop.InputTooLarge at) kind has = absurd kind

pub pipeline_engine : (command : Option Command) → IsPipeline command → HasEngine command
pipeline_engine None is = is
pipeline_engine (Some command.Kind) is = is
pipeline_engine (Some command.Pipeline) is = tt
pipeline_engine (Some (command.Compile limit)) is = tt
pipeline_engine (Some command.Validate) is = is
pipeline_engine (Some command.Back) is = is

pipeline_outputs : (command : Option Command) → IsPipeline command → ¬ HasOutputs command
pipeline_outputs None is = λ has. has
pipeline_outputs (Some command.Kind) is = λ has. has
pipeline_outputs (Some command.Pipeline) is = λ has. has
pipeline_outputs (Some (command.Compile limit)) is = absurd is
pipeline_outputs (Some command.Validate) is = λ has. has
pipeline_outputs (Some command.Back) is = absurd is

pub pipeline_held : (words : List (List ℕ)) (old new : Option Files) → IsPipeline (command_of words) → new ≡ old → Leaves words old new Done
pipeline_held words old new is same = Leaves.untouched (pipeline_outputs (command_of words) is) same

pub write_within : (words : List (List ℕ)) (stop : Stop) → IsWriteStatus 4 6 (stop_status stop) → HasPlace words (stop_status stop)
write_within words stop.Usage kind = absurd kind
write_within words stop.Memory kind = tt
write_within words (stop.Missing at) kind = absurd kind
write_within words (stop.ReadFault at) kind = absurd kind
write_within words (stop.WriteFault at) kind = tt
write_within words stop.NoPipeline kind = absurd kind
write_within words (stop.InputTooLarge at) kind = absurd kind

pub write_fit : (stop : Stop) → IsWriteStatus 4 6 (stop_status stop) → ¬ (stop_status stop ≡ Usage)
write_fit stop.Usage kind = absurd kind
write_fit stop.Memory kind = λ same. cc
write_fit (stop.Missing at) kind = absurd kind
write_fit (stop.ReadFault at) kind = absurd kind
write_fit (stop.WriteFault at) kind = λ same. cc
write_fit stop.NoPipeline kind = absurd kind
write_fit (stop.InputTooLarge at) kind = absurd kind

pub write_read : {S : Type 0} (faults misses larges : S → List ℕ → ℕ) (words : List (List ℕ)) (old new : S) (stop : Stop) → IsWriteStatus 4 6 (stop_status stop) → ReadCause faults misses larges words old new (stop_status stop)
write_read faults misses larges words old new stop.Usage kind = absurd kind
write_read faults misses larges words old new stop.Memory kind = tt
write_read faults misses larges words old new (stop.Missing at) kind = absurd kind
write_read faults misses larges words old new (stop.ReadFault at) kind = absurd kind
write_read faults misses larges words old new (stop.WriteFault at) kind = tt
write_read faults misses larges words old new stop.NoPipeline kind = absurd kind
write_read faults misses larges words old new (stop.InputTooLarge at) kind = absurd kind

pub write_told : (words : List (List ℕ)) (stop : Stop) (held : Option Files) → IsWriteStatus 4 6 (stop_status stop) → IfSome held (StopsAt words (stop_status stop))
write_told words stop.Usage None kind = tt
write_told words stop.Memory None kind = tt
write_told words (stop.Missing at) None kind = tt
write_told words (stop.ReadFault at) None kind = tt
write_told words (stop.WriteFault at) None kind = tt
write_told words stop.NoPipeline None kind = tt
write_told words (stop.InputTooLarge at) None kind = tt
write_told words stop.Usage (Some files) kind = absurd kind
write_told words stop.Memory (Some files) kind = tt
write_told words (stop.Missing at) (Some files) kind = absurd kind
write_told words (stop.ReadFault at) (Some files) kind = absurd kind
write_told words (stop.WriteFault at) (Some files) kind = tt
write_told words stop.NoPipeline (Some files) kind = absurd kind
write_told words (stop.InputTooLarge at) (Some files) kind = absurd kind

pub write_first : (words : List (List ℕ)) (stop : Stop) (end : ℕ) (held : Option Files) → IsWriteStatus 4 6 (stop_status stop) → inputs_end (command_of words) ≡ end → IfSome held (AreReadable words end) → IfSome held (StopsFirst words (stop_status stop))
write_first words stop.Usage end None kind same all = tt
write_first words stop.Memory end None kind same all = tt
write_first words (stop.Missing at) end None kind same all = tt
write_first words (stop.ReadFault at) end None kind same all = tt
write_first words (stop.WriteFault at) end None kind same all = tt
write_first words stop.NoPipeline end None kind same all = tt
write_first words (stop.InputTooLarge at) end None kind same all = tt
write_first words stop.Usage end (Some files) kind same all = absurd kind
write_first words stop.Memory end (Some files) kind same all = tt
write_first words (stop.Missing at) end (Some files) kind same all = absurd kind
write_first words (stop.ReadFault at) end (Some files) kind same all = absurd kind
write_first words (stop.WriteFault at) end (Some files) kind same all = rw same all
write_first words stop.NoPipeline end (Some files) kind same all = absurd kind
write_first words (stop.InputTooLarge at) end (Some files) kind same all = absurd kind

pub leaves_from : (words : List (List ℕ)) (old mid new : Option Files) (status : Status) → mid ≡ old → Leaves words mid new status → Leaves words old new status
leaves_from words old mid new status same left = rw (← same) left

pub write_from : {S : Type 0} (losses : S → List ℕ → ℕ) (words : List (List ℕ)) (old mid new : S) (status : Status) → losses mid ≡ losses old
    → WriteCause losses words mid new status → WriteCause losses words old new status
write_from losses words old mid new Done same cause = tt
write_from losses words old mid new Usage same cause = tt
write_from losses words old mid new Memory same cause = tt
write_from losses words old mid new (Missing at) same cause = tt
write_from losses words old mid new (ReadFault at) same cause = tt
write_from losses words old mid new (WriteFault None) same cause = tt
write_from losses words old mid new (WriteFault (Some at)) same cause = rw (← same) cause
write_from losses words old mid new DomainRefused same cause = tt
write_from losses words old mid new ProblemRefused same cause = tt
write_from losses words old mid new EngineRefused same cause = tt
write_from losses words old mid new NoPipeline same cause = tt
write_from losses words old mid new TooMany same cause = tt
write_from losses words old mid new MapRefused same cause = tt
write_from losses words old mid new PlanRefused same cause = tt
write_from losses words old mid new PlanUnfit same cause = tt
write_from losses words old mid new PlanInvalid same cause = tt
write_from losses words old mid new NumberTooLarge same cause = tt
write_from losses words old mid new (InputTooLarge at) same cause = tt

pub written_read : {S : Type 0} (faults misses larges : S → List ℕ → ℕ) (words : List (List ℕ)) (old new : S) (status : Status) → IsWriteStatus 4 6 status
    → ReadCause faults misses larges words old new status
written_read faults misses larges words old new Done kind = tt
written_read faults misses larges words old new Usage kind = absurd kind
written_read faults misses larges words old new Memory kind = tt
written_read faults misses larges words old new (Missing at) kind = absurd kind
written_read faults misses larges words old new (ReadFault at) kind = absurd kind
written_read faults misses larges words old new (WriteFault None) kind = absurd kind
written_read faults misses larges words old new (WriteFault (Some at)) kind = tt
written_read faults misses larges words old new DomainRefused kind = absurd kind
written_read faults misses larges words old new ProblemRefused kind = absurd kind
written_read faults misses larges words old new EngineRefused kind = absurd kind
written_read faults misses larges words old new NoPipeline kind = absurd kind
written_read faults misses larges words old new TooMany kind = absurd kind
written_read faults misses larges words old new MapRefused kind = absurd kind
written_read faults misses larges words old new PlanRefused kind = absurd kind
written_read faults misses larges words old new PlanUnfit kind = absurd kind
written_read faults misses larges words old new PlanInvalid kind = absurd kind
written_read faults misses larges words old new NumberTooLarge kind = absurd kind
written_read faults misses larges words old new (InputTooLarge at) kind = absurd kind

-- a failed put leaves the same
pub leaves_ended : (words : List (List ℕ)) (old new : Option Files) (status : Status) (ok : Bool) → Leaves words old new status → Leaves words old new (ended status ok)
leaves_ended words old new Done true left = left
leaves_ended words old new Done false left =
    elim left [
      | untouched keeps same ↦ Leaves.untouched keeps same
      | wrote outputs problem has are held ↦ Leaves.wrote outputs problem has are held
      | carried metric text has is held ↦ Leaves.carried metric text has is held
    ]
leaves_ended words old new Usage ok left = left
leaves_ended words old new Memory ok left = left
leaves_ended words old new (Missing at) ok left = left
leaves_ended words old new (ReadFault at) ok left = left
leaves_ended words old new (WriteFault None) ok left = left
leaves_ended words old new (WriteFault (Some at)) ok left = left
leaves_ended words old new DomainRefused ok left = left
leaves_ended words old new ProblemRefused ok left = left
leaves_ended words old new EngineRefused ok left = left
leaves_ended words old new NoPipeline ok left = left
leaves_ended words old new TooMany ok left = left
leaves_ended words old new MapRefused ok left = left
leaves_ended words old new PlanRefused ok left = left
leaves_ended words old new PlanUnfit ok left = left
leaves_ended words old new PlanInvalid ok left = left
leaves_ended words old new NumberTooLarge ok left = left
leaves_ended words old new (InputTooLarge at) ok left = left

pub done_first : (words : List (List ℕ)) (end : ℕ) (held : Option Files) → inputs_end (command_of words) ≡ end
    → IfSome held (AreReadable words end) → IfSome held (StopsFirst words Done)
done_first words end None same all = tt
done_first words end (Some files) same all = rw same all

pub ruleset ends = (input_placed, input_within, input_fit, stop_put, input_held, input_write, input_first, read_refusal, read_refusal_placed, refusal_within, refusal_fit, refusal_put, refusal_held, refusal_read, refusal_write, refusal_told, refusal_first, write_placed, write_within, write_fit, write_read, write_told, write_first, done_first, leaves_from, write_from, written_read)

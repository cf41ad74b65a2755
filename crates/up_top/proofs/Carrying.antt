-- Plans that a map converts: what is answered on them, and what is held.
use Rattle.std.proofs.Common.{◌≡◌, ◌≤◌, ℕ, List, Option, None, Some, refl, arith}
use Rattle.std.specs.Prelude.{IfSome}
use Rattle.up_store.specs.Outside.{Files, held_with}
use Rattle.up_text.specs.declared.place.Place.{Place}
use Rattle.up_tree.specs.declared.problem.Parts.{Parts}
use Rattle.up_tree.specs.declared.problem.Plan.{Plan}
use Rattle.up_check.specs.declared.refusal.File.{File}
use Rattle.up_check.specs.declared.refusal.File.TheVariants as file
use Rattle.up_phrase.specs.declared.reason.Reason.{Reason}
use Rattle.up_compiler.specs.declared.back.Entry.{Entry}
use Rattle.up_compiler.specs.Back.{back}
use Rattle.up_eval.specs.declared.metric.Value.{Value}
use Rattle.up_map.specs.declared.map.Map.{Map}
use Rattle.up_map.specs.declared.back_error.BackError.TheVariants as unfit
use Rattle.up_map.specs.Spells.{MapText}
use Rattle.up_map.specs.Unfit.{first_unfit}
use Rattle.plan_text.specs.Spells.{PlanText}
use Rattle.plan_text.specs.Texts.{plan_text}
use Rattle.up_validate.specs.declared.verdict.Verdict.TheVariants as verdict
use Rattle.up_validate.specs.Verdicts.{IsVerdict}
use Rattle.up_top.specs.declared.command.Command.{Command}
use Rattle.up_top.specs.declared.command.Command.TheVariants as command
use Rattle.up_top.specs.declared.answer.Stop.{Stop}
use Rattle.up_top.specs.declared.answer.Stop.TheVariants as stop
use Rattle.up_top.specs.declared.answer.Conversion.{Conversion}
use Rattle.up_top.specs.declared.answer.Conversion.TheVariants as conversion
use Rattle.up_top.specs.declared.answer.Answer.{Answer}
use Rattle.up_top.specs.declared.answer.Answer.TheVariants as answer
use Rattle.up_top.specs.declared.status.Status.{Status}
use Rattle.up_top.specs.Answers.{status_of, stop_status}
use Rattle.up_top.specs.Words.{word_at, command_of}
use Rattle.up_top.specs.Cause.{HasPlan, IsBack, IsOutput, IsPlaced, IsRefusal, IsWriteStatus}
use Rattle.up_top.specs.Inputs.{AreReadAs, AreFour, AreInputs, IsBackEarly, IsMade, IsUnfit, OfMade, SaysBack, SaysEarly, StopsBack, StopsEnginePlan, StopsFit, StopsMade, StopsMap, StopsRead, StopsValid, Tells}
use Rattle.up_top.specs.Run.{CarriesAt, CompilesAt, HeldBack, IsWritten, Leaves}
use Rattle.up_top.specs.Says.{IsOf}
use Rattle.up_top.proofs.Inputs.{write_tells}

-- ---- steps that no entry fits

pub unknown_unfit : (entries : List Entry) (plan : Plan) (number : ℕ) → first_unfit entries 1 plan.steps ≡ Some (unfit.UnknownAction number) → IsUnfit entries plan number
unknown_unfit entries plan number same = rw same refl

pub arity_unfit : (entries : List Entry) (plan : Plan) (number : ℕ) → first_unfit entries 1 plan.steps ≡ Some (unfit.Arity number) → IsUnfit entries plan number
arity_unfit entries plan number same = rw same refl

pub ruleset unfit_steps = (unknown_unfit, arity_unfit)

-- ---- the plan that two texts make

pub map_stops : (map plan : List ℕ) (a : Answer) → StopsMap map a → StopsMade map plan a
map_stops map plan (answer.Features kind) stops = absurd stops
map_stops map plan (answer.Chain chain) stops = absurd stops
map_stops map plan (answer.Actions count) stops = absurd stops
map_stops map plan (answer.Refused file place reason name) stops = absurd stops
map_stops map plan (answer.Unread error) stops = absurd stops
map_stops map plan (answer.Judged verdict) stops = absurd stops
map_stops map plan (answer.Unspelled place) stops = absurd stops
map_stops map plan (answer.TooLarge number) stops = absurd stops
map_stops map plan (answer.Converted (conversion.BadLine number)) stops = stops
map_stops map plan (answer.Converted (conversion.SecondLine number)) stops = stops
map_stops map plan (answer.Converted (conversion.Unspelled place)) stops = absurd stops
map_stops map plan (answer.Converted (conversion.Unfit number)) stops = absurd stops
map_stops map plan (answer.Converted (conversion.Judged (verdict.Valid metric))) stops = absurd stops
map_stops map plan (answer.Converted (conversion.Judged (verdict.BadStep number why))) stops = absurd stops
map_stops map plan (answer.Converted (conversion.Judged verdict.GoalOpen)) stops = absurd stops
map_stops map plan (answer.Converted (conversion.Judged (verdict.Broken number))) stops = absurd stops
map_stops map plan (answer.Converted (conversion.TooLarge number)) stops = absurd stops
map_stops map plan (answer.Stopped stop.Usage) stops = absurd stops
map_stops map plan (answer.Stopped stop.Memory) stops = tt
map_stops map plan (answer.Stopped (stop.Missing at)) stops = absurd stops
map_stops map plan (answer.Stopped (stop.ReadFault at)) stops = absurd stops
map_stops map plan (answer.Stopped (stop.WriteFault at)) stops = absurd stops
map_stops map plan (answer.Stopped stop.NoPipeline) stops = absurd stops
map_stops map plan (answer.Stopped (stop.InputTooLarge at)) stops = absurd stops

pub plan_stops : (map plan : List ℕ) (m : Map) (a : Answer) → MapText map m → StopsEnginePlan plan a → StopsMade map plan a
plan_stops map plan m (answer.Features kind) spelled stops = absurd stops
plan_stops map plan m (answer.Chain chain) spelled stops = absurd stops
plan_stops map plan m (answer.Actions count) spelled stops = absurd stops
plan_stops map plan m (answer.Refused file place reason name) spelled stops = absurd stops
plan_stops map plan m (answer.Unread error) spelled stops = absurd stops
plan_stops map plan m (answer.Judged verdict) spelled stops = absurd stops
plan_stops map plan m (answer.Unspelled place) spelled stops = absurd stops
plan_stops map plan m (answer.TooLarge number) spelled stops = absurd stops
plan_stops map plan m (answer.Converted (conversion.BadLine number)) spelled stops = absurd stops
plan_stops map plan m (answer.Converted (conversion.SecondLine number)) spelled stops = absurd stops
plan_stops map plan m (answer.Converted (conversion.Unspelled place)) spelled stops = record { of_map = m; spelled_map = spelled; faulty = stops }
plan_stops map plan m (answer.Converted (conversion.Unfit number)) spelled stops = absurd stops
plan_stops map plan m (answer.Converted (conversion.Judged (verdict.Valid metric))) spelled stops = absurd stops
plan_stops map plan m (answer.Converted (conversion.Judged (verdict.BadStep number why))) spelled stops = absurd stops
plan_stops map plan m (answer.Converted (conversion.Judged verdict.GoalOpen)) spelled stops = absurd stops
plan_stops map plan m (answer.Converted (conversion.Judged (verdict.Broken number))) spelled stops = absurd stops
plan_stops map plan m (answer.Converted (conversion.TooLarge number)) spelled stops = absurd stops
plan_stops map plan m (answer.Stopped stop.Usage) spelled stops = absurd stops
plan_stops map plan m (answer.Stopped stop.Memory) spelled stops = tt
plan_stops map plan m (answer.Stopped (stop.Missing at)) spelled stops = absurd stops
plan_stops map plan m (answer.Stopped (stop.ReadFault at)) spelled stops = absurd stops
plan_stops map plan m (answer.Stopped (stop.WriteFault at)) spelled stops = absurd stops
plan_stops map plan m (answer.Stopped stop.NoPipeline) spelled stops = absurd stops
plan_stops map plan m (answer.Stopped (stop.InputTooLarge at)) spelled stops = absurd stops

pub fit_stops : (map plan : List ℕ) (m : Map) (of : Plan) (a : Answer) → MapText map m → PlanText plan of → StopsFit m.back of a → StopsMade map plan a
fit_stops map plan m of (answer.Features kind) by spelled stops = absurd stops
fit_stops map plan m of (answer.Chain chain) by spelled stops = absurd stops
fit_stops map plan m of (answer.Actions count) by spelled stops = absurd stops
fit_stops map plan m of (answer.Refused file place reason name) by spelled stops = absurd stops
fit_stops map plan m of (answer.Unread error) by spelled stops = absurd stops
fit_stops map plan m of (answer.Judged verdict) by spelled stops = absurd stops
fit_stops map plan m of (answer.Unspelled place) by spelled stops = absurd stops
fit_stops map plan m of (answer.TooLarge number) by spelled stops = absurd stops
fit_stops map plan m of (answer.Converted (conversion.BadLine number)) by spelled stops = absurd stops
fit_stops map plan m of (answer.Converted (conversion.SecondLine number)) by spelled stops = absurd stops
fit_stops map plan m of (answer.Converted (conversion.Unspelled place)) by spelled stops = absurd stops
fit_stops map plan m of (answer.Converted (conversion.Unfit number)) by spelled stops = record { of_map = m; of_plan = of; spelled_map = by; spelled_plan = spelled; holds = stops }
fit_stops map plan m of (answer.Converted (conversion.Judged (verdict.Valid metric))) by spelled stops = absurd stops
fit_stops map plan m of (answer.Converted (conversion.Judged (verdict.BadStep number why))) by spelled stops = absurd stops
fit_stops map plan m of (answer.Converted (conversion.Judged verdict.GoalOpen)) by spelled stops = absurd stops
fit_stops map plan m of (answer.Converted (conversion.Judged (verdict.Broken number))) by spelled stops = absurd stops
fit_stops map plan m of (answer.Converted (conversion.TooLarge number)) by spelled stops = absurd stops
fit_stops map plan m of (answer.Stopped stop.Usage) by spelled stops = absurd stops
fit_stops map plan m of (answer.Stopped stop.Memory) by spelled stops = tt
fit_stops map plan m of (answer.Stopped (stop.Missing at)) by spelled stops = absurd stops
fit_stops map plan m of (answer.Stopped (stop.ReadFault at)) by spelled stops = absurd stops
fit_stops map plan m of (answer.Stopped (stop.WriteFault at)) by spelled stops = absurd stops
fit_stops map plan m of (answer.Stopped stop.NoPipeline) by spelled stops = absurd stops
fit_stops map plan m of (answer.Stopped (stop.InputTooLarge at)) by spelled stops = absurd stops

pub makes_plan : (map plan : List ℕ) (m : Map) (of made : Plan) → MapText map m → PlanText plan of → back m.back of ≡ Some made → IsMade map plan made
makes_plan map plan m of made by spelled same = record { of_map = m; of_plan = of; spelled_map = by; spelled_plan = spelled; holds = same }

pub ruleset makes = (map_stops, plan_stops, fit_stops, makes_plan)

-- ---- what stops before the write

pub read_stop : (domain problem map plan : List ℕ) (a : Answer) → StopsRead domain problem a → StopsBack domain problem map plan a
read_stop domain problem map plan (answer.Features kind) stops = absurd stops
read_stop domain problem map plan (answer.Chain chain) stops = absurd stops
read_stop domain problem map plan (answer.Actions count) stops = absurd stops
read_stop domain problem map plan (answer.Refused file place reason name) stops = record { early = tt; says = stops }
read_stop domain problem map plan (answer.Unread error) stops = absurd stops
read_stop domain problem map plan (answer.Judged verdict) stops = absurd stops
read_stop domain problem map plan (answer.Unspelled place) stops = absurd stops
read_stop domain problem map plan (answer.TooLarge number) stops = absurd stops
read_stop domain problem map plan (answer.Converted (conversion.BadLine number)) stops = absurd stops
read_stop domain problem map plan (answer.Converted (conversion.SecondLine number)) stops = absurd stops
read_stop domain problem map plan (answer.Converted (conversion.Unspelled place)) stops = absurd stops
read_stop domain problem map plan (answer.Converted (conversion.Unfit number)) stops = absurd stops
read_stop domain problem map plan (answer.Converted (conversion.Judged (verdict.Valid metric))) stops = absurd stops
read_stop domain problem map plan (answer.Converted (conversion.Judged (verdict.BadStep number why))) stops = absurd stops
read_stop domain problem map plan (answer.Converted (conversion.Judged verdict.GoalOpen)) stops = absurd stops
read_stop domain problem map plan (answer.Converted (conversion.Judged (verdict.Broken number))) stops = absurd stops
read_stop domain problem map plan (answer.Converted (conversion.TooLarge number)) stops = absurd stops
read_stop domain problem map plan (answer.Stopped stop.Usage) stops = absurd stops
read_stop domain problem map plan (answer.Stopped stop.Memory) stops = record { early = tt; says = tt }
read_stop domain problem map plan (answer.Stopped (stop.Missing at)) stops = absurd stops
read_stop domain problem map plan (answer.Stopped (stop.ReadFault at)) stops = absurd stops
read_stop domain problem map plan (answer.Stopped (stop.WriteFault at)) stops = absurd stops
read_stop domain problem map plan (answer.Stopped stop.NoPipeline) stops = absurd stops
read_stop domain problem map plan (answer.Stopped (stop.InputTooLarge at)) stops = absurd stops

pub made_stop : (domain problem map plan : List ℕ) (parts : Parts) (a : Answer) → AreReadAs domain problem parts → StopsMade map plan a → StopsBack domain problem map plan a
made_stop domain problem map plan parts (answer.Features kind) reads stops = absurd stops
made_stop domain problem map plan parts (answer.Chain chain) reads stops = absurd stops
made_stop domain problem map plan parts (answer.Actions count) reads stops = absurd stops
made_stop domain problem map plan parts (answer.Refused file place reason name) reads stops = absurd stops
made_stop domain problem map plan parts (answer.Unread error) reads stops = absurd stops
made_stop domain problem map plan parts (answer.Judged verdict) reads stops = absurd stops
made_stop domain problem map plan parts (answer.Unspelled place) reads stops = absurd stops
made_stop domain problem map plan parts (answer.TooLarge number) reads stops = absurd stops
made_stop domain problem map plan parts (answer.Converted (conversion.BadLine number)) reads stops = record { early = tt; says = record { read = record { parts = parts; reads = reads }; holds = stops } }
made_stop domain problem map plan parts (answer.Converted (conversion.SecondLine number)) reads stops = record { early = tt; says = record { read = record { parts = parts; reads = reads }; holds = stops } }
made_stop domain problem map plan parts (answer.Converted (conversion.Unspelled place)) reads stops = record { early = tt; says = record { read = record { parts = parts; reads = reads }; holds = stops } }
made_stop domain problem map plan parts (answer.Converted (conversion.Unfit number)) reads stops = record { early = tt; says = record { read = record { parts = parts; reads = reads }; holds = stops } }
made_stop domain problem map plan parts (answer.Converted (conversion.Judged (verdict.Valid metric))) reads stops = absurd stops
made_stop domain problem map plan parts (answer.Converted (conversion.Judged (verdict.BadStep number why))) reads stops = absurd stops
made_stop domain problem map plan parts (answer.Converted (conversion.Judged verdict.GoalOpen)) reads stops = absurd stops
made_stop domain problem map plan parts (answer.Converted (conversion.Judged (verdict.Broken number))) reads stops = absurd stops
made_stop domain problem map plan parts (answer.Converted (conversion.TooLarge number)) reads stops = absurd stops
made_stop domain problem map plan parts (answer.Stopped stop.Usage) reads stops = absurd stops
made_stop domain problem map plan parts (answer.Stopped stop.Memory) reads stops = record { early = tt; says = tt }
made_stop domain problem map plan parts (answer.Stopped (stop.Missing at)) reads stops = absurd stops
made_stop domain problem map plan parts (answer.Stopped (stop.ReadFault at)) reads stops = absurd stops
made_stop domain problem map plan parts (answer.Stopped (stop.WriteFault at)) reads stops = absurd stops
made_stop domain problem map plan parts (answer.Stopped stop.NoPipeline) reads stops = absurd stops
made_stop domain problem map plan parts (answer.Stopped (stop.InputTooLarge at)) reads stops = absurd stops

pub valid_stop : (domain problem map plan : List ℕ) (parts : Parts) (made : Plan) (a : Answer) → AreReadAs domain problem parts → IsMade map plan made → StopsValid parts made a
    → StopsBack domain problem map plan a
valid_stop domain problem map plan parts made (answer.Features kind) reads makes stops = absurd stops
valid_stop domain problem map plan parts made (answer.Chain chain) reads makes stops = absurd stops
valid_stop domain problem map plan parts made (answer.Actions count) reads makes stops = absurd stops
valid_stop domain problem map plan parts made (answer.Refused file place reason name) reads makes stops = absurd stops
valid_stop domain problem map plan parts made (answer.Unread error) reads makes stops = absurd stops
valid_stop domain problem map plan parts made (answer.Judged verdict) reads makes stops = absurd stops
valid_stop domain problem map plan parts made (answer.Unspelled place) reads makes stops = absurd stops
valid_stop domain problem map plan parts made (answer.TooLarge number) reads makes stops = absurd stops
valid_stop domain problem map plan parts made (answer.Converted (conversion.BadLine number)) reads makes stops = absurd stops
valid_stop domain problem map plan parts made (answer.Converted (conversion.SecondLine number)) reads makes stops = absurd stops
valid_stop domain problem map plan parts made (answer.Converted (conversion.Unspelled place)) reads makes stops = absurd stops
valid_stop domain problem map plan parts made (answer.Converted (conversion.Unfit number)) reads makes stops = absurd stops
valid_stop domain problem map plan parts made (answer.Converted (conversion.Judged (verdict.Valid metric))) reads makes stops = absurd stops
valid_stop domain problem map plan parts made (answer.Converted (conversion.Judged (verdict.BadStep number why))) reads makes stops = record { early = tt; says = record { parts = parts; reads = reads; made = made; is_made = makes; holds = stops } }
valid_stop domain problem map plan parts made (answer.Converted (conversion.Judged verdict.GoalOpen)) reads makes stops = record { early = tt; says = record { parts = parts; reads = reads; made = made; is_made = makes; holds = stops } }
valid_stop domain problem map plan parts made (answer.Converted (conversion.Judged (verdict.Broken number))) reads makes stops = record { early = tt; says = record { parts = parts; reads = reads; made = made; is_made = makes; holds = stops } }
valid_stop domain problem map plan parts made (answer.Converted (conversion.TooLarge number)) reads makes stops = record { early = tt; says = record { parts = parts; reads = reads; made = made; is_made = makes; holds = stops } }
valid_stop domain problem map plan parts made (answer.Stopped stop.Usage) reads makes stops = absurd stops
valid_stop domain problem map plan parts made (answer.Stopped stop.Memory) reads makes stops = record { early = tt; says = tt }
valid_stop domain problem map plan parts made (answer.Stopped (stop.Missing at)) reads makes stops = absurd stops
valid_stop domain problem map plan parts made (answer.Stopped (stop.ReadFault at)) reads makes stops = absurd stops
valid_stop domain problem map plan parts made (answer.Stopped (stop.WriteFault at)) reads makes stops = absurd stops
valid_stop domain problem map plan parts made (answer.Stopped stop.NoPipeline) reads makes stops = absurd stops
valid_stop domain problem map plan parts made (answer.Stopped (stop.InputTooLarge at)) reads makes stops = absurd stops

pub writes_valid : (metric : Value) (text : List ℕ) (parts : Parts) (made : Plan) → IsVerdict parts made (verdict.Valid metric) → text ≡ plan_text made
    → IsWritten metric text parts made
writes_valid metric text parts made valid same = record { valid = valid; written = same }

pub carries_plan : (domain problem map plan : List ℕ) (metric : Value) (text : List ℕ) (parts : Parts) (made : Plan) → AreReadAs domain problem parts → IsMade map plan made
    → IsWritten metric text parts made → OfMade domain problem map plan (IsWritten metric text)
carries_plan domain problem map plan metric text parts made reads makes written =
    record { parts = parts; reads = reads; made = made; is_made = makes; holds = written }

pub ruleset carries = (read_stop, made_stop, valid_stop, writes_valid, carries_plan)

-- ---- the answers before the write

-- what holds of want of memory, of each refused text and of each conversion but a valid one holds of each answer before the write
before_write : (Holds : Answer → Type 0) (a : Answer) → IsBackEarly a → Holds (answer.Stopped stop.Memory)
    → ((file : File) (place : Place) (reason : Reason) (name : Option (List ℕ)) → Holds (answer.Refused file place reason name))
    → ((c : Conversion) → IsBackEarly (answer.Converted c) → Holds (answer.Converted c)) → Holds a
before_write Holds (answer.Features kind) is memory refused of = absurd is
before_write Holds (answer.Chain chain) is memory refused of = absurd is
before_write Holds (answer.Actions count) is memory refused of = absurd is
before_write Holds (answer.Refused file place reason name) is memory refused of = refused file place reason name
before_write Holds (answer.Unread error) is memory refused of = absurd is
before_write Holds (answer.Judged verdict) is memory refused of = absurd is
before_write Holds (answer.Unspelled place) is memory refused of = absurd is
before_write Holds (answer.TooLarge number) is memory refused of = absurd is
before_write Holds (answer.Converted (conversion.BadLine number)) is memory refused of = of (conversion.BadLine number) tt
before_write Holds (answer.Converted (conversion.SecondLine number)) is memory refused of = of (conversion.SecondLine number) tt
before_write Holds (answer.Converted (conversion.Unspelled place)) is memory refused of = of (conversion.Unspelled place) tt
before_write Holds (answer.Converted (conversion.Unfit number)) is memory refused of = of (conversion.Unfit number) tt
before_write Holds (answer.Converted (conversion.Judged (verdict.Valid metric))) is memory refused of = absurd is
before_write Holds (answer.Converted (conversion.Judged (verdict.BadStep number why))) is memory refused of = of (conversion.Judged (verdict.BadStep number why)) tt
before_write Holds (answer.Converted (conversion.Judged verdict.GoalOpen)) is memory refused of = of (conversion.Judged verdict.GoalOpen) tt
before_write Holds (answer.Converted (conversion.Judged (verdict.Broken number))) is memory refused of = of (conversion.Judged (verdict.Broken number)) tt
before_write Holds (answer.Converted (conversion.TooLarge number)) is memory refused of = of (conversion.TooLarge number) tt
before_write Holds (answer.Stopped stop.Usage) is memory refused of = absurd is
before_write Holds (answer.Stopped stop.Memory) is memory refused of = memory
before_write Holds (answer.Stopped (stop.Missing at)) is memory refused of = absurd is
before_write Holds (answer.Stopped (stop.ReadFault at)) is memory refused of = absurd is
before_write Holds (answer.Stopped (stop.WriteFault at)) is memory refused of = absurd is
before_write Holds (answer.Stopped stop.NoPipeline) is memory refused of = absurd is
before_write Holds (answer.Stopped (stop.InputTooLarge at)) is memory refused of = absurd is

conversion_refusal : (c : Conversion) → IsBackEarly (answer.Converted c) → IsRefusal (status_of (answer.Converted c))
conversion_refusal (conversion.BadLine number) is = tt
conversion_refusal (conversion.SecondLine number) is = tt
conversion_refusal (conversion.Unspelled place) is = tt
conversion_refusal (conversion.Unfit number) is = tt
conversion_refusal (conversion.Judged (verdict.Valid metric)) is = absurd is
conversion_refusal (conversion.Judged (verdict.BadStep number why)) is = tt
conversion_refusal (conversion.Judged verdict.GoalOpen) is = tt
conversion_refusal (conversion.Judged (verdict.Broken number)) is = tt
conversion_refusal (conversion.TooLarge number) is = tt

file_refusal : (file : File) (place : Place) (reason : Reason) (name : Option (List ℕ)) → IsRefusal (status_of (answer.Refused file place reason name))
file_refusal file.Domain place reason name = tt
file_refusal file.Problem place reason name = tt

pub back_refusal : (domain problem map plan : List ℕ) (a : Answer) → StopsBack domain problem map plan a → IsRefusal (status_of a)
back_refusal domain problem map plan a stops =
    before_write (λ a. IsRefusal (status_of a)) a stops.early tt file_refusal conversion_refusal

pub back_of : (command : Option Command) (domain problem map plan : List ℕ) (a : Answer) → StopsBack domain problem map plan a → IsBack command → IsOf command a
back_of command domain problem map plan a stops is =
    before_write (IsOf command) a stops.early tt (λ file place reason name. tt) (λ c early. is)

reads_plan : (command : Option Command) → IsBack command → HasPlan command
reads_plan None is = is
reads_plan (Some command.Kind) is = is
reads_plan (Some command.Pipeline) is = is
reads_plan (Some (command.Compile limit)) is = is
reads_plan (Some command.Validate) is = tt
reads_plan (Some command.Back) is = tt

conversion_placed : (command : Option Command) → IsBack command → (c : Conversion) → IsBackEarly (answer.Converted c) → IsPlaced command (status_of (answer.Converted c))
conversion_placed command is (conversion.BadLine number) early = is
conversion_placed command is (conversion.SecondLine number) early = is
conversion_placed command is (conversion.Unspelled place) early = reads_plan command is
conversion_placed command is (conversion.Unfit number) early = is
conversion_placed command is (conversion.Judged (verdict.Valid metric)) early = absurd early
conversion_placed command is (conversion.Judged (verdict.BadStep number why)) early = reads_plan command is
conversion_placed command is (conversion.Judged verdict.GoalOpen) early = reads_plan command is
conversion_placed command is (conversion.Judged (verdict.Broken number)) early = reads_plan command is
conversion_placed command is (conversion.TooLarge number) early = reads_plan command is

file_placed : (command : Option Command) (file : File) (place : Place) (reason : Reason) (name : Option (List ℕ)) → IsPlaced command (status_of (answer.Refused file place reason name))
file_placed command file.Domain place reason name = tt
file_placed command file.Problem place reason name = tt

pub back_placed : (command : Option Command) (domain problem map plan : List ℕ) (a : Answer) → StopsBack domain problem map plan a → IsBack command
    → IsPlaced command (status_of a)
back_placed command domain problem map plan a stops is =
    before_write (λ a. IsPlaced command (status_of a)) a stops.early tt (file_placed command) (conversion_placed command is)

pub back_compiles : (words : List (List ℕ)) (domain problem map plan : List ℕ) (old new : Option Files) (a : Answer) → StopsBack domain problem map plan a
    → CompilesAt words old new a
back_compiles words domain problem map plan old new a stops =
    before_write (CompilesAt words old new) a stops.early tt (λ file place reason name. tt) (λ c early. tt)

conversion_carries : (words : List (List ℕ)) (old new : Option Files) (c : Conversion) → IsBackEarly (answer.Converted c) → CarriesAt words old new (answer.Converted c)
conversion_carries words old new (conversion.BadLine number) early = tt
conversion_carries words old new (conversion.SecondLine number) early = tt
conversion_carries words old new (conversion.Unspelled place) early = tt
conversion_carries words old new (conversion.Unfit number) early = tt
conversion_carries words old new (conversion.Judged (verdict.Valid metric)) early = absurd early
conversion_carries words old new (conversion.Judged (verdict.BadStep number why)) early = tt
conversion_carries words old new (conversion.Judged verdict.GoalOpen) early = tt
conversion_carries words old new (conversion.Judged (verdict.Broken number)) early = tt
conversion_carries words old new (conversion.TooLarge number) early = tt

pub back_carries : (words : List (List ℕ)) (domain problem map plan : List ℕ) (old new : Option Files) (a : Answer) → StopsBack domain problem map plan a
    → CarriesAt words old new a
back_carries words domain problem map plan old new a stops =
    before_write (CarriesAt words old new) a stops.early tt (λ file place reason name. tt) (conversion_carries words old new)

told : (words : List (List ℕ)) (domain problem map plan : List ℕ) (files : Files) → AreFour words domain problem map plan files
    → (a : Answer) → IsBackEarly a → SaysEarly a domain problem map plan → Tells words a files
told words domain problem map plan files four a early =
    before_write (λ a. SaysEarly a domain problem map plan → Tells words a files) a early
    (λ says. tt)
    (λ file place reason name says. record {
      domain = domain;
      problem = problem;
      third = map;
      held = record { sources = four.sources; holds_third = λ has. four.holds_map };
      says = says;
    })
    (λ c is says. record { domain = domain; problem = problem; map = map; plan = plan; held = four; says = says })

pub back_tells : (words : List (List ℕ)) (domain problem map plan : List ℕ) (held : Option Files) (a : Answer) → IfSome held (AreFour words domain problem map plan)
    → StopsBack domain problem map plan a → IfSome held (Tells words a)
back_tells words domain problem map plan None a four stops = tt
back_tells words domain problem map plan (Some files) a four stops = told words domain problem map plan files four a stops.early stops.says

pub carries_from : (words : List (List ℕ)) (old mid new : Option Files) (a : Answer) → mid ≡ old → CarriesAt words mid new a → CarriesAt words old new a
carries_from words old mid new a same carries = rw (← same) carries

pub ruleset ended = (back_refusal, back_of, back_placed, back_compiles, back_carries, back_tells)

-- ---- the write

back_output : (command : Option Command) (at : ℕ) → IsBack command → 5 ≤ at → at ≤ 5 → IsOutput command at
back_output None at is first last = is
back_output (Some command.Kind) at is first last = is
back_output (Some command.Pipeline) at is first last = is
back_output (Some (command.Compile limit)) at is first last = absurd is
back_output (Some command.Validate) at is first last = is
back_output (Some command.Back) at is first last = omega (arith, first, last)

pub back_write_placed : (command : Option Command) (s : Stop) → IsWriteStatus 5 5 (stop_status s) → IsBack command → IsPlaced command (stop_status s)
back_write_placed command stop.Usage kind is = absurd kind
back_write_placed command stop.Memory kind is = tt
back_write_placed command (stop.Missing at) kind is = absurd kind
back_write_placed command (stop.ReadFault at) kind is = absurd kind
back_write_placed command (stop.WriteFault at) kind is = back_output command at is kind.0 kind.1
back_write_placed command stop.NoPipeline kind is = absurd kind
back_write_placed command (stop.InputTooLarge at) kind is = absurd kind

pub back_wrote : (words : List (List ℕ)) (domain problem map plan : List ℕ) (old new : Option Files) (metric : Value) (text : List ℕ) (status : Status) → IsBack (command_of words)
    → IfSome old (AreFour words domain problem map plan) → OfMade domain problem map plan (IsWritten metric text) → HeldBack words text old new status
    → Leaves words old new status
back_wrote words domain problem map plan old new metric text status is four made held =
    Leaves.carried metric text is (record { domain = domain; problem = problem; map = map; plan = plan; holds = four; of = made }) held

pub back_done_carries : (words : List (List ℕ)) (domain problem map plan : List ℕ) (old new : Option Files) (metric : Value) (text : List ℕ)
    → IfSome old (AreFour words domain problem map plan) → OfMade domain problem map plan (IsWritten metric text) → new ≡ held_with (word_at words 5) text old
    → CarriesAt words old new (answer.Converted (conversion.Judged (verdict.Valid metric)))
back_done_carries words domain problem map plan old new metric text four made held =
    record { text = text; is = record { domain = domain; problem = problem; map = map; plan = plan; holds = four; of = made }; held = held }

pub back_done_tells : (words : List (List ℕ)) (domain problem map plan : List ℕ) (held : Option Files) (metric : Value) (text : List ℕ)
    → IfSome held (AreFour words domain problem map plan) → OfMade domain problem map plan (IsWritten metric text)
    → IfSome held (Tells words (answer.Converted (conversion.Judged (verdict.Valid metric))))
back_done_tells words domain problem map plan None metric text four made = tt
back_done_tells words domain problem map plan (Some files) metric text four made =
    record {
      domain = domain;
      problem = problem;
      map = map;
      plan = plan;
      held = four;
      says = record { parts = made.parts; reads = made.reads; made = made.made; is_made = made.is_made; holds = made.holds.valid };
    }

pub back_stop_tells : (words : List (List ℕ)) (domain problem map plan : List ℕ) (held : Option Files) (metric : Value) (text : List ℕ) (s : Stop)
    → IfSome held (AreInputs words domain problem map) → OfMade domain problem map plan (IsWritten metric text) → IsWriteStatus 4 6 (stop_status s)
    → IfSome held (Tells words (answer.Stopped s))
back_stop_tells words domain problem map plan held metric text s inputs made kind = write_tells words domain problem map held s made.parts inputs made.reads kind

pub ruleset written = (back_write_placed, back_wrote, back_done_carries, back_done_tells, back_stop_tells)

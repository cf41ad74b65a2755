-- What is held, and what answers say of it, from what the calls answer.
use Rattle.std.proofs.Common.{◌≡◌, ℕ, List, [], length, Option, None, Some, Result, Ok, Err, refl}
use Rattle.std.specs.Prelude.{IfSome, IfErr, IfOk, OnOk}
use Rattle.up_store.specs.Outside.{Files}
use Rattle.up_kind.specs.declared.kind.Kind.{Kind}
use Rattle.up_kind.specs.Carried.{carries}
use Rattle.up_kind.specs.Features.{FeatureSet, has}
use Rattle.up_compiler.specs.declared.id.CompilerId.{CompilerId}
use Rattle.up_compiler.specs.declared.id.Chain.{Chain}
use Rattle.up_tree.specs.declared.problem.Parts.{Parts}
use Rattle.up_check.specs.declared.refusal.File.TheVariants as file
use Rattle.up_pipeline.specs.declared.engine.EngineError.TheVariants as unread
use Rattle.up_top.specs.declared.command.Command.{Command}
use Rattle.up_top.specs.declared.command.Command.TheVariants as command
use Rattle.up_top.specs.declared.answer.Stop.{Stop}
use Rattle.up_top.specs.declared.whole.Whole.{Whole}
use Rattle.up_top.specs.declared.answer.Stop.TheVariants as stop
use Rattle.up_top.specs.declared.answer.Answer.{Answer}
use Rattle.up_top.specs.declared.answer.Answer.TheVariants as answer
use Rattle.up_top.specs.Answers.{status_of, stop_status}
use Rattle.up_top.specs.Words.{command_of}
use Rattle.up_top.specs.Cause.{IsHeld, IsKind, HasEngine, IsCompile, HasThird, IsInputStop, IsPlaced, IsWriteStatus, IsRefusal}
use Rattle.up_top.specs.Inputs.{AreReadAs, AreFour, AreInputs, AreSources, HasChain, HasFeatures, IsChosen, IsEarly, Says, SaysOfHeld, StopsBefore, StopsChoice, StopsRead, Tells}
use Rattle.up_top.specs.Run.{CompilesAt}

-- ---- held texts

sources_held : (words : List (List ℕ)) (domain problem : List ℕ) (held : Option Files) → IfSome held (IsHeld words 1 domain) → IfSome held (IsHeld words 2 problem)
    → IfSome held (AreSources words domain problem)
sources_held words domain problem None d p = tt
sources_held words domain problem (Some files) d p = record { holds_domain = d; holds_problem = p }

-- the same of texts that are read one after another
pub sources_read : (words : List (List ℕ)) (domain problem : List ℕ) (old mid : Option Files) → mid ≡ old → IfSome old (IsHeld words 1 domain) → IfSome mid (IsHeld words 2 problem)
    → IfSome old (AreSources words domain problem)
sources_read words domain problem old mid same d p = sources_held words domain problem old d (rw same at p)

pub inputs_held : (words : List (List ℕ)) (domain problem engine : List ℕ) (held : Option Files) → IfSome held (AreSources words domain problem) → IfSome held (IsHeld words 3 engine)
    → IfSome held (AreInputs words domain problem engine)
inputs_held words domain problem engine None s e = tt
inputs_held words domain problem engine (Some files) s e = record { sources = s; holds_third = λ _. e }

four_held : (words : List (List ℕ)) (domain problem map plan : List ℕ) (held : Option Files) → IfSome held (AreInputs words domain problem map) → IfSome held (IsHeld words 3 map)
    → IfSome held (IsHeld words 4 plan) → IfSome held (AreFour words domain problem map plan)
four_held words domain problem map plan None inputs m e = tt
four_held words domain problem map plan (Some files) inputs m e = record { sources = inputs.sources; holds_map = m; holds_plan = e }

pub four_read : (words : List (List ℕ)) (domain problem map plan : List ℕ) (old mid : Option Files) → mid ≡ old → IfSome old (AreInputs words domain problem map)
    → IfSome old (IsHeld words 3 map) → IfSome mid (IsHeld words 4 plan) → IfSome old (AreFour words domain problem map plan)
four_read words domain problem map plan old mid same inputs m e = four_held words domain problem map plan old inputs m (rw same at e)

pub ruleset held = (sources_read, inputs_held, four_read)

-- ---- stops before the writes

pub read_stops : (domain problem engine : List ℕ) (a : Answer) → StopsRead domain problem a → StopsBefore domain problem engine a
read_stops domain problem engine (answer.Features kind) stops = absurd stops
read_stops domain problem engine (answer.Chain chain) stops = absurd stops
read_stops domain problem engine (answer.Actions count) stops = absurd stops
read_stops domain problem engine (answer.Refused file place reason name) stops = record { early = tt; says = stops }
read_stops domain problem engine (answer.Unread error) stops = absurd stops
read_stops domain problem engine (answer.Judged verdict) stops = absurd stops
read_stops domain problem engine (answer.Unspelled place) stops = absurd stops
read_stops domain problem engine (answer.TooLarge number) stops = absurd stops
read_stops domain problem engine (answer.Converted conversion) stops = absurd stops
read_stops domain problem engine (answer.Stopped stop.Usage) stops = absurd stops
read_stops domain problem engine (answer.Stopped stop.Memory) stops = record { early = tt; says = tt }
read_stops domain problem engine (answer.Stopped (stop.Missing at)) stops = absurd stops
read_stops domain problem engine (answer.Stopped (stop.ReadFault at)) stops = absurd stops
read_stops domain problem engine (answer.Stopped (stop.WriteFault at)) stops = absurd stops
read_stops domain problem engine (answer.Stopped stop.NoPipeline) stops = absurd stops
read_stops domain problem engine (answer.Stopped (stop.InputTooLarge at)) stops = absurd stops

choice_stops : (domain problem engine : List ℕ) (parts : Parts) (a : Answer) → AreReadAs domain problem parts → StopsChoice engine parts a → StopsBefore domain problem engine a
choice_stops domain problem engine parts (answer.Features kind) reads stops = absurd stops
choice_stops domain problem engine parts (answer.Chain chain) reads stops = absurd stops
choice_stops domain problem engine parts (answer.Actions count) reads stops = absurd stops
choice_stops domain problem engine parts (answer.Refused file place reason name) reads stops = absurd stops
choice_stops domain problem engine parts (answer.Unread unread.Memory) reads stops = record { early = tt; says = tt }
choice_stops domain problem engine parts (answer.Unread unread.Toml) reads stops = record { early = tt; says = record { read = record { parts = parts; reads = reads }; says = stops } }
choice_stops domain problem engine parts (answer.Unread (unread.UnknownKey word)) reads stops = record { early = tt; says = record { read = record { parts = parts; reads = reads }; says = stops } }
choice_stops domain problem engine parts (answer.Unread (unread.NoKey word)) reads stops = record { early = tt; says = record { read = record { parts = parts; reads = reads }; says = stops } }
choice_stops domain problem engine parts (answer.Unread (unread.WrongType word)) reads stops = record { early = tt; says = record { read = record { parts = parts; reads = reads }; says = stops } }
choice_stops domain problem engine parts (answer.Unread (unread.UnknownFeature word)) reads stops = record { early = tt; says = record { read = record { parts = parts; reads = reads }; says = stops } }
choice_stops domain problem engine parts (answer.Judged verdict) reads stops = absurd stops
choice_stops domain problem engine parts (answer.Unspelled place) reads stops = absurd stops
choice_stops domain problem engine parts (answer.TooLarge number) reads stops = absurd stops
choice_stops domain problem engine parts (answer.Converted conversion) reads stops = absurd stops
choice_stops domain problem engine parts (answer.Stopped stop.Usage) reads stops = absurd stops
choice_stops domain problem engine parts (answer.Stopped stop.Memory) reads stops = record { early = tt; says = tt }
choice_stops domain problem engine parts (answer.Stopped (stop.Missing at)) reads stops = absurd stops
choice_stops domain problem engine parts (answer.Stopped (stop.ReadFault at)) reads stops = absurd stops
choice_stops domain problem engine parts (answer.Stopped (stop.WriteFault at)) reads stops = absurd stops
choice_stops domain problem engine parts (answer.Stopped stop.NoPipeline) reads stops = record { early = tt; says = record { parts = parts; reads = reads; none = stops } }
choice_stops domain problem engine parts (answer.Stopped (stop.InputTooLarge at)) reads stops = absurd stops

-- ---- the same of results that are handed on

pub chain_result : (domain problem engine : List ℕ) (parts : Parts) (result : Result Chain Answer) → AreReadAs domain problem parts
    → IfOk result (λ chain. IsChosen engine parts chain.stages) → IfOk result (λ chain. HasChain domain problem engine chain.stages)
chain_result domain problem engine parts (Ok chain) reads chosen = record { parts = parts; reads = reads; chosen = chosen }
chain_result domain problem engine parts (Err a) reads chosen = tt

pub stops_result : {T : Type 0} (domain problem engine : List ℕ) (parts : Parts) (result : Result T Answer) → AreReadAs domain problem parts
    → IfErr result (StopsChoice engine parts) → IfErr result (StopsBefore domain problem engine)
stops_result domain problem engine parts (Ok value) reads stops = tt
stops_result domain problem engine parts (Err a) reads stops = choice_stops domain problem engine parts a reads stops

pub reads_result : (domain problem : List ℕ) (parts : Parts) (result : Result Whole Answer) → AreReadAs domain problem parts
    → IfOk result (λ whole. whole.problem ≡ parts) → IfOk result (λ whole. AreReadAs domain problem whole.problem)
reads_result domain problem parts (Ok whole) reads same = rw same reads
reads_result domain problem parts (Err a) reads same = tt

pub ruleset stops = (read_stops, chain_result, stops_result, reads_result)

-- the status of a stop before the writes
pub before_refusal : (domain problem engine : List ℕ) (a : Answer) → StopsBefore domain problem engine a → IsRefusal (status_of a)
before_refusal domain problem engine (answer.Features kind) stops = absurd stops.early
before_refusal domain problem engine (answer.Chain chain) stops = absurd stops.early
before_refusal domain problem engine (answer.Actions count) stops = absurd stops.early
before_refusal domain problem engine (answer.Refused file.Domain place reason name) stops = tt
before_refusal domain problem engine (answer.Refused file.Problem place reason name) stops = tt
before_refusal domain problem engine (answer.Unread unread.Memory) stops = tt
before_refusal domain problem engine (answer.Unread unread.Toml) stops = tt
before_refusal domain problem engine (answer.Unread (unread.UnknownKey word)) stops = tt
before_refusal domain problem engine (answer.Unread (unread.NoKey word)) stops = tt
before_refusal domain problem engine (answer.Unread (unread.WrongType word)) stops = tt
before_refusal domain problem engine (answer.Unread (unread.UnknownFeature word)) stops = tt
before_refusal domain problem engine (answer.Judged verdict) stops = absurd stops.early
before_refusal domain problem engine (answer.Unspelled place) stops = absurd stops.early
before_refusal domain problem engine (answer.TooLarge number) stops = absurd stops.early
before_refusal domain problem engine (answer.Converted conversion) stops = absurd stops.early
before_refusal domain problem engine (answer.Stopped stop.Usage) stops = absurd stops.early
before_refusal domain problem engine (answer.Stopped stop.Memory) stops = tt
before_refusal domain problem engine (answer.Stopped (stop.Missing at)) stops = absurd stops.early
before_refusal domain problem engine (answer.Stopped (stop.ReadFault at)) stops = absurd stops.early
before_refusal domain problem engine (answer.Stopped (stop.WriteFault at)) stops = absurd stops.early
before_refusal domain problem engine (answer.Stopped stop.NoPipeline) stops = tt
before_refusal domain problem engine (answer.Stopped (stop.InputTooLarge at)) stops = absurd stops.early

-- ---- answers

-- a stop at an input
pub input_tells : (words : List (List ℕ)) (s : Stop) (end : ℕ) (held : Option Files) → IsInputStop end (stop_status s) → IfSome held (Tells words (answer.Stopped s))
input_tells words stop.Usage end None kind = tt
input_tells words stop.Memory end None kind = tt
input_tells words (stop.Missing at) end None kind = tt
input_tells words (stop.ReadFault at) end None kind = tt
input_tells words (stop.WriteFault at) end None kind = tt
input_tells words stop.NoPipeline end None kind = tt
input_tells words (stop.InputTooLarge at) end None kind = tt
input_tells words stop.Usage end (Some files) kind = tt
input_tells words stop.Memory end (Some files) kind = tt
input_tells words (stop.Missing at) end (Some files) kind = tt
input_tells words (stop.ReadFault at) end (Some files) kind = tt
input_tells words (stop.WriteFault at) end (Some files) kind = absurd kind
input_tells words stop.NoPipeline end (Some files) kind = absurd kind
input_tells words (stop.InputTooLarge at) end (Some files) kind = tt

no_third : (command : Option Command) → IsKind command → HasThird command → ⊥
no_third None kind has = has
no_third (Some command.Kind) kind has = has
no_third (Some command.Pipeline) kind has = kind
no_third (Some (command.Compile limit)) kind has = kind
no_third (Some command.Validate) kind has = kind
no_third (Some command.Back) kind has = kind

kind_inputs : (words : List (List ℕ)) (domain problem : List ℕ) (files : Files) → IsKind (command_of words) → AreSources words domain problem files
    → AreInputs words domain problem [] files
kind_inputs words domain problem files kind sources = record { sources = sources; holds_third = λ has. absurd (no_third (command_of words) kind has) }

-- what is said of the texts is told of the held ones
says_held : (words : List (List ℕ)) (domain problem third : List ℕ) (files : Files) (a : Answer) → AreInputs words domain problem third files
    → Says a domain problem third → Tells words a files
says_held words domain problem third files (answer.Features kind) held says = record { domain = domain; problem = problem; third = third; held = held; says = says }
says_held words domain problem third files (answer.Chain chain) held says = record { domain = domain; problem = problem; third = third; held = held; says = says }
says_held words domain problem third files (answer.Actions count) held says = record { domain = domain; problem = problem; third = third; held = held; says = says }
says_held words domain problem third files (answer.Refused file place reason name) held says = record { domain = domain; problem = problem; third = third; held = held; says = says }
says_held words domain problem third files (answer.Unread error) held says = record { domain = domain; problem = problem; third = third; held = held; says = says }
says_held words domain problem third files (answer.Judged verdict) held says = record { domain = domain; problem = problem; third = third; held = held; says = says }
says_held words domain problem third files (answer.Unspelled place) held says = record { domain = domain; problem = problem; third = third; held = held; says = says }
says_held words domain problem third files (answer.TooLarge number) held says = record { domain = domain; problem = problem; third = third; held = held; says = says }
says_held words domain problem third files (answer.Converted conversion) held says = absurd says
says_held words domain problem third files (answer.Stopped stop.Usage) held says = tt
says_held words domain problem third files (answer.Stopped stop.Memory) held says = tt
says_held words domain problem third files (answer.Stopped (stop.Missing at)) held says = tt
says_held words domain problem third files (answer.Stopped (stop.ReadFault at)) held says = tt
says_held words domain problem third files (answer.Stopped (stop.WriteFault at)) held says = record { domain = domain; problem = problem; third = third; held = held; says = says }
says_held words domain problem third files (answer.Stopped stop.NoPipeline) held says = record { domain = domain; problem = problem; third = third; held = held; says = says }
says_held words domain problem third files (answer.Stopped (stop.InputTooLarge at)) held says = tt

pub says_tells : (words : List (List ℕ)) (domain problem third : List ℕ) (held : Option Files) (a : Answer) → IfSome held (AreInputs words domain problem third)
    → Says a domain problem third → IfSome held (Tells words a)
says_tells words domain problem third None a held says = tt
says_tells words domain problem third (Some files) a held says = says_held words domain problem third files a held says

-- a command over three texts that ends before it writes
pub refused_tells : (words : List (List ℕ)) (domain problem engine : List ℕ) (held : Option Files) (a : Answer) → IfSome held (AreInputs words domain problem engine)
    → StopsBefore domain problem engine a → IfSome held (Tells words a)
refused_tells words domain problem engine held a inputs stops = says_tells words domain problem engine held a inputs stops.says

-- the same over two texts
pub unread_tells : (words : List (List ℕ)) (domain problem : List ℕ) (held : Option Files) (a : Answer) → IsKind (command_of words)
    → IfSome held (AreSources words domain problem) → StopsRead domain problem a → IfSome held (Tells words a)
unread_tells words domain problem None a kind held stops = tt
unread_tells words domain problem (Some files) a kind held stops =
    says_held words domain problem [] files a (kind_inputs words domain problem files kind held) (read_stops domain problem [] a stops).says

pub features_tell : (words : List (List ℕ)) (domain problem : List ℕ) (held : Option Files) (kind : Kind) (parts : Parts) → IsKind (command_of words)
    → IfSome held (AreSources words domain problem) → AreReadAs domain problem parts → has kind.0 ≡ carries parts
    → IfSome held (Tells words (answer.Features kind))
features_tell words domain problem None kind parts of held reads features = tt
features_tell words domain problem (Some files) kind parts of held reads features =
    record {
      domain = domain;
      problem = problem;
      third = [];
      held = kind_inputs words domain problem files of held;
      says = record { parts = parts; reads = reads; features = features };
    }

pub chain_tells : (words : List (List ℕ)) (domain problem engine : List ℕ) (held : Option Files) (chain : Chain) → IfSome held (AreInputs words domain problem engine)
    → HasChain domain problem engine chain.stages → IfSome held (Tells words (answer.Chain chain))
chain_tells words domain problem engine None chain held has = tt
chain_tells words domain problem engine (Some files) chain held has =
    record { domain = domain; problem = problem; third = engine; held = held; says = has }

pub actions_tell : (words : List (List ℕ)) (domain problem engine : List ℕ) (held : Option Files) (parts : Parts)
    → IfSome held (AreInputs words domain problem engine) → AreReadAs domain problem parts → IfSome held (Tells words (answer.Actions (length parts.actions)))
actions_tell words domain problem engine None parts held reads = tt
actions_tell words domain problem engine (Some files) parts held reads =
    record {
      domain = domain;
      problem = problem;
      third = engine;
      held = held;
      says = record { parts = parts; reads = reads; counted = refl };
    }

-- a stop of the writes
pub write_tells : (words : List (List ℕ)) (domain problem engine : List ℕ) (held : Option Files) (s : Stop) (parts : Parts) → IfSome held (AreInputs words domain problem engine)
    → AreReadAs domain problem parts → IsWriteStatus 4 6 (stop_status s) → IfSome held (Tells words (answer.Stopped s))
write_tells words domain problem engine None s parts held reads kind = tt
write_tells words domain problem engine (Some files) stop.Usage parts held reads kind = absurd kind
write_tells words domain problem engine (Some files) stop.Memory parts held reads kind = tt
write_tells words domain problem engine (Some files) (stop.Missing at) parts held reads kind = absurd kind
write_tells words domain problem engine (Some files) (stop.ReadFault at) parts held reads kind = absurd kind
write_tells words domain problem engine (Some files) (stop.WriteFault at) parts held reads kind = record { domain = domain; problem = problem; third = engine; held = held; says = record { parts = parts; reads = reads } }
write_tells words domain problem engine (Some files) stop.NoPipeline parts held reads kind = absurd kind
write_tells words domain problem engine (Some files) (stop.InputTooLarge at) parts held reads kind = absurd kind

has_engine : (command : Option Command) → IsCompile command → HasEngine command
has_engine None has = has
has_engine (Some command.Kind) has = has
has_engine (Some command.Pipeline) has = tt
has_engine (Some (command.Compile limit)) has = has
has_engine (Some command.Validate) has = absurd has
has_engine (Some command.Back) has = absurd has

-- the place of a stop before the writes
early : (command : Option Command) (a : Answer) → IsEarly a → HasEngine command → IsPlaced command (status_of a)
early command (answer.Features kind) is has = absurd is
early command (answer.Chain chain) is has = absurd is
early command (answer.Actions count) is has = absurd is
early command (answer.Refused file.Domain place reason name) is has = tt
early command (answer.Refused file.Problem place reason name) is has = tt
early command (answer.Unread unread.Memory) is has = tt
early command (answer.Unread unread.Toml) is has = has
early command (answer.Unread (unread.UnknownKey word)) is has = has
early command (answer.Unread (unread.NoKey word)) is has = has
early command (answer.Unread (unread.WrongType word)) is has = has
early command (answer.Unread (unread.UnknownFeature word)) is has = has
early command (answer.Judged verdict) is has = absurd is
early command (answer.Unspelled place) is has = absurd is
early command (answer.TooLarge number) is has = absurd is
early command (answer.Converted conversion) is has = absurd is
early command (answer.Stopped stop.Usage) is has = absurd is
early command (answer.Stopped stop.Memory) is has = tt
early command (answer.Stopped (stop.Missing at)) is has = absurd is
early command (answer.Stopped (stop.ReadFault at)) is has = absurd is
early command (answer.Stopped (stop.WriteFault at)) is has = absurd is
early command (answer.Stopped stop.NoPipeline) is has = has
early command (answer.Stopped (stop.InputTooLarge at)) is has = absurd is

pub early_placed : (command : Option Command) (domain problem engine : List ℕ) (a : Answer) → StopsBefore domain problem engine a → HasEngine command
    → IsPlaced command (status_of a)
early_placed command domain problem engine a stops has = early command a stops.early has

pub outputs_placed : (command : Option Command) (domain problem engine : List ℕ) (a : Answer) → StopsBefore domain problem engine a → IsCompile command
    → IsPlaced command (status_of a)
outputs_placed command domain problem engine a stops has = early command a stops.early (has_engine command has)

-- an answer before the writes tells nothing of outputs
pub refused_compiles : (words : List (List ℕ)) (domain problem engine : List ℕ) (old new : Option Files) (a : Answer) → StopsBefore domain problem engine a
    → CompilesAt words old new a
refused_compiles words domain problem engine old new (answer.Features kind) stops = tt
refused_compiles words domain problem engine old new (answer.Chain chain) stops = tt
refused_compiles words domain problem engine old new (answer.Actions count) stops = absurd stops.early
refused_compiles words domain problem engine old new (answer.Refused file place reason name) stops = tt
refused_compiles words domain problem engine old new (answer.Unread error) stops = tt
refused_compiles words domain problem engine old new (answer.Judged verdict) stops = tt
refused_compiles words domain problem engine old new (answer.Unspelled place) stops = tt
refused_compiles words domain problem engine old new (answer.TooLarge number) stops = tt
refused_compiles words domain problem engine old new (answer.Converted conversion) stops = tt
refused_compiles words domain problem engine old new (answer.Stopped s) stops = tt

pub unread_compiles : (words : List (List ℕ)) (domain problem : List ℕ) (old new : Option Files) (a : Answer) → StopsRead domain problem a
    → CompilesAt words old new a
unread_compiles words domain problem old new a stops = refused_compiles words domain problem [] old new a (read_stops domain problem [] a stops)

pub compiles_from : (words : List (List ℕ)) (old mid new : Option Files) (a : Answer) → mid ≡ old → CompilesAt words mid new a → CompilesAt words old new a
compiles_from words old mid new a same compiles = rw (← same) compiles

pub ruleset tells = (early_placed, outputs_placed, refused_compiles, unread_compiles, input_tells, refused_tells, unread_tells, features_tell, chain_tells, actions_tell, write_tells, before_refusal)

-- The put of an answer's text.
use Rattle.std.proofs.Common.{◌≡◌, ℕ, Bool, true, false, List, Option, None, Some, Result, Ok, Err, refl}
use Rattle.std.specs.Prelude.{IfSome, OnOk, OnErr, is_ok}
use Rattle.up_store.specs.Outside.{Files, Rose, written_with, GotPrefix}
use Rattle.up_store.specs.declared.sink.SinkFailed.{SinkFailed}
use Rattle.up_check.specs.declared.refusal.File.TheVariants as file
use Rattle.up_pipeline.specs.declared.engine.EngineError.TheVariants as engine
use Rattle.up_top.specs.declared.command.Command.{Command}
use Rattle.up_top.specs.declared.command.Command.TheVariants as command
use Rattle.up_top.specs.declared.answer.Stop.TheVariants as stop
use Rattle.up_validate.specs.declared.verdict.Verdict.TheVariants as verdict
use Rattle.up_top.specs.declared.answer.Conversion.TheVariants as conversion
use Rattle.up_top.specs.declared.answer.Answer.{Answer}
use Rattle.up_top.specs.declared.answer.Answer.TheVariants as answer
use Rattle.up_top.specs.declared.status.Status.{Status}
use Rattle.up_top.specs.declared.status.Status.TheVariants.{Done, Usage, Memory, Missing, ReadFault, WriteFault, DomainRefused, ProblemRefused, EngineRefused, NoPipeline, TooMany, MapRefused, PlanRefused, PlanUnfit, PlanInvalid, NumberTooLarge, InputTooLarge}
use Rattle.up_top.proofs.Ends.{leaves_ended}
use Rattle.up_top.specs.Words.{command_of}
use Rattle.up_top.specs.Cause.{IsBack, IsCompile}
use Rattle.up_top.specs.Answers.{status_of, answer_text}
use Rattle.up_top.specs.Inputs.{Tells}
use Rattle.up_top.specs.Run.{CarriesAt, CarriesDone, Compiles, CompilesAt, CompilesDone}
use Rattle.up_top.specs.Says.{IsOf, Puts, PutsAnswer, ended}

not_done : (status : Status) → ¬ (ended status false ≡ Done)
not_done Done = λ same. cc
not_done Usage = λ same. cc
not_done Memory = λ same. cc
not_done (Missing at) = λ same. cc
not_done (ReadFault at) = λ same. cc
not_done (WriteFault at) = λ same. cc
not_done DomainRefused = λ same. cc
not_done ProblemRefused = λ same. cc
not_done EngineRefused = λ same. cc
not_done NoPipeline = λ same. cc
not_done TooMany = λ same. cc
not_done MapRefused = λ same. cc
not_done PlanRefused = λ same. cc
not_done PlanUnfit = λ same. cc
not_done PlanInvalid = λ same. cc
not_done NumberTooLarge = λ same. cc
not_done (InputTooLarge at) = λ same. cc

not_lost : (status : Status) → ¬ (status ≡ WriteFault None) → ¬ (ended status true ≡ WriteFault None)
not_lost Done other = λ same. cc
not_lost Usage other = λ same. cc
not_lost Memory other = λ same. cc
not_lost (Missing at) other = λ same. cc
not_lost (ReadFault at) other = λ same. cc
not_lost (WriteFault at) other = other
not_lost DomainRefused other = λ same. cc
not_lost ProblemRefused other = λ same. cc
not_lost EngineRefused other = λ same. cc
not_lost NoPipeline other = λ same. cc
not_lost TooMany other = λ same. cc
not_lost MapRefused other = λ same. cc
not_lost PlanRefused other = λ same. cc
not_lost PlanUnfit other = λ same. cc
not_lost PlanInvalid other = λ same. cc
not_lost NumberTooLarge other = λ same. cc
not_lost (InputTooLarge at) other = λ same. cc

pub answered : (words : List (List ℕ)) (held : Option Files) (answer : Answer) (put : Result Unit SinkFailed) (before now : ℕ) (old new : Option (List ℕ)) → IsOf (command_of words) answer
    → IfSome held (Tells words answer)
    → ¬ (status_of answer ≡ WriteFault None)
    → OnOk put (new ≡ written_with (answer_text words answer) old)
    → OnErr put (GotPrefix (answer_text words answer) old new)
    → OnErr put (Rose before now)
    → PutsAnswer words held (ended (status_of answer) (is_ok put)) before now old new
answered words held answer (Ok u) before now old new of tells other whole prefix rose =
    record { answer = answer; put_whole = true; of = of; is = refl; tells = tells; put = Puts.whole (not_lost (status_of answer) other) whole }
answered words held answer (Err e) before now old new of tells other whole prefix rose =
    record { answer = answer; put_whole = false; of = of; is = refl; tells = tells; put = Puts.prefix (not_done (status_of answer)) rose prefix }

-- an answer of `compile` that is done tells how many actions were compiled
compiled : (words : List (List ℕ)) (command : Option Command) (answer : Answer) (put : Result Unit SinkFailed) (held kept : Option Files) (old new : Option (List ℕ))
    → IsOf command answer → CompilesAt words held kept answer
    → OnOk put (new ≡ written_with (answer_text words answer) old)
    → ended (status_of answer) (is_ok put) ≡ Done → IsCompile command → CompilesDone words held kept old new
compiled words None answer put held kept old new of compiles whole done has = absurd has
compiled words (Some command.Kind) answer put held kept old new of compiles whole done has = absurd has
compiled words (Some command.Pipeline) answer put held kept old new of compiles whole done has = absurd has
compiled words (Some command.Validate) answer put held kept old new of compiles whole done has = absurd has
compiled words (Some command.Back) answer put held kept old new of compiles whole done has = absurd has
compiled words (Some (command.Compile limit)) (answer.Features kind) put held kept old new of compiles whole done has = absurd of
compiled words (Some (command.Compile limit)) (answer.Chain chain) put held kept old new of compiles whole done has = absurd of
compiled words (Some (command.Compile limit)) (answer.Actions count) (Ok u) held kept old new of compiles whole done has = record { count = count; compiles = compiles; put = whole }
compiled words (Some (command.Compile limit)) (answer.Actions count) (Err e) held kept old new of compiles whole done has = cc
compiled words (Some (command.Compile limit)) (answer.Refused file.Domain place reason name) put held kept old new of compiles whole done has = cc
compiled words (Some (command.Compile limit)) (answer.Refused file.Problem place reason name) put held kept old new of compiles whole done has = cc
compiled words (Some (command.Compile limit)) (answer.Unread engine.Memory) put held kept old new of compiles whole done has = cc
compiled words (Some (command.Compile limit)) (answer.Unread engine.Toml) put held kept old new of compiles whole done has = cc
compiled words (Some (command.Compile limit)) (answer.Unread (engine.UnknownKey word)) put held kept old new of compiles whole done has = cc
compiled words (Some (command.Compile limit)) (answer.Unread (engine.NoKey word)) put held kept old new of compiles whole done has = cc
compiled words (Some (command.Compile limit)) (answer.Unread (engine.WrongType word)) put held kept old new of compiles whole done has = cc
compiled words (Some (command.Compile limit)) (answer.Unread (engine.UnknownFeature word)) put held kept old new of compiles whole done has = cc
compiled words (Some (command.Compile limit)) (answer.Judged verdict) put held kept old new of compiles whole done has = absurd of
compiled words (Some (command.Compile limit)) (answer.Unspelled place) put held kept old new of compiles whole done has = absurd of
compiled words (Some (command.Compile limit)) (answer.TooLarge number) put held kept old new of compiles whole done has = absurd of
compiled words (Some (command.Compile limit)) (answer.Converted conversion) put held kept old new of compiles whole done has = absurd of
compiled words (Some (command.Compile limit)) (answer.Stopped stop.Usage) put held kept old new of compiles whole done has = cc
compiled words (Some (command.Compile limit)) (answer.Stopped stop.Memory) put held kept old new of compiles whole done has = cc
compiled words (Some (command.Compile limit)) (answer.Stopped (stop.Missing at)) put held kept old new of compiles whole done has = cc
compiled words (Some (command.Compile limit)) (answer.Stopped (stop.ReadFault at)) put held kept old new of compiles whole done has = cc
compiled words (Some (command.Compile limit)) (answer.Stopped (stop.WriteFault at)) put held kept old new of compiles whole done has = cc
compiled words (Some (command.Compile limit)) (answer.Stopped stop.NoPipeline) put held kept old new of compiles whole done has = cc
compiled words (Some (command.Compile limit)) (answer.Stopped (stop.InputTooLarge at)) put held kept old new of compiles whole done has = cc

pub compiles_done : (words : List (List ℕ)) (answer : Answer) (put : Result Unit SinkFailed) (held kept : Option Files) (old new : Option (List ℕ))
    → IsOf (command_of words) answer → CompilesAt words held kept answer
    → OnOk put (new ≡ written_with (answer_text words answer) old)
    → ended (status_of answer) (is_ok put) ≡ Done → IsCompile (command_of words) → CompilesDone words held kept old new
compiles_done words answer put held kept old new of compiles whole done has = compiled words (command_of words) answer put held kept old new of compiles whole done has

-- an answer of `back` that is done tells that a converted plan is valid
carried : (words : List (List ℕ)) (command : Option Command) (answer : Answer) (put : Result Unit SinkFailed) (held kept : Option Files) (old new : Option (List ℕ))
    → IsOf command answer → CarriesAt words held kept answer
    → OnOk put (new ≡ written_with (answer_text words answer) old)
    → ended (status_of answer) (is_ok put) ≡ Done → IsBack command → CarriesDone words held kept old new
carried words None answer put held kept old new of carries whole done has = absurd has
carried words (Some command.Kind) answer put held kept old new of carries whole done has = absurd has
carried words (Some command.Pipeline) answer put held kept old new of carries whole done has = absurd has
carried words (Some (command.Compile limit)) answer put held kept old new of carries whole done has = absurd has
carried words (Some command.Validate) answer put held kept old new of carries whole done has = absurd has
carried words (Some command.Back) (answer.Features kind) put held kept old new of carries whole done has = absurd of
carried words (Some command.Back) (answer.Chain chain) put held kept old new of carries whole done has = absurd of
carried words (Some command.Back) (answer.Actions count) put held kept old new of carries whole done has = absurd of
carried words (Some command.Back) (answer.Refused file.Domain place reason name) put held kept old new of carries whole done has = cc
carried words (Some command.Back) (answer.Refused file.Problem place reason name) put held kept old new of carries whole done has = cc
carried words (Some command.Back) (answer.Unread engine.Memory) put held kept old new of carries whole done has = cc
carried words (Some command.Back) (answer.Unread engine.Toml) put held kept old new of carries whole done has = cc
carried words (Some command.Back) (answer.Unread (engine.UnknownKey word)) put held kept old new of carries whole done has = cc
carried words (Some command.Back) (answer.Unread (engine.NoKey word)) put held kept old new of carries whole done has = cc
carried words (Some command.Back) (answer.Unread (engine.WrongType word)) put held kept old new of carries whole done has = cc
carried words (Some command.Back) (answer.Unread (engine.UnknownFeature word)) put held kept old new of carries whole done has = cc
carried words (Some command.Back) (answer.Judged verdict) put held kept old new of carries whole done has = absurd of
carried words (Some command.Back) (answer.Unspelled place) put held kept old new of carries whole done has = absurd of
carried words (Some command.Back) (answer.TooLarge number) put held kept old new of carries whole done has = absurd of
carried words (Some command.Back) (answer.Converted (conversion.Judged (verdict.Valid metric))) (Ok u) held kept old new of carries whole done has = record { metric = metric; carries = carries; put = whole }
carried words (Some command.Back) (answer.Converted (conversion.Judged (verdict.Valid metric))) (Err e) held kept old new of carries whole done has = cc
carried words (Some command.Back) (answer.Converted (conversion.Judged (verdict.BadStep number reason))) put held kept old new of carries whole done has = cc
carried words (Some command.Back) (answer.Converted (conversion.Judged verdict.GoalOpen)) put held kept old new of carries whole done has = cc
carried words (Some command.Back) (answer.Converted (conversion.Judged (verdict.Broken number))) put held kept old new of carries whole done has = cc
carried words (Some command.Back) (answer.Converted (conversion.BadLine number)) put held kept old new of carries whole done has = cc
carried words (Some command.Back) (answer.Converted (conversion.SecondLine number)) put held kept old new of carries whole done has = cc
carried words (Some command.Back) (answer.Converted (conversion.Unspelled place)) put held kept old new of carries whole done has = cc
carried words (Some command.Back) (answer.Converted (conversion.Unfit number)) put held kept old new of carries whole done has = cc
carried words (Some command.Back) (answer.Converted (conversion.TooLarge number)) put held kept old new of carries whole done has = cc
carried words (Some command.Back) (answer.Stopped stop.Usage) put held kept old new of carries whole done has = cc
carried words (Some command.Back) (answer.Stopped stop.Memory) put held kept old new of carries whole done has = cc
carried words (Some command.Back) (answer.Stopped (stop.Missing at)) put held kept old new of carries whole done has = cc
carried words (Some command.Back) (answer.Stopped (stop.ReadFault at)) put held kept old new of carries whole done has = cc
carried words (Some command.Back) (answer.Stopped (stop.WriteFault at)) put held kept old new of carries whole done has = cc
carried words (Some command.Back) (answer.Stopped stop.NoPipeline) put held kept old new of carries whole done has = cc
carried words (Some command.Back) (answer.Stopped (stop.InputTooLarge at)) put held kept old new of carries whole done has = cc

pub carries_done : (words : List (List ℕ)) (answer : Answer) (put : Result Unit SinkFailed) (held kept : Option Files) (old new : Option (List ℕ))
    → IsOf (command_of words) answer → (IsBack (command_of words) → CarriesAt words held kept answer)
    → OnOk put (new ≡ written_with (answer_text words answer) old)
    → ended (status_of answer) (is_ok put) ≡ Done → IsBack (command_of words) → CarriesDone words held kept old new
carries_done words answer put held kept old new of carries whole done has = carried words (command_of words) answer put held kept old new of (carries has) whole done has

pub ruleset answers = (answered, leaves_ended, compiles_done, carries_done)

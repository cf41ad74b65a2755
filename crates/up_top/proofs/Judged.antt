-- Answers on a plan.
use Rattle.std.proofs.Common.{◌≡◌, ℕ, List, Option, None, Some}
use Rattle.std.specs.Prelude.{IfSome}
use Rattle.up_store.specs.Outside.{Files}
use Rattle.up_tree.specs.declared.problem.Parts.{Parts}
use Rattle.up_tree.specs.declared.problem.Plan.{Plan}
use Rattle.up_check.specs.declared.refusal.File.TheVariants as file
use Rattle.up_validate.specs.declared.verdict.Verdict.TheVariants as verdict
use Rattle.plan_text.specs.Spells.{PlanText}
use Rattle.up_top.specs.declared.command.Command.{Command}
use Rattle.up_top.specs.declared.command.Command.TheVariants as command
use Rattle.up_top.specs.declared.answer.Stop.TheVariants as stop
use Rattle.up_top.specs.declared.answer.Answer.{Answer}
use Rattle.up_top.specs.declared.answer.Answer.TheVariants as answer
use Rattle.up_top.specs.declared.status.Status.{Status}
use Rattle.up_top.specs.declared.status.Status.TheVariants.{Done, Usage, Memory, WriteFault, DomainRefused, ProblemRefused, PlanRefused, PlanInvalid, NumberTooLarge}
use Rattle.up_top.specs.Answers.{status_of}
use Rattle.up_top.specs.Words.{command_of}
use Rattle.up_top.specs.Cause.{ReadCause, WriteCause, StopsAt, StopsFirst, AreReadable, IsPlaced, IsRefusal, HasOutputs, HasPlan, IsValidate, inputs_end}
use Rattle.up_top.specs.Inputs.{AreReadAs, IsOnPlan, IsPlanAnswer, Says, StopsPlan, StopsRead}
use Rattle.up_top.specs.Run.{CompilesAt, HasPlace, Leaves}
use Rattle.up_top.specs.Says.{IsOf}
use Rattle.up_top.proofs.Ends.{refusal_within, refusal_fit, refusal_put, refusal_held, refusal_read, refusal_write, refusal_told, refusal_first, done_first}
use Rattle.up_top.proofs.Inputs.{says_tells}

pub read_answers : (domain problem : List ℕ) (a : Answer) → StopsRead domain problem a → IsPlanAnswer a
read_answers domain problem (answer.Features kind) stops = absurd stops
read_answers domain problem (answer.Chain chain) stops = absurd stops
read_answers domain problem (answer.Actions count) stops = absurd stops
read_answers domain problem (answer.Refused file place reason name) stops = tt
read_answers domain problem (answer.Unread error) stops = absurd stops
read_answers domain problem (answer.Judged verdict) stops = absurd stops
read_answers domain problem (answer.Unspelled place) stops = absurd stops
read_answers domain problem (answer.TooLarge number) stops = absurd stops
read_answers domain problem (answer.Converted conversion) stops = absurd stops
read_answers domain problem (answer.Stopped stop.Usage) stops = absurd stops
read_answers domain problem (answer.Stopped stop.Memory) stops = tt
read_answers domain problem (answer.Stopped (stop.Missing at)) stops = absurd stops
read_answers domain problem (answer.Stopped (stop.ReadFault at)) stops = absurd stops
read_answers domain problem (answer.Stopped (stop.WriteFault at)) stops = absurd stops
read_answers domain problem (answer.Stopped stop.NoPipeline) stops = absurd stops
read_answers domain problem (answer.Stopped (stop.InputTooLarge at)) stops = absurd stops

pub read_says : (domain problem third : List ℕ) (a : Answer) → StopsRead domain problem a → Says a domain problem third
read_says domain problem third (answer.Features kind) stops = absurd stops
read_says domain problem third (answer.Chain chain) stops = absurd stops
read_says domain problem third (answer.Actions count) stops = absurd stops
read_says domain problem third (answer.Refused file place reason name) stops = stops
read_says domain problem third (answer.Unread error) stops = absurd stops
read_says domain problem third (answer.Judged verdict) stops = absurd stops
read_says domain problem third (answer.Unspelled place) stops = absurd stops
read_says domain problem third (answer.TooLarge number) stops = absurd stops
read_says domain problem third (answer.Converted conversion) stops = absurd stops
read_says domain problem third (answer.Stopped stop.Usage) stops = absurd stops
read_says domain problem third (answer.Stopped stop.Memory) stops = tt
read_says domain problem third (answer.Stopped (stop.Missing at)) stops = absurd stops
read_says domain problem third (answer.Stopped (stop.ReadFault at)) stops = absurd stops
read_says domain problem third (answer.Stopped (stop.WriteFault at)) stops = absurd stops
read_says domain problem third (answer.Stopped stop.NoPipeline) stops = absurd stops
read_says domain problem third (answer.Stopped (stop.InputTooLarge at)) stops = absurd stops

pub plan_answers : (text : List ℕ) (a : Answer) → StopsPlan text a → IsPlanAnswer a
plan_answers text (answer.Features kind) stops = absurd stops
plan_answers text (answer.Chain chain) stops = absurd stops
plan_answers text (answer.Actions count) stops = absurd stops
plan_answers text (answer.Refused file place reason name) stops = absurd stops
plan_answers text (answer.Unread error) stops = absurd stops
plan_answers text (answer.Judged verdict) stops = absurd stops
plan_answers text (answer.Unspelled place) stops = tt
plan_answers text (answer.TooLarge number) stops = absurd stops
plan_answers text (answer.Converted conversion) stops = absurd stops
plan_answers text (answer.Stopped stop.Usage) stops = absurd stops
plan_answers text (answer.Stopped stop.Memory) stops = tt
plan_answers text (answer.Stopped (stop.Missing at)) stops = absurd stops
plan_answers text (answer.Stopped (stop.ReadFault at)) stops = absurd stops
plan_answers text (answer.Stopped (stop.WriteFault at)) stops = absurd stops
plan_answers text (answer.Stopped stop.NoPipeline) stops = absurd stops
plan_answers text (answer.Stopped (stop.InputTooLarge at)) stops = absurd stops

pub plan_says : (domain problem text : List ℕ) (parts : Parts) (a : Answer) → AreReadAs domain problem parts → StopsPlan text a → Says a domain problem text
plan_says domain problem text parts (answer.Features kind) reads stops = absurd stops
plan_says domain problem text parts (answer.Chain chain) reads stops = absurd stops
plan_says domain problem text parts (answer.Actions count) reads stops = absurd stops
plan_says domain problem text parts (answer.Refused file place reason name) reads stops = absurd stops
plan_says domain problem text parts (answer.Unread error) reads stops = absurd stops
plan_says domain problem text parts (answer.Judged verdict) reads stops = absurd stops
plan_says domain problem text parts (answer.Unspelled place) reads stops = record { read = record { parts = parts; reads = reads }; faulty = stops }
plan_says domain problem text parts (answer.TooLarge number) reads stops = absurd stops
plan_says domain problem text parts (answer.Converted conversion) reads stops = absurd stops
plan_says domain problem text parts (answer.Stopped stop.Usage) reads stops = absurd stops
plan_says domain problem text parts (answer.Stopped stop.Memory) reads stops = tt
plan_says domain problem text parts (answer.Stopped (stop.Missing at)) reads stops = absurd stops
plan_says domain problem text parts (answer.Stopped (stop.ReadFault at)) reads stops = absurd stops
plan_says domain problem text parts (answer.Stopped (stop.WriteFault at)) reads stops = absurd stops
plan_says domain problem text parts (answer.Stopped stop.NoPipeline) reads stops = absurd stops
plan_says domain problem text parts (answer.Stopped (stop.InputTooLarge at)) reads stops = absurd stops

pub judged_answers : (parts : Parts) (plan : Plan) (a : Answer) → IsOnPlan parts plan a → IsPlanAnswer a
judged_answers parts plan (answer.Features kind) on = absurd on
judged_answers parts plan (answer.Chain chain) on = absurd on
judged_answers parts plan (answer.Actions count) on = absurd on
judged_answers parts plan (answer.Refused file place reason name) on = absurd on
judged_answers parts plan (answer.Unread error) on = absurd on
judged_answers parts plan (answer.Judged verdict) on = tt
judged_answers parts plan (answer.Unspelled place) on = absurd on
judged_answers parts plan (answer.TooLarge number) on = tt
judged_answers parts plan (answer.Converted conversion) on = absurd on
judged_answers parts plan (answer.Stopped stop.Usage) on = absurd on
judged_answers parts plan (answer.Stopped stop.Memory) on = tt
judged_answers parts plan (answer.Stopped (stop.Missing at)) on = absurd on
judged_answers parts plan (answer.Stopped (stop.ReadFault at)) on = absurd on
judged_answers parts plan (answer.Stopped (stop.WriteFault at)) on = absurd on
judged_answers parts plan (answer.Stopped stop.NoPipeline) on = absurd on
judged_answers parts plan (answer.Stopped (stop.InputTooLarge at)) on = absurd on

pub judged_says : (domain problem text : List ℕ) (parts : Parts) (plan : Plan) (a : Answer) → AreReadAs domain problem parts → PlanText text plan → IsOnPlan parts plan a
    → Says a domain problem text
judged_says domain problem text parts plan (answer.Features kind) reads spelled on = absurd on
judged_says domain problem text parts plan (answer.Chain chain) reads spelled on = absurd on
judged_says domain problem text parts plan (answer.Actions count) reads spelled on = absurd on
judged_says domain problem text parts plan (answer.Refused file place reason name) reads spelled on = absurd on
judged_says domain problem text parts plan (answer.Unread error) reads spelled on = absurd on
judged_says domain problem text parts plan (answer.Judged verdict) reads spelled on = record { parts = parts; reads = reads; plan = plan; spelled = spelled; holds = on }
judged_says domain problem text parts plan (answer.Unspelled place) reads spelled on = absurd on
judged_says domain problem text parts plan (answer.TooLarge number) reads spelled on = record { parts = parts; reads = reads; plan = plan; spelled = spelled; holds = on }
judged_says domain problem text parts plan (answer.Converted conversion) reads spelled on = absurd on
judged_says domain problem text parts plan (answer.Stopped stop.Usage) reads spelled on = absurd on
judged_says domain problem text parts plan (answer.Stopped stop.Memory) reads spelled on = tt
judged_says domain problem text parts plan (answer.Stopped (stop.Missing at)) reads spelled on = absurd on
judged_says domain problem text parts plan (answer.Stopped (stop.ReadFault at)) reads spelled on = absurd on
judged_says domain problem text parts plan (answer.Stopped (stop.WriteFault at)) reads spelled on = absurd on
judged_says domain problem text parts plan (answer.Stopped stop.NoPipeline) reads spelled on = absurd on
judged_says domain problem text parts plan (answer.Stopped (stop.InputTooLarge at)) reads spelled on = absurd on

pub ruleset on_plan = (read_answers, read_says, plan_answers, plan_says, judged_answers, judged_says)

pub judged_of : (command : Option Command) (a : Answer) → IsPlanAnswer a → IsValidate command → IsOf command a
judged_of command (answer.Features kind) is plan = absurd is
judged_of command (answer.Chain chain) is plan = absurd is
judged_of command (answer.Actions count) is plan = absurd is
judged_of command (answer.Refused file place reason name) is plan = tt
judged_of command (answer.Unread error) is plan = absurd is
judged_of command (answer.Judged verdict) is plan = plan
judged_of command (answer.Unspelled place) is plan = plan
judged_of command (answer.TooLarge number) is plan = plan
judged_of command (answer.Converted conversion) is plan = absurd is
judged_of command (answer.Stopped stop.Usage) is plan = absurd is
judged_of command (answer.Stopped stop.Memory) is plan = tt
judged_of command (answer.Stopped (stop.Missing at)) is plan = absurd is
judged_of command (answer.Stopped (stop.ReadFault at)) is plan = absurd is
judged_of command (answer.Stopped (stop.WriteFault at)) is plan = absurd is
judged_of command (answer.Stopped stop.NoPipeline) is plan = absurd is
judged_of command (answer.Stopped (stop.InputTooLarge at)) is plan = absurd is

pub judged_compiles : (words : List (List ℕ)) (old new : Option Files) (a : Answer) → IsPlanAnswer a → CompilesAt words old new a
judged_compiles words old new (answer.Features kind) is = absurd is
judged_compiles words old new (answer.Chain chain) is = absurd is
judged_compiles words old new (answer.Actions count) is = absurd is
judged_compiles words old new (answer.Refused file place reason name) is = tt
judged_compiles words old new (answer.Unread error) is = absurd is
judged_compiles words old new (answer.Judged verdict) is = tt
judged_compiles words old new (answer.Unspelled place) is = tt
judged_compiles words old new (answer.TooLarge number) is = tt
judged_compiles words old new (answer.Converted conversion) is = absurd is
judged_compiles words old new (answer.Stopped stop.Usage) is = absurd is
judged_compiles words old new (answer.Stopped stop.Memory) is = tt
judged_compiles words old new (answer.Stopped (stop.Missing at)) is = absurd is
judged_compiles words old new (answer.Stopped (stop.ReadFault at)) is = absurd is
judged_compiles words old new (answer.Stopped (stop.WriteFault at)) is = absurd is
judged_compiles words old new (answer.Stopped stop.NoPipeline) is = absurd is
judged_compiles words old new (answer.Stopped (stop.InputTooLarge at)) is = absurd is

reads_plan : (command : Option Command) → IsValidate command → HasPlan command
reads_plan None plan = plan
reads_plan (Some command.Kind) plan = plan
reads_plan (Some command.Pipeline) plan = plan
reads_plan (Some (command.Compile limit)) plan = plan
reads_plan (Some command.Validate) plan = tt
reads_plan (Some command.Back) plan = tt

pub judged_placed : (command : Option Command) (a : Answer) → IsPlanAnswer a → IsValidate command → IsPlaced command (status_of a)
judged_placed command (answer.Features kind) is plan = absurd is
judged_placed command (answer.Chain chain) is plan = absurd is
judged_placed command (answer.Actions count) is plan = absurd is
judged_placed command (answer.Refused file.Domain place reason name) is plan = tt
judged_placed command (answer.Refused file.Problem place reason name) is plan = tt
judged_placed command (answer.Unread error) is plan = absurd is
judged_placed command (answer.Judged (verdict.Valid metric)) is plan = tt
judged_placed command (answer.Judged (verdict.BadStep number reason)) is plan = reads_plan command plan
judged_placed command (answer.Judged verdict.GoalOpen) is plan = reads_plan command plan
judged_placed command (answer.Judged (verdict.Broken number)) is plan = reads_plan command plan
judged_placed command (answer.Unspelled place) is plan = reads_plan command plan
judged_placed command (answer.TooLarge number) is plan = reads_plan command plan
judged_placed command (answer.Converted conversion) is plan = absurd is
judged_placed command (answer.Stopped stop.Usage) is plan = absurd is
judged_placed command (answer.Stopped stop.Memory) is plan = tt
judged_placed command (answer.Stopped (stop.Missing at)) is plan = absurd is
judged_placed command (answer.Stopped (stop.ReadFault at)) is plan = absurd is
judged_placed command (answer.Stopped (stop.WriteFault at)) is plan = absurd is
judged_placed command (answer.Stopped stop.NoPipeline) is plan = absurd is
judged_placed command (answer.Stopped (stop.InputTooLarge at)) is plan = absurd is

-- what holds of done and of each refusal holds of the status of an answer on a plan
by_status : (Holds : Status → Type 0) (a : Answer) → IsPlanAnswer a → Holds Done → ((status : Status) → IsRefusal status → Holds status) → Holds (status_of a)
by_status Holds (answer.Features kind) is done refused = absurd is
by_status Holds (answer.Chain chain) is done refused = absurd is
by_status Holds (answer.Actions count) is done refused = absurd is
by_status Holds (answer.Refused file.Domain place reason name) is done refused = refused DomainRefused tt
by_status Holds (answer.Refused file.Problem place reason name) is done refused = refused ProblemRefused tt
by_status Holds (answer.Unread error) is done refused = absurd is
by_status Holds (answer.Judged (verdict.Valid metric)) is done refused = done
by_status Holds (answer.Judged (verdict.BadStep number reason)) is done refused = refused PlanInvalid tt
by_status Holds (answer.Judged verdict.GoalOpen) is done refused = refused PlanInvalid tt
by_status Holds (answer.Judged (verdict.Broken number)) is done refused = refused PlanInvalid tt
by_status Holds (answer.Unspelled place) is done refused = refused PlanRefused tt
by_status Holds (answer.TooLarge number) is done refused = refused NumberTooLarge tt
by_status Holds (answer.Converted conversion) is done refused = absurd is
by_status Holds (answer.Stopped stop.Usage) is done refused = absurd is
by_status Holds (answer.Stopped stop.Memory) is done refused = refused Memory tt
by_status Holds (answer.Stopped (stop.Missing at)) is done refused = absurd is
by_status Holds (answer.Stopped (stop.ReadFault at)) is done refused = absurd is
by_status Holds (answer.Stopped (stop.WriteFault at)) is done refused = absurd is
by_status Holds (answer.Stopped stop.NoPipeline) is done refused = absurd is
by_status Holds (answer.Stopped (stop.InputTooLarge at)) is done refused = absurd is

no_outputs : (command : Option Command) → IsValidate command → ¬ HasOutputs command
no_outputs None plan = λ has. has
no_outputs (Some command.Kind) plan = λ has. has
no_outputs (Some command.Pipeline) plan = λ has. has
no_outputs (Some (command.Compile limit)) plan = absurd plan
no_outputs (Some command.Validate) plan = λ has. has
no_outputs (Some command.Back) plan = absurd plan

done_told : (words : List (List ℕ)) (held : Option Files) → IfSome held (StopsAt words Done)
done_told words None = tt
done_told words (Some files) = tt

pub judged_within : (words : List (List ℕ)) (a : Answer) → IsPlanAnswer a → HasPlace words (status_of a)
judged_within words a is = by_status (HasPlace words) a is tt (refusal_within words)

pub judged_fit : (a : Answer) → IsPlanAnswer a → ¬ (status_of a ≡ Usage)
judged_fit a is = by_status (λ status. ¬ (status ≡ Usage)) a is (λ same. cc) refusal_fit

pub judged_put : (a : Answer) → IsPlanAnswer a → ¬ (status_of a ≡ WriteFault None)
judged_put a is = by_status (λ status. ¬ (status ≡ WriteFault None)) a is (λ same. cc) refusal_put

pub judged_held : (words : List (List ℕ)) (old new : Option Files) (a : Answer) → IsPlanAnswer a → IsValidate (command_of words) → new ≡ old
    → Leaves words old new (status_of a)
judged_held words old new a is plan same =
    by_status (Leaves words old new) a is (Leaves.untouched (no_outputs (command_of words) plan) same) (λ status kind. refusal_held words old new status kind same)

pub judged_read : {S : Type 0} (faults misses larges : S → List ℕ → ℕ) (words : List (List ℕ)) (old new : S) (a : Answer) → IsPlanAnswer a
    → ReadCause faults misses larges words old new (status_of a)
judged_read faults misses larges words old new a is =
    by_status (ReadCause faults misses larges words old new) a is tt (refusal_read faults misses larges words old new)

pub judged_write : {S : Type 0} (losses : S → List ℕ → ℕ) (words : List (List ℕ)) (old new : S) (a : Answer) → IsPlanAnswer a
    → WriteCause losses words old new (status_of a)
judged_write losses words old new a is = by_status (WriteCause losses words old new) a is tt (refusal_write losses words old new)

pub judged_told : (words : List (List ℕ)) (held : Option Files) (a : Answer) → IsPlanAnswer a → IfSome held (StopsAt words (status_of a))
judged_told words held a is =
    by_status (λ status. IfSome held (StopsAt words status)) a is (done_told words held) (λ status kind. refusal_told words status held kind)

pub judged_first : (words : List (List ℕ)) (end : ℕ) (held : Option Files) (a : Answer) → IsPlanAnswer a → inputs_end (command_of words) ≡ end
    → IfSome held (AreReadable words end) → IfSome held (StopsFirst words (status_of a))
judged_first words end held a is same all =
    by_status (λ status. IfSome held (StopsFirst words status)) a is (done_first words end held same all) (λ status kind. refusal_first words status end held kind same all)

pub ruleset judged = (judged_of, judged_compiles, judged_placed, judged_within, judged_fit, judged_put, judged_held, judged_read, judged_write, judged_told, judged_first, says_tells)

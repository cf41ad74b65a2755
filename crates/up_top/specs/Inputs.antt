-- What the held inputs are, and what an answer says of them.
use Rattle.std.specs.Prelude.{◌≡◌, ⊤, ℕ, List, [], length, Option, None, Some, Result, Ok, Err, option_and_then}
use Rattle.up_store.specs.Outside.{Files}
use Rattle.up_text.specs.declared.place.Place.{Place}
use Rattle.up_kind.specs.declared.kind.Kind.{Kind}
use Rattle.up_kind.specs.Carried.{carries}
use Rattle.up_kind.specs.Features.{has}
use Rattle.up_compiler.specs.declared.id.CompilerId.{CompilerId}
use Rattle.up_tree.specs.declared.problem.Parts.{Parts}
use Rattle.up_tree.specs.declared.problem.Plan.{Plan}
use Rattle.up_check.specs.declared.refusal.ReadError.TheVariants as read
use Rattle.up_check.specs.Passes.{AreShallow, FirstFault, Reads}
use Rattle.up_pipeline.specs.declared.engine.Engine.{Engine}
use Rattle.up_pipeline.specs.declared.engine.EngineError.{EngineError}
use Rattle.up_pipeline.specs.declared.engine.EngineError.TheVariants as unread
use Rattle.up_pipeline.specs.Engine.{engine_of}
use Rattle.up_pipeline.specs.Chains.{IsBest, NoneFits}
use Rattle.plan_text.specs.declared.error.PlanTextError.TheVariants.{Bad}
use Rattle.plan_text.specs.Spells.{PlanText}
use Rattle.plan_text.specs.Texts.{first_fault}
use Rattle.up_compiler.specs.declared.back.Entry.{Entry}
use Rattle.up_compiler.specs.Back.{back}
use Rattle.up_map.specs.declared.map.Map.{Map}
use Rattle.up_map.specs.declared.map_error.MapError.{MapError}
use Rattle.up_map.specs.declared.map_error.MapError.TheVariants as line
use Rattle.up_map.specs.declared.back_error.BackError.{BackError}
use Rattle.up_map.specs.declared.back_error.BackError.TheVariants as unfit
use Rattle.up_map.specs.Reading.{first_fault as first_line}
use Rattle.up_map.specs.Spells.{MapText}
use Rattle.up_map.specs.Unfit.{first_unfit}
use Rattle.up_validate.specs.declared.verdict.Verdict.TheVariants as verdict
use Rattle.up_validate.specs.Verdicts.{IsVerdict, MeetsBig}
use Rattle.up_top.specs.declared.answer.Stop.TheVariants as stop
use Rattle.up_top.specs.declared.answer.Conversion.{Conversion}
use Rattle.up_top.specs.declared.answer.Conversion.TheVariants as conversion
use Rattle.up_top.specs.declared.answer.Answer.{Answer}
use Rattle.up_top.specs.declared.answer.Answer.TheVariants as answer
use Rattle.up_top.specs.Words.{command_of}
use Rattle.up_top.specs.Cause.{IsHeld, HasThird}

-- the two texts are read as this problem: they read as it, and open no bracket too deep
pub record AreReadAs (domain problem : List ℕ) (parts : Parts) : Type 0 where
  pub reads : Reads domain problem parts
  pub shallow : AreShallow domain problem

-- the two texts read as a problem
pub record AreRead (domain problem : List ℕ) : Type 0 where
  pub parts : Parts
  pub reads : AreReadAs domain problem parts

-- the features of the problem that two texts read as
pub record HasFeatures (domain problem : List ℕ) (kind : Kind) : Type 0 where
  pub parts : Parts
  pub reads : AreReadAs domain problem parts
  pub features : has kind.0 ≡ carries parts

-- the chain that is chosen for a problem and an engine text
pub record IsChosen (engine : List ℕ) (problem : Parts) (stages : List CompilerId) : Type 0 where
  pub engine_is : Engine
  pub says : engine_of engine ≡ Ok engine_is
  pub best : IsBest [] (has engine_is.features.0) (carries problem) stages

-- no chain fits a problem and an engine text
pub record NoChain (engine : List ℕ) (problem : Parts) : Type 0 where
  pub engine_is : Engine
  pub says : engine_of engine ≡ Ok engine_is
  pub none : NoneFits [] (has engine_is.features.0) (carries problem)

-- the chain for three texts
pub record HasChain (domain problem engine : List ℕ) (stages : List CompilerId) : Type 0 where
  pub parts : Parts
  pub reads : AreReadAs domain problem parts
  pub chosen : IsChosen engine parts stages

-- no chain for three texts
pub record HasNoChain (domain problem engine : List ℕ) : Type 0 where
  pub parts : Parts
  pub reads : AreReadAs domain problem parts
  pub none : NoChain engine parts

-- both texts are read, and the engine text is refused by this
pub record HasNoEngine (domain problem engine : List ℕ) (refusal : Result Engine EngineError) : Type 0 where
  pub read : AreRead domain problem
  pub says : engine_of engine ≡ refusal

-- both texts are read, and the plan text has its first fault at this place
pub record HasNoPlan (domain problem text : List ℕ) (place : Place) : Type 0 where
  pub read : AreRead domain problem
  pub faulty : first_fault text ≡ Some (Bad place)

-- this holds of the problem that both texts read as and the plan that the plan text spells
pub record OfPlan (domain problem text : List ℕ) (Holds : Parts → Plan → Type 0) : Type 0 where
  pub parts : Parts
  pub reads : AreReadAs domain problem parts
  pub plan : Plan
  pub spelled : PlanText text plan
  pub holds : Holds parts plan

-- this many actions has the problem that both texts read as
pub record IsCounted (domain problem : List ℕ) (count : ℕ) : Type 0 where
  pub parts : Parts
  pub reads : AreReadAs domain problem parts
  pub counted : count ≡ length parts.actions

-- ---- conversions

-- the number of a step that a map doesn't fit
abbrev pub unfit_number : BackError → Option ℕ
unfit_number unfit.Memory = None
unfit_number (unfit.UnknownAction number) = Some number
unfit_number (unfit.Arity number) = Some number

-- the first step whose action has no entry, or one for another number of arguments, has this number
abbrev pub IsUnfit : List Entry → Plan → ℕ → Type 0
IsUnfit entries plan number = option_and_then unfit_number (first_unfit entries 1 plan.steps) ≡ Some number

-- the map that a map text spells, the plan that a plan text spells, and this holds of the two
pub record AreSpelled (map plan : List ℕ) (Holds : List Entry → Plan → Type 0) : Type 0 where
  pub of_map : Map
  pub of_plan : Plan
  pub spelled_map : MapText map of_map
  pub spelled_plan : PlanText plan of_plan
  pub holds : Holds of_map.back of_plan

-- the plan that a map text makes of a plan text
abbrev pub IsMade : List ℕ → List ℕ → Plan → Type 0
IsMade map plan made = AreSpelled map plan (λ entries engine. back entries engine ≡ Some made)

-- a map text is read, and the plan text has its first fault at this place
pub record IsUnspelled (map plan : List ℕ) (place : Place) : Type 0 where
  pub of_map : Map
  pub spelled_map : MapText map of_map
  pub faulty : first_fault plan ≡ Some (Bad place)

-- the domain and problem texts are read, and this holds
pub record Behind (domain problem : List ℕ) (Holds : Type 0) : Type 0 where
  pub read : AreRead domain problem
  pub holds : Holds

-- this holds of the problem that the domain and problem texts read as and the plan that the map makes of the plan
pub record OfMade (domain problem map plan : List ℕ) (Holds : Parts → Plan → Type 0) : Type 0 where
  pub parts : Parts
  pub reads : AreReadAs domain problem parts
  pub made : Plan
  pub is_made : IsMade map plan made
  pub holds : Holds parts made

-- What a conversion says of the texts of a domain, a problem, a map and a plan.
abbrev pub SaysBack : Conversion → List ℕ → List ℕ → List ℕ → List ℕ → Type 0
SaysBack (conversion.BadLine number) domain problem map plan = Behind domain problem (first_line map ≡ Some (line.Bad number))
SaysBack (conversion.SecondLine number) domain problem map plan = Behind domain problem (first_line map ≡ Some (line.DoubleName number))
SaysBack (conversion.Unspelled place) domain problem map plan = Behind domain problem (IsUnspelled map plan place)
SaysBack (conversion.Unfit number) domain problem map plan =
    Behind domain problem (AreSpelled map plan (λ entries engine. IsUnfit entries engine number))
SaysBack (conversion.Judged verdict) domain problem map plan = OfMade domain problem map plan (λ parts made. IsVerdict parts made verdict)
SaysBack (conversion.TooLarge number) domain problem map plan = OfMade domain problem map plan (λ parts made. MeetsBig parts made number)

-- ---- answers

-- What an answer says of the texts of a domain, a problem and an engine or a plan. A conversion says more.
abbrev pub Says : Answer → List ℕ → List ℕ → List ℕ → Type 0
Says (answer.Features kind) domain problem third = HasFeatures domain problem kind
Says (answer.Chain chain) domain problem third = HasChain domain problem third chain.stages
Says (answer.Actions count) domain problem third = IsCounted domain problem count
Says (answer.Refused file place reason name) domain problem third = FirstFault domain problem (read.Refused file place reason name)
Says (answer.Unread unread.Memory) domain problem third = ⊤
Says (answer.Unread error) domain problem third = HasNoEngine domain problem third (Err error)
Says (answer.Judged verdict) domain problem third = OfPlan domain problem third (λ parts plan. IsVerdict parts plan verdict)
Says (answer.Unspelled place) domain problem third = HasNoPlan domain problem third place
Says (answer.TooLarge number) domain problem third = OfPlan domain problem third (λ parts plan. MeetsBig parts plan number)
Says (answer.Converted conversion) domain problem third = ⊥
Says (answer.Stopped stop.NoPipeline) domain problem third = HasNoChain domain problem third
Says (answer.Stopped (stop.WriteFault at)) domain problem third = AreRead domain problem
Says (answer.Stopped stop) domain problem third = ⊤

-- the texts of a domain and a problem are held
pub record AreSources (words : List (List ℕ)) (domain problem : List ℕ) (files : Files) : Type 0 where
  pub holds_domain : IsHeld words 1 domain files
  pub holds_problem : IsHeld words 2 problem files

-- the texts of the inputs are held
pub record AreInputs (words : List (List ℕ)) (domain problem third : List ℕ) (files : Files) : Type 0 where
  pub sources : AreSources words domain problem files
  pub holds_third : HasThird (command_of words) → IsHeld words 3 third files

-- what an answer says of the held texts
pub record SaysOfHeld (words : List (List ℕ)) (answer : Answer) (files : Files) : Type 0 where
  pub domain : List ℕ
  pub problem : List ℕ
  pub third : List ℕ
  pub held : AreInputs words domain problem third files
  pub says : Says answer domain problem third

-- the texts of a domain, a problem, a map and a plan are held
pub record AreFour (words : List (List ℕ)) (domain problem map plan : List ℕ) (files : Files) : Type 0 where
  pub sources : AreSources words domain problem files
  pub holds_map : IsHeld words 3 map files
  pub holds_plan : IsHeld words 4 plan files

-- what a conversion says of the held texts
pub record SaysBackOfHeld (words : List (List ℕ)) (conversion : Conversion) (files : Files) : Type 0 where
  pub domain : List ℕ
  pub problem : List ℕ
  pub map : List ℕ
  pub plan : List ℕ
  pub held : AreFour words domain problem map plan files
  pub says : SaysBack conversion domain problem map plan

-- An answer holds of the held texts, but for one at which the run stops before it has read them all.
abbrev pub Tells : List (List ℕ) → Answer → Files → Type 0
Tells words (answer.Stopped stop.Usage) files = ⊤
Tells words (answer.Stopped stop.Memory) files = ⊤
Tells words (answer.Stopped (stop.Missing at)) files = ⊤
Tells words (answer.Stopped (stop.ReadFault at)) files = ⊤
Tells words (answer.Stopped (stop.InputTooLarge at)) files = ⊤
Tells words (answer.Converted conversion) files = SaysBackOfHeld words conversion files
Tells words answer files = SaysOfHeld words answer files

-- ---- the answers at which the reading of the texts stops

abbrev pub StopsRead : List ℕ → List ℕ → Answer → Type 0
StopsRead domain problem (answer.Refused file place reason name) = FirstFault domain problem (read.Refused file place reason name)
StopsRead domain problem (answer.Stopped stop.Memory) = ⊤
StopsRead domain problem answer = ⊥

abbrev pub StopsChoice : List ℕ → Parts → Answer → Type 0
StopsChoice engine problem (answer.Unread unread.Memory) = ⊤
StopsChoice engine problem (answer.Unread error) = engine_of engine ≡ Err error
StopsChoice engine problem (answer.Stopped stop.NoPipeline) = NoChain engine problem
StopsChoice engine problem (answer.Stopped stop.Memory) = ⊤
StopsChoice engine problem answer = ⊥

-- the answers at which a command over three texts ends before it writes
abbrev pub IsEarly : Answer → Type 0
IsEarly (answer.Refused file place reason name) = ⊤
IsEarly (answer.Unread error) = ⊤
IsEarly (answer.Stopped stop.NoPipeline) = ⊤
IsEarly (answer.Stopped stop.Memory) = ⊤
IsEarly answer = ⊥

-- a command over three texts ends before it writes, and says why
pub record StopsBefore (domain problem engine : List ℕ) (a : Answer) : Type 0 where
  pub early : IsEarly a
  pub says : Says a domain problem engine

-- ---- the answers of a command over a plan

abbrev pub StopsPlan : List ℕ → Answer → Type 0
StopsPlan text (answer.Unspelled place) = first_fault text ≡ Some (Bad place)
StopsPlan text (answer.Stopped stop.Memory) = ⊤
StopsPlan text answer = ⊥

abbrev pub IsOnPlan : Parts → Plan → Answer → Type 0
IsOnPlan parts plan (answer.Judged verdict) = IsVerdict parts plan verdict
IsOnPlan parts plan (answer.TooLarge number) = MeetsBig parts plan number
IsOnPlan parts plan (answer.Stopped stop.Memory) = ⊤
IsOnPlan parts plan answer = ⊥

abbrev pub IsPlanAnswer : Answer → Type 0
IsPlanAnswer (answer.Refused file place reason name) = ⊤
IsPlanAnswer (answer.Judged verdict) = ⊤
IsPlanAnswer (answer.Unspelled place) = ⊤
IsPlanAnswer (answer.TooLarge number) = ⊤
IsPlanAnswer (answer.Stopped stop.Memory) = ⊤
IsPlanAnswer answer = ⊥

-- ---- the answers of a command over a map and a plan

abbrev pub StopsMap : List ℕ → Answer → Type 0
StopsMap text (answer.Converted (conversion.BadLine number)) = first_line text ≡ Some (line.Bad number)
StopsMap text (answer.Converted (conversion.SecondLine number)) = first_line text ≡ Some (line.DoubleName number)
StopsMap text (answer.Stopped stop.Memory) = ⊤
StopsMap text answer = ⊥

abbrev pub StopsEnginePlan : List ℕ → Answer → Type 0
StopsEnginePlan text (answer.Converted (conversion.Unspelled place)) = first_fault text ≡ Some (Bad place)
StopsEnginePlan text (answer.Stopped stop.Memory) = ⊤
StopsEnginePlan text answer = ⊥

abbrev pub StopsFit : List Entry → Plan → Answer → Type 0
StopsFit entries plan (answer.Converted (conversion.Unfit number)) = IsUnfit entries plan number
StopsFit entries plan (answer.Stopped stop.Memory) = ⊤
StopsFit entries plan answer = ⊥

-- no plan is made of a map text and a plan text
abbrev pub StopsMade : List ℕ → List ℕ → Answer → Type 0
StopsMade map plan (answer.Converted (conversion.BadLine number)) = first_line map ≡ Some (line.Bad number)
StopsMade map plan (answer.Converted (conversion.SecondLine number)) = first_line map ≡ Some (line.DoubleName number)
StopsMade map plan (answer.Converted (conversion.Unspelled place)) = IsUnspelled map plan place
StopsMade map plan (answer.Converted (conversion.Unfit number)) = AreSpelled map plan (λ entries engine. IsUnfit entries engine number)
StopsMade map plan (answer.Stopped stop.Memory) = ⊤
StopsMade map plan answer = ⊥

-- a plan that was made isn't valid for a problem, or is not judged
abbrev pub StopsValid : Parts → Plan → Answer → Type 0
StopsValid parts made (answer.Converted (conversion.Judged (verdict.Valid metric))) = ⊥
StopsValid parts made (answer.Converted (conversion.Judged verdict)) = IsVerdict parts made verdict
StopsValid parts made (answer.Converted (conversion.TooLarge number)) = MeetsBig parts made number
StopsValid parts made (answer.Stopped stop.Memory) = ⊤
StopsValid parts made answer = ⊥

-- a run of `back` ends before it writes
abbrev pub IsBackEarly : Answer → Type 0
IsBackEarly (answer.Refused file place reason name) = ⊤
IsBackEarly (answer.Converted (conversion.Judged (verdict.Valid metric))) = ⊥
IsBackEarly (answer.Converted conversion) = ⊤
IsBackEarly (answer.Stopped stop.Memory) = ⊤
IsBackEarly answer = ⊥

-- what an answer before the write says of the four texts
abbrev pub SaysEarly : Answer → List ℕ → List ℕ → List ℕ → List ℕ → Type 0
SaysEarly (answer.Converted conversion) domain problem map plan = SaysBack conversion domain problem map plan
SaysEarly answer domain problem map plan = Says answer domain problem map

-- a run of `back` ends before it writes, and says why
pub record StopsBack (domain problem map plan : List ℕ) (a : Answer) : Type 0 where
  pub early : IsBackEarly a
  pub says : SaysEarly a domain problem map plan

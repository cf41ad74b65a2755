-- The status that is due to a compile, where nothing fails and memory suffices.
use Rattle.std.specs.Prelude.{◌≡◌, ⊤, true, ℕ, List, [], Option, Some, Ok, Err}
use Rattle.up_store.specs.Outside.{Files}
use Rattle.up_text.specs.declared.place.Place.{Place}
use Rattle.up_text.specs.declared.name.Name.{Name}
use Rattle.up_tree.specs.declared.problem.Parts.{Parts}
use Rattle.up_kind.specs.Carried.{carries}
use Rattle.up_kind.specs.Features.{has}
use Rattle.up_compiler.specs.declared.id.CompilerId.{CompilerId}
use Rattle.up_phrase.specs.declared.reason.Reason.{Reason}
use Rattle.up_check.specs.declared.refusal.File.TheVariants.{Domain, Problem}
use Rattle.up_check.specs.declared.refusal.ReadError.TheVariants.{Refused}
use Rattle.up_check.specs.Passes.{AreShallow, FirstFault}
use Rattle.grammar_texts.specs.Spelled.{TextsSpell}
use Rattle.up_pipeline.specs.declared.engine.Engine.{Engine}
use Rattle.up_pipeline.specs.declared.engine.EngineError.{EngineError}
use Rattle.up_pipeline.specs.Engine.{engine_of}
use Rattle.up_pipeline.specs.Chains.{IsOver, fits}
use Rattle.up_top.specs.declared.status.Status.{Status}
use Rattle.up_top.specs.declared.status.Status.TheVariants.{Done, Memory, DomainRefused, ProblemRefused, EngineRefused, NoPipeline}
use Rattle.up_top.specs.Inputs.{NoChain}
use Rattle.up_top.specs.Words.{word_at}

-- two texts spell this problem, and open no bracket too deep
pub record AreTakenAs (domain problem : List ℕ) (parts : Parts) : Type 0 where
  pub spelled : TextsSpell domain problem parts
  pub shallow : AreShallow domain problem

-- a chain of the compilers leads from the problem to the engine that the text says
pub record AChainFits (engine : List ℕ) (problem : Parts) : Type 0 where
  pub engine_is : Engine
  pub says : engine_of engine ≡ Ok engine_is
  pub chain : List CompilerId
  pub over : IsOver [] chain
  pub fitting : fits (has engine_is.features.0) (carries problem) chain ≡ true

-- what a compile of a domain, a problem and an engine text ends with
pub data IsDue (domain problem engine : List ℕ) : Status → Type 0 where
  refused_domain : (place : Place) (reason : Reason) (name : Option Name) → FirstFault domain problem (Refused Domain place reason name)
      → IsDue domain problem engine DomainRefused
  refused_problem : (place : Place) (reason : Reason) (name : Option Name) → FirstFault domain problem (Refused Problem place reason name)
      → IsDue domain problem engine ProblemRefused
  refused_engine : (parts : Parts) (error : EngineError) → AreTakenAs domain problem parts → engine_of engine ≡ Err error
      → IsDue domain problem engine EngineRefused
  unfit : (parts : Parts) → AreTakenAs domain problem parts → NoChain engine parts → IsDue domain problem engine NoPipeline
  done : (parts : Parts) → AreTakenAs domain problem parts → AChainFits engine parts → IsDue domain problem engine Done

-- the same of the texts that the first three words name
pub record IsDueAt (words : List (List ℕ)) (files : Files) (status : Status) : Type 0 where
  pub domain : List ℕ
  pub problem : List ℕ
  pub engine : List ℕ
  pub holds_domain : files (word_at words 1) ≡ Some domain
  pub holds_problem : files (word_at words 2) ≡ Some problem
  pub holds_engine : files (word_at words 3) ≡ Some engine
  pub due : IsDue domain problem engine status

-- the status that was due, or want of memory
pub data IsOrMemory (due : Status) : Status → Type 0 where
  is_due : IsOrMemory due due
  no_memory : IsOrMemory due Memory

-- a compile that is done, or that refused a text or found no chain, was due to
abbrev pub WasDue : List (List ℕ) → Files → Status → Type 0
WasDue words files Done = IsDueAt words files Done
WasDue words files DomainRefused = IsDueAt words files DomainRefused
WasDue words files ProblemRefused = IsDueAt words files ProblemRefused
WasDue words files EngineRefused = IsDueAt words files EngineRefused
WasDue words files NoPipeline = IsDueAt words files NoPipeline
WasDue words files status = ⊤

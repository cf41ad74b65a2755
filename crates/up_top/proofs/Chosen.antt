-- Chains that were chosen, and what was answered where none was.
use Rattle.std.proofs.Common.{◌≡◌, ℕ, List, [], Result, Ok, Err, sym}
use Rattle.up_kind.specs.Carried.{carries}
use Rattle.up_kind.specs.Features.{FeatureSet, has}
use Rattle.up_compiler.specs.declared.id.CompilerId.{CompilerId}
use Rattle.up_tree.specs.declared.problem.Parts.{Parts}
use Rattle.up_pipeline.specs.declared.engine.Engine.{Engine}
use Rattle.up_pipeline.specs.declared.engine.EngineError.{EngineError}
use Rattle.up_pipeline.specs.declared.engine.EngineError.TheVariants as engine
use Rattle.up_pipeline.specs.Engine.{engine_of, Gives}
use Rattle.up_pipeline.specs.Chains.{IsBest, NoneFits}
use Rattle.up_top.specs.declared.answer.Answer.TheVariants as answer
use Rattle.up_top.specs.Inputs.{IsChosen, NoChain, StopsChoice}

pub chosen : (text : List ℕ) (problem : Parts) (stages : List CompilerId) (of : Engine) (K : FeatureSet) → Gives (engine_of text) (Ok of)
    → IsBest [] (has of.features.0) K stages → K ≡ carries problem → IsChosen text problem stages
chosen text problem stages of K gives best same = record { engine_is = of; says = sym (gives (λ other. cc)); best = rw same at best }

pub not_chosen : (text : List ℕ) (problem : Parts) (of : Engine) (K : FeatureSet) → Gives (engine_of text) (Ok of)
    → NoneFits [] (has of.features.0) K → K ≡ carries problem → NoChain text problem
not_chosen text problem of K gives none same = record { engine_is = of; says = sym (gives (λ other. cc)); none = rw same at none }

pub not_read : (text : List ℕ) (problem : Parts) (error : EngineError) → Gives (engine_of text) (Err error) → StopsChoice text problem (answer.Unread error)
not_read text problem engine.Memory gives = tt
not_read text problem engine.Toml gives = sym (gives (λ other. cc))
not_read text problem (engine.UnknownKey word) gives = sym (gives (λ other. cc))
not_read text problem (engine.NoKey word) gives = sym (gives (λ other. cc))
not_read text problem (engine.WrongType word) gives = sym (gives (λ other. cc))
not_read text problem (engine.UnknownFeature word) gives = sym (gives (λ other. cc))

pub ruleset chosen_or_not = (chosen, not_chosen, not_read)

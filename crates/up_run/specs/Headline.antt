-- What a compile promises: the problem that it wrote is accepted by the engine, and has the plans of the source by the map.
use Rattle.std.specs.Prelude.{◌≡◌, true, ℕ, List, Some, Ok}
use Rattle.up_store.specs.Outside.{Files}
use Rattle.up_tree.specs.declared.problem.Parts.{Parts}
use Rattle.grammar_texts.specs.Spelled.{TextsSpell}
use Rattle.up_kind.specs.Carried.{carries}
use Rattle.up_kind.specs.Features.{has}
use Rattle.up_pipeline.specs.declared.engine.Engine.{Engine}
use Rattle.up_pipeline.specs.Engine.{engine_of}
use Rattle.up_pipeline.specs.Chains.{accepts}
use Rattle.up_map.specs.declared.map.Map.{Map}
use Rattle.up_map.specs.Spells.{MapText}
use Rattle.same_plans.specs.SamePlans.{SamePlans}
use Rattle.up_top.specs.Words.{word_at}

-- the word at a place names this text
abbrev pub Holds : Files → List (List ℕ) → ℕ → List ℕ → Type 0
Holds files words at text = files (word_at words at) ≡ Some text

-- the words at two places name a domain text and a problem text that spell this problem
pub record HoldsProblem (files : Files) (words : List (List ℕ)) (first second : ℕ) (parts : Parts) : Type 0 where
  pub domain : List ℕ
  pub problem : List ℕ
  pub holds_domain : Holds files words first domain
  pub holds_problem : Holds files words second problem
  pub spelled : TextsSpell domain problem parts

-- the word at a place names a text that says this engine
pub record HoldsEngine (files : Files) (words : List (List ℕ)) (at : ℕ) (engine : Engine) : Type 0 where
  pub text : List ℕ
  pub holds : Holds files words at text
  pub says : engine_of text ≡ Ok engine

-- the word at a place names a text that spells this map
pub record HoldsMap (files : Files) (words : List (List ℕ)) (at : ℕ) (map : Map) : Type 0 where
  pub text : List ℕ
  pub holds : Holds files words at text
  pub spelled : MapText text map

-- The words name a source and an engine before the run, and a written problem and a map after it. The engine accepts the
-- features of the written problem, and the plans of the source are exactly what the map makes of the written problem's
-- plans, at the same metric.
pub record Headline (words : List (List ℕ)) (before after : Files) : Type 0 where
  pub source : Parts
  pub engine : Engine
  pub written : Parts
  pub map : Map
  pub holds_source : HoldsProblem before words 1 2 source
  pub holds_engine : HoldsEngine before words 3 engine
  pub holds_written : HoldsProblem after words 4 5 written
  pub holds_map : HoldsMap after words 6 map
  pub accepted : accepts (has engine.features.0) (carries written) ≡ true
  pub same : SamePlans source written map.back

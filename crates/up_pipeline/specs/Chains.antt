-- Chains of compilers that lead from a set of features to one that an engine accepts.
use Rattle.std.specs.Prelude.{◌≡◌, ◌⊎◌, ⊤, ℕ, ◌<◌, Bool, true, false, ◌&&◌, List, [], ◌∷◌, length}
use Rattle.up_text.specs.Lists.{Every, Member}
use Rattle.up_kind.specs.Features.{FeatureSet, is_subset, visible}
use Rattle.up_compiler.specs.declared.id.CompilerId.{CompilerId}
use Rattle.up_compiler.specs.declared.id.CompilerId.TheVariants.{Objects, Quantifiers, Conditionals, Disjunctions, Overlaps, Negations, Grounder, Types, Trajectory}
use Rattle.up_compiler.specs.Table.{admits, row_result}

-- an engine that lists these features accepts the set: its visible features are all listed
abbrev pub accepts : FeatureSet → FeatureSet → Bool
accepts listed K = is_subset (visible K) listed

-- each stage admits the set before it, and the engine accepts the last one
abbrev pub fits : FeatureSet → FeatureSet → List CompilerId → Bool
fits listed K [] = accepts listed K
fits listed K (id ∷ chain) = admits id K && fits listed (row_result id K) chain

-- the place in the table
abbrev pub place_of : CompilerId → ℕ
place_of Objects = 0
place_of Quantifiers = 1
place_of Conditionals = 2
place_of Disjunctions = 3
place_of Overlaps = 4
place_of Negations = 5
place_of Grounder = 6
place_of Types = 7
place_of Trajectory = 8

-- in table order, each once
abbrev pub Ascend : List CompilerId → Type 0
Ascend [] = ⊤
Ascend (id ∷ ids) = Every (λ later. place_of id < place_of later) ids × Ascend ids

abbrev pub IsOver : List CompilerId → List CompilerId → Type 0
IsOver ids chain = Every (λ id. Member id ids) chain

-- the one chain comes before the other in table order, compared stage by stage, or is the same
abbrev pub IsNoLater : List CompilerId → List CompilerId → Type 0
IsNoLater [] other = ⊤
IsNoLater (id ∷ chain) [] = ⊥
IsNoLater (id ∷ chain) (first ∷ other) = (place_of id < place_of first) ⊎ ((id ≡ first) × IsNoLater chain other)

-- of all chains over these compilers that fit, the shortest, and the first of these in table order
pub record IsBest (ids : List CompilerId) (listed K : FeatureSet) (chain : List CompilerId) : Type 0 where
  pub over : IsOver ids chain
  pub fitting : fits listed K chain ≡ true
  pub best : (other : List CompilerId) → IsOver ids other → fits listed K other ≡ true
      → (length chain < length other) ⊎ ((length chain ≡ length other) × IsNoLater chain other)

-- no chain over these compilers fits
abbrev pub NoneFits : List CompilerId → FeatureSet → FeatureSet → Type 0
NoneFits ids listed K = (chain : List CompilerId) → IsOver ids chain → fits listed K chain ≡ false

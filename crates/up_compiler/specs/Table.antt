-- The table of the compilers, over sets of features.
use Rattle.std.specs.Prelude.{ℕ, Bool, false, ◌&&◌, ◌||◌, not, List, [], ◌∷◌, Option, codes, find, bytes_eq}
use Rattle.std.specs.List.{list_all, list_any}
use Rattle.up_kind.specs.declared.feature.Feature.{Feature}
use Rattle.up_kind.specs.declared.feature.Feature.TheVariants.{FlatTyping, HierarchicalTyping, ActionParameters, NegativeConditions, DisjunctiveConditions, Equalities, ExistentialConditions, UniversalConditions, ConditionalEffects, ForallEffects, ObjectFluents, TrajectoryConstraints, EffectOverlap, ObjectTermsUnderForall, PartialFluents}
use Rattle.up_kind.specs.Features.{FeatureSet, is_in, none, either, minus}
use Rattle.up_compiler.specs.declared.id.CompilerId.{CompilerId}
use Rattle.up_compiler.specs.declared.id.CompilerId.TheVariants.{Objects, Quantifiers, Conditionals, Disjunctions, Overlaps, Negations, Grounder, Types, Trajectory}

abbrev pub compiler_name : CompilerId → List ℕ
compiler_name Objects = codes "objects"
compiler_name Quantifiers = codes "quantifiers"
compiler_name Conditionals = codes "conditionals"
compiler_name Disjunctions = codes "disjunctions"
compiler_name Overlaps = codes "overlaps"
compiler_name Negations = codes "negations"
compiler_name Grounder = codes "grounder"
compiler_name Types = codes "types"
compiler_name Trajectory = codes "trajectory"

-- the compilers in the order of the table
unfoldable pub all_compilers : List CompilerId
all_compilers = Objects ∷ Quantifiers ∷ Conditionals ∷ Disjunctions ∷ Overlaps ∷ Negations ∷ Grounder ∷ Types ∷ Trajectory ∷ []

-- the compiler of this name
unfoldable pub compiler_of : List ℕ → Option CompilerId
compiler_of text = find (λ id. bytes_eq (compiler_name id) text) all_compilers

-- the features that a compiler doesn't accept, whatever else there is
abbrev pub refused : CompilerId → List Feature
refused Objects = ObjectTermsUnderForall ∷ TrajectoryConstraints ∷ []
refused Quantifiers = TrajectoryConstraints ∷ []
refused Conditionals = ForallEffects ∷ TrajectoryConstraints ∷ []
refused Disjunctions = ExistentialConditions ∷ UniversalConditions ∷ ConditionalEffects ∷ TrajectoryConstraints ∷ []
refused Overlaps = ConditionalEffects ∷ ForallEffects ∷ ObjectFluents ∷ TrajectoryConstraints ∷ []
refused Negations = ConditionalEffects ∷ ForallEffects ∷ ObjectFluents ∷ EffectOverlap ∷ TrajectoryConstraints ∷ []
refused Grounder = TrajectoryConstraints ∷ []
refused Types = ObjectFluents ∷ TrajectoryConstraints ∷ []
refused Trajectory = []

-- the two features that a compiler doesn't accept together
abbrev pub refused_both : CompilerId → FeatureSet → Bool
refused_both Objects K = K PartialFluents && K ConditionalEffects
refused_both id K = false

-- the compiler accepts the set
abbrev pub admits : CompilerId → FeatureSet → Bool
admits id K = list_all (λ f. not (K f)) (refused id) && not (refused_both id K)

abbrev pub has_any : FeatureSet → List Feature → Bool
has_any K features = list_any K features

-- these features where the test holds
unfoldable pub only_if : Bool → List Feature → FeatureSet
only_if test features f = test && is_in features f

abbrev pub quantified : List Feature
quantified = ObjectFluents ∷ ExistentialConditions ∷ UniversalConditions ∷ ForallEffects ∷ []

-- what a compiler takes away
abbrev pub removed : CompilerId → FeatureSet → FeatureSet
removed Objects K = is_in (ObjectFluents ∷ PartialFluents ∷ [])
removed Quantifiers K = is_in (ExistentialConditions ∷ UniversalConditions ∷ ForallEffects ∷ ObjectTermsUnderForall ∷ [])
removed Conditionals K = is_in (ConditionalEffects ∷ [])
removed Disjunctions K = is_in (DisjunctiveConditions ∷ [])
removed Overlaps K = is_in (EffectOverlap ∷ [])
removed Negations K = is_in (NegativeConditions ∷ [])
removed Grounder K =
    either
    (either (is_in (ActionParameters ∷ [])) (only_if (not (has_any K quantified)) (Equalities ∷ [])))
    (only_if (not (has_any K (ConditionalEffects ∷ quantified))) (EffectOverlap ∷ []))
removed Types K = is_in (FlatTyping ∷ HierarchicalTyping ∷ [])
removed Trajectory K = is_in (TrajectoryConstraints ∷ [])

-- what a compiler adds
abbrev pub added : CompilerId → FeatureSet → FeatureSet
added Objects K =
    either
    (either (is_in (ActionParameters ∷ NegativeConditions ∷ DisjunctiveConditions ∷ Equalities ∷ ExistentialConditions ∷ EffectOverlap ∷ []))
    (only_if (K PartialFluents) (ForallEffects ∷ [])))
    (only_if (K PartialFluents && K DisjunctiveConditions && K ExistentialConditions) (UniversalConditions ∷ []))
added Quantifiers K = either (only_if (K ExistentialConditions) (DisjunctiveConditions ∷ [])) (only_if (K ForallEffects) (EffectOverlap ∷ []))
added Conditionals K = is_in (NegativeConditions ∷ DisjunctiveConditions ∷ [])
added Disjunctions K = is_in (NegativeConditions ∷ [])
added Overlaps K = is_in (NegativeConditions ∷ Equalities ∷ [])
added Negations K =
    either (is_in (EffectOverlap ∷ []))
    (only_if (K DisjunctiveConditions && (K ExistentialConditions || K UniversalConditions)) (ExistentialConditions ∷ UniversalConditions ∷ []))
added Grounder K = none
added Types K =
    either
    (either (is_in (EffectOverlap ∷ [])) (only_if (K UniversalConditions) (NegativeConditions ∷ DisjunctiveConditions ∷ [])))
    (only_if (K ForallEffects) (ConditionalEffects ∷ []))
added Trajectory K = is_in (NegativeConditions ∷ DisjunctiveConditions ∷ ConditionalEffects ∷ EffectOverlap ∷ [])

-- the set after the compiler
abbrev pub row_result : CompilerId → FeatureSet → FeatureSet
row_result id K = either (minus K (removed id K)) (added id K)

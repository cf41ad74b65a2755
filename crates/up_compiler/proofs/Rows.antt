-- A compiler that accepts a set accepts its subsets, and the sets after it stay subsets.
use Rattle.std.proofs.Common.{◌≡◌, Bool, true, false, not, ◌&&◌, ◌||◌, List, [], ◌∷◌, refl}
use Rattle.std.specs.List.{list_all}
use Rattle.up_kind.specs.declared.feature.Feature.{Feature}
use Rattle.up_kind.specs.declared.feature.Feature.TheVariants.{ExistentialConditions, UniversalConditions, ConditionalEffects, ForallEffects, DisjunctiveConditions, PartialFluents}
use Rattle.up_kind.specs.Features.{FeatureSet, is_in, either, minus, IsSubset}
use Rattle.up_compiler.specs.declared.id.CompilerId.{CompilerId}
use Rattle.up_compiler.specs.declared.id.CompilerId.TheVariants.{Objects, Quantifiers, Conditionals, Disjunctions, Overlaps, Negations, Grounder, Types, Trajectory}
use Rattle.up_compiler.specs.Table.{refused, refused_both, admits, has_any, only_if, quantified, removed, added, row_result}

apart : {X : Type 0} → false ≡ true → X
apart e = absurd (no e)
  where
    no : false ≡ true → ⊥
    no e = cc

and_both : (a b c d : Bool) → (a ≡ true → c ≡ true) → (b ≡ true → d ≡ true) → (a && b) ≡ true → (c && d) ≡ true
and_both true b true d h k e = k e
and_both true b false d h k e = apart (h refl)
and_both false b c d h k e = apart e

or_both : (a b c d : Bool) → (a ≡ true → c ≡ true) → (b ≡ true → d ≡ true) → (a || b) ≡ true → (c || d) ≡ true
or_both true b true d h k e = refl
or_both true b false d h k e = apart (h refl)
or_both false b true d h k e = refl
or_both false b false d h k e = k e

not_back : (a b : Bool) → (a ≡ true → b ≡ true) → not b ≡ true → not a ≡ true
not_back false b h e = refl
not_back true true h e = e
not_back true false h e = apart (h refl)

-- ---- sets of features

-- each feature of the one is in the other
record Within (K L : FeatureSet) : Type 0 where
  at : (f : Feature) → K f ≡ true → L f ≡ true

all_within : (K : FeatureSet) → Within K K
all_within K = record { at = λ f e. e }

either_within : (K L K' L' : FeatureSet) → Within K K' → Within L L' → Within (either K L) (either K' L')
unfolding either
either_within K L K' L' h k = record { at = λ f e. or_both (K f) (L f) (K' f) (L' f) (h.at f) (k.at f) e }

if_within : (a b : Bool) (fs : List Feature) → (a ≡ true → b ≡ true) → Within (only_if a fs) (only_if b fs)
unfolding only_if
if_within a b fs h = record { at = λ f e. and_both a (is_in fs f) b (is_in fs f) h (λ e. e) e }

module _ (K L : FeatureSet) (sub : IsSubset K L) where
  admits_all : (fs : List Feature) → list_all (λ f. not (L f)) fs ≡ true → list_all (λ f. not (K f)) fs ≡ true
  admits_all [] e = refl
  admits_all (f ∷ fs) e = and_both _ _ _ _ (not_back (K f) (L f) (sub f)) (admits_all fs) e

  any_more : (fs : List Feature) → has_any K fs ≡ true → has_any L fs ≡ true
  any_more [] e = e
  any_more (f ∷ fs) e = or_both _ _ _ _ (sub f) (any_more fs) e

  both_more : (id : CompilerId) → refused_both id K ≡ true → refused_both id L ≡ true
  both_more Objects e = and_both _ _ _ _ (sub PartialFluents) (sub ConditionalEffects) e
  both_more Quantifiers e = e
  both_more Conditionals e = e
  both_more Disjunctions e = e
  both_more Overlaps e = e
  both_more Negations e = e
  both_more Grounder e = e
  both_more Types e = e
  both_more Trajectory e = e

  pub admits_subset : (id : CompilerId) → admits id L ≡ true → admits id K ≡ true
  admits_subset id e = and_both _ _ _ _ (admits_all (refused id)) (not_back _ _ (both_more id)) e

  added_more : (id : CompilerId) → Within (added id K) (added id L)
  added_more Objects =
      either_within _ _ _ _ (either_within _ _ _ _ (all_within _) (if_within _ _ _ (sub PartialFluents)))
      (if_within _ _ _ (and_both _ _ _ _ (and_both _ _ _ _ (sub PartialFluents) (sub DisjunctiveConditions)) (sub ExistentialConditions)))
  added_more Quantifiers = either_within _ _ _ _ (if_within _ _ _ (sub ExistentialConditions)) (if_within _ _ _ (sub ForallEffects))
  added_more Conditionals = all_within _
  added_more Disjunctions = all_within _
  added_more Overlaps = all_within _
  added_more Negations =
      either_within _ _ _ _ (all_within _)
      (if_within _ _ _ (and_both _ _ _ _ (sub DisjunctiveConditions) (or_both _ _ _ _ (sub ExistentialConditions) (sub UniversalConditions))))
  added_more Grounder = all_within _
  added_more Types =
      either_within _ _ _ _ (either_within _ _ _ _ (all_within _) (if_within _ _ _ (sub UniversalConditions))) (if_within _ _ _ (sub ForallEffects))
  added_more Trajectory = all_within _

  removed_less : (id : CompilerId) → Within (removed id L) (removed id K)
  removed_less Objects = all_within _
  removed_less Quantifiers = all_within _
  removed_less Conditionals = all_within _
  removed_less Disjunctions = all_within _
  removed_less Overlaps = all_within _
  removed_less Negations = all_within _
  removed_less Grounder =
      either_within _ _ _ _ (either_within _ _ _ _ (all_within _) (if_within _ _ _ (not_back _ _ (any_more quantified))))
      (if_within _ _ _ (not_back _ _ (any_more (ConditionalEffects ∷ quantified))))
  removed_less Types = all_within _
  removed_less Trajectory = all_within _

  pub result_subset : (id : CompilerId) → IsSubset (row_result id K) (row_result id L)
  unfolding either minus
  result_subset id f e = or_both _ _ _ _ (and_both _ _ _ _ (sub f) (not_back _ _ ((removed_less id).at f))) ((added_more id).at f) e

pub ruleset rows = (admits_subset, result_subset)

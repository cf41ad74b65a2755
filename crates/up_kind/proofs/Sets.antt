-- Bits as sets of features.
use Rattle.std.proofs.Common.{◌≡◌, ℕ, Bool, true, false, not, ◌&&◌, ◌||◌, List, [], ◌∷◌, refl, ap, sym, ◌∙◌, ◌<◌, ◌+◌, ◌*◌, ◌^◌, ◌%◌, zero, suc, take, get_or, length, lit<, arith}
use Rattle.std.specs.Prelude.{bit_and, bit_or, bit_xor, nat_eq, min}
use Rattle.std.specs.List.{list_all}
use Rattle.std.proofs.lemmas.Bool.{false≢true}
use Rattle.std.proofs.lemmas.Bool.Decides.{nat_tests}
use Rattle.std.proofs.lemmas.List.Folds.{list_any_more, list_all_at}
use Rattle.std.specs.Int.Bits.{or_zero_l, and_zero_l, and_zero_r}
use Rattle.std.proofs.lemmas.Nat.{le_or_l, and_assoc, pow_pos}
use Rattle.std.proofs.lemmas.Nat.Bits.{same_from_bits, bit_at_and, bit_at_or, bit_at_xor, bit_at-lt, and_pow}
use Rattle.std.specs.Int.{bit_at}
use Rattle.up_kind.specs.declared.feature.Feature.{Feature}
use Rattle.up_kind.specs.declared.feature.Feature.TheVariants.{FlatTyping, HierarchicalTyping, ActionParameters, NegativeConditions, DisjunctiveConditions, Equalities, ExistentialConditions, UniversalConditions, ConditionalEffects, ForallEffects, ObjectFluents, NumericFluents, NumericConditions, NumericEffects, ScaleEffects, Metric, TrajectoryConstraints, EffectOverlap, ObjectTermsUnderForall, PartialFluents}
use Rattle.up_kind.specs.Features.{FeatureSet, all_features, feature_bit, same_feature, has, none, alone, alone_if, either, minus, visible, is_visible, over}

and_or : (a b m : ℕ) → bit_and (bit_or a b) m ≡ bit_or (bit_and a m) (bit_and b m)
and_or a b m =
    same_from_bits _ _ (λ i. simp (bit_at_and, bit_at_or) (omega arith))

not_zero : (n : ℕ) → 0 < n → not (nat_eq n 0) ≡ true
not_zero n above = grind (arith, nat_tests)

or_is_zero : (x y : ℕ) → not (nat_eq (bit_or x y) 0) ≡ (not (nat_eq x 0) || not (nat_eq y 0))
or_is_zero zero y = rw or_zero_l refl
or_is_zero (suc x) y =
    not_zero (bit_or (suc x) y) (omega (arith, le_or_l (suc x) y)) ∙ sym (ap (λ b. b || not (nat_eq y 0)) (not_zero (suc x) (omega arith)))

pub has_or : (a b : ℕ) → has (bit_or a b) ≡ either (has a) (has b)
unfolding has either
has_or a b = λ i f. (ap (λ n. not (nat_eq n 0)) (and_or a b (feature_bit f)) ∙ or_is_zero (bit_and a (feature_bit f)) (bit_and b (feature_bit f))) i

pub has_zero : has 0 ≡ none
unfolding has none
has_zero = λ i f. not (nat_eq (and_zero_l (feature_bit f) i) 0)

-- ---- a bit at its place

place : Feature → ℕ
place FlatTyping = 0
place HierarchicalTyping = 1
place ActionParameters = 2
place NegativeConditions = 3
place DisjunctiveConditions = 4
place Equalities = 5
place ExistentialConditions = 6
place UniversalConditions = 7
place ConditionalEffects = 8
place ForallEffects = 9
place ObjectFluents = 10
place NumericFluents = 11
place NumericConditions = 12
place NumericEffects = 13
place ScaleEffects = 14
place Metric = 15
place TrajectoryConstraints = 16
place EffectOverlap = 17
place ObjectTermsUnderForall = 18
place PartialFluents = 19

bit_is : (f : Feature) → feature_bit f ≡ 2 ^ place f
unfolding place
bit_is FlatTyping = refl
bit_is HierarchicalTyping = refl
bit_is ActionParameters = refl
bit_is NegativeConditions = refl
bit_is DisjunctiveConditions = refl
bit_is Equalities = refl
bit_is ExistentialConditions = refl
bit_is UniversalConditions = refl
bit_is ConditionalEffects = refl
bit_is ForallEffects = refl
bit_is ObjectFluents = refl
bit_is NumericFluents = refl
bit_is NumericConditions = refl
bit_is NumericEffects = refl
bit_is ScaleEffects = refl
bit_is Metric = refl
bit_is TrajectoryConstraints = refl
bit_is EffectOverlap = refl
bit_is ObjectTermsUnderForall = refl
bit_is PartialFluents = refl

one_or_none : (x p : ℕ) → x < 2 → 0 < p → not (nat_eq (x * p) 0) ≡ nat_eq x 1
one_or_none zero p small above =
    let none : 0 * p ≡ 0 = omega arith in ap (λ n. not (nat_eq n 0)) none
one_or_none (suc zero) p small above =
    let one : 1 * p ≡ p = omega arith in ap (λ n. not (nat_eq n 0)) one ∙ not_zero p above
one_or_none (suc (suc x)) p small above = absurd (omega arith)

has_at : (n : ℕ) (f : Feature) → not (nat_eq (bit_and n (feature_bit f)) 0) ≡ nat_eq (bit_at n (place f)) 1
has_at n f =
    ap (λ m. not (nat_eq m 0)) (ap (bit_and n) (bit_is f) ∙ and_pow n (place f))
    ∙ one_or_none (bit_at n (place f)) (2 ^ place f) (bit_at-lt n (place f)) (pow_pos (place f))

minus_bits : (x y : ℕ) → x < 2 → y < 2 → nat_eq ((x + min x y) % 2) 1 ≡ (nat_eq x 1 && not (nat_eq y 1))
minus_bits zero zero low small = refl
minus_bits zero (suc zero) low small = refl
minus_bits (suc zero) zero low small = refl
minus_bits (suc zero) (suc zero) low small = refl
minus_bits (suc (suc x)) y low small = absurd (omega arith)
minus_bits zero (suc (suc y)) low small = absurd (omega arith)
minus_bits (suc zero) (suc (suc y)) low small = absurd (omega arith)

minus_at : (a b k : ℕ) → bit_at (bit_xor a (bit_and a b)) k ≡ (bit_at a k + min (bit_at a k) (bit_at b k)) % 2
minus_at a b k = bit_at_xor a (bit_and a b) k ∙ ap (λ n. (bit_at a k + n) % 2) (bit_at_and a b k)

pub has_minus : (a b : ℕ) → has (bit_xor a (bit_and a b)) ≡ minus (has a) (has b)
unfolding has minus
has_minus a b = λ i f. (
    has_at (bit_xor a (bit_and a b)) f
    ∙ ap (λ n. nat_eq n 1) (minus_at a b (place f))
    ∙ minus_bits (bit_at a (place f)) (bit_at b (place f)) (bit_at-lt a (place f)) (bit_at-lt b (place f))
    ∙ (λ j. sym (has_at a f) j && not (sym (has_at b f) j))) i

visible_at : (a : ℕ) (f : Feature) → not (nat_eq (bit_and (bit_and a 131071) (feature_bit f)) 0) ≡ (is_visible f && not (nat_eq (bit_and a (feature_bit f)) 0))
visible_at a FlatTyping = ap (λ n. not (nat_eq n 0)) (and_assoc (feature_bit FlatTyping) a 131071)
visible_at a HierarchicalTyping = ap (λ n. not (nat_eq n 0)) (and_assoc (feature_bit HierarchicalTyping) a 131071)
visible_at a ActionParameters = ap (λ n. not (nat_eq n 0)) (and_assoc (feature_bit ActionParameters) a 131071)
visible_at a NegativeConditions = ap (λ n. not (nat_eq n 0)) (and_assoc (feature_bit NegativeConditions) a 131071)
visible_at a DisjunctiveConditions = ap (λ n. not (nat_eq n 0)) (and_assoc (feature_bit DisjunctiveConditions) a 131071)
visible_at a Equalities = ap (λ n. not (nat_eq n 0)) (and_assoc (feature_bit Equalities) a 131071)
visible_at a ExistentialConditions = ap (λ n. not (nat_eq n 0)) (and_assoc (feature_bit ExistentialConditions) a 131071)
visible_at a UniversalConditions = ap (λ n. not (nat_eq n 0)) (and_assoc (feature_bit UniversalConditions) a 131071)
visible_at a ConditionalEffects = ap (λ n. not (nat_eq n 0)) (and_assoc (feature_bit ConditionalEffects) a 131071)
visible_at a ForallEffects = ap (λ n. not (nat_eq n 0)) (and_assoc (feature_bit ForallEffects) a 131071)
visible_at a ObjectFluents = ap (λ n. not (nat_eq n 0)) (and_assoc (feature_bit ObjectFluents) a 131071)
visible_at a NumericFluents = ap (λ n. not (nat_eq n 0)) (and_assoc (feature_bit NumericFluents) a 131071)
visible_at a NumericConditions = ap (λ n. not (nat_eq n 0)) (and_assoc (feature_bit NumericConditions) a 131071)
visible_at a NumericEffects = ap (λ n. not (nat_eq n 0)) (and_assoc (feature_bit NumericEffects) a 131071)
visible_at a ScaleEffects = ap (λ n. not (nat_eq n 0)) (and_assoc (feature_bit ScaleEffects) a 131071)
visible_at a Metric = ap (λ n. not (nat_eq n 0)) (and_assoc (feature_bit Metric) a 131071)
visible_at a TrajectoryConstraints = ap (λ n. not (nat_eq n 0)) (and_assoc (feature_bit TrajectoryConstraints) a 131071)
visible_at a EffectOverlap = ap (λ n. not (nat_eq n 0)) (and_assoc (feature_bit EffectOverlap) a 131071) ∙ ap (λ n. not (nat_eq n 0)) (and_zero_r a)
visible_at a ObjectTermsUnderForall = ap (λ n. not (nat_eq n 0)) (and_assoc (feature_bit ObjectTermsUnderForall) a 131071) ∙ ap (λ n. not (nat_eq n 0)) (and_zero_r a)
visible_at a PartialFluents = ap (λ n. not (nat_eq n 0)) (and_assoc (feature_bit PartialFluents) a 131071) ∙ ap (λ n. not (nat_eq n 0)) (and_zero_r a)

pub has_visible : (a : ℕ) → has (bit_and a 131071) ≡ visible (has a)
unfolding has visible
has_visible a = λ i f. visible_at a f i

-- ---- a test of all features

not_false : (b : Bool) → (b ≡ false → ⊥) → b ≡ true
not_false true other = refl
not_false false other = absurd (other refl)

passes : (t : Feature → Bool) → list_all t all_features ≡ true → (i : ℕ) → i < 20 → t (get_or all_features i FlatTyping) ≡ true
unfolding all_features
passes t all i small = not_false _ (λ fails. false≢true (sym (list_all_at t all_features i FlatTyping small fails) ∙ all))

at_all : (t : Feature → Bool) → list_all t all_features ≡ true → (f : Feature) → t f ≡ true
unfolding all_features
at_all t all FlatTyping = passes t all 0 (lit< tt)
at_all t all HierarchicalTyping = passes t all 1 (lit< tt)
at_all t all ActionParameters = passes t all 2 (lit< tt)
at_all t all NegativeConditions = passes t all 3 (lit< tt)
at_all t all DisjunctiveConditions = passes t all 4 (lit< tt)
at_all t all Equalities = passes t all 5 (lit< tt)
at_all t all ExistentialConditions = passes t all 6 (lit< tt)
at_all t all UniversalConditions = passes t all 7 (lit< tt)
at_all t all ConditionalEffects = passes t all 8 (lit< tt)
at_all t all ForallEffects = passes t all 9 (lit< tt)
at_all t all ObjectFluents = passes t all 10 (lit< tt)
at_all t all NumericFluents = passes t all 11 (lit< tt)
at_all t all NumericConditions = passes t all 12 (lit< tt)
at_all t all NumericEffects = passes t all 13 (lit< tt)
at_all t all ScaleEffects = passes t all 14 (lit< tt)
at_all t all Metric = passes t all 15 (lit< tt)
at_all t all TrajectoryConstraints = passes t all 16 (lit< tt)
at_all t all EffectOverlap = passes t all 17 (lit< tt)
at_all t all ObjectTermsUnderForall = passes t all 18 (lit< tt)
at_all t all PartialFluents = passes t all 19 (lit< tt)

same : Bool → Bool → Bool
same true b = b
same false b = not b

same_is : (a b : Bool) → same a b ≡ true → a ≡ b
unfolding same
same_is true true is = refl
same_is true false is = absurd (false≢true is)
same_is false true is = absurd (false≢true is)
same_is false false is = refl

-- two sets that agree at each feature
sets_same : (K L : FeatureSet) → list_all (λ f. same (K f) (L f)) all_features ≡ true → K ≡ L
sets_same K L all = λ i f. same_is (K f) (L f) (at_all (λ f. same (K f) (L f)) all f) i

pub only_is : (f : Feature) → has (feature_bit f) ≡ alone f
unfolding has alone all_features same
only_is FlatTyping = sets_same (has (feature_bit FlatTyping)) (alone FlatTyping) refl
only_is HierarchicalTyping = sets_same (has (feature_bit HierarchicalTyping)) (alone HierarchicalTyping) refl
only_is ActionParameters = sets_same (has (feature_bit ActionParameters)) (alone ActionParameters) refl
only_is NegativeConditions = sets_same (has (feature_bit NegativeConditions)) (alone NegativeConditions) refl
only_is DisjunctiveConditions = sets_same (has (feature_bit DisjunctiveConditions)) (alone DisjunctiveConditions) refl
only_is Equalities = sets_same (has (feature_bit Equalities)) (alone Equalities) refl
only_is ExistentialConditions = sets_same (has (feature_bit ExistentialConditions)) (alone ExistentialConditions) refl
only_is UniversalConditions = sets_same (has (feature_bit UniversalConditions)) (alone UniversalConditions) refl
only_is ConditionalEffects = sets_same (has (feature_bit ConditionalEffects)) (alone ConditionalEffects) refl
only_is ForallEffects = sets_same (has (feature_bit ForallEffects)) (alone ForallEffects) refl
only_is ObjectFluents = sets_same (has (feature_bit ObjectFluents)) (alone ObjectFluents) refl
only_is NumericFluents = sets_same (has (feature_bit NumericFluents)) (alone NumericFluents) refl
only_is NumericConditions = sets_same (has (feature_bit NumericConditions)) (alone NumericConditions) refl
only_is NumericEffects = sets_same (has (feature_bit NumericEffects)) (alone NumericEffects) refl
only_is ScaleEffects = sets_same (has (feature_bit ScaleEffects)) (alone ScaleEffects) refl
only_is Metric = sets_same (has (feature_bit Metric)) (alone Metric) refl
only_is TrajectoryConstraints = sets_same (has (feature_bit TrajectoryConstraints)) (alone TrajectoryConstraints) refl
only_is EffectOverlap = sets_same (has (feature_bit EffectOverlap)) (alone EffectOverlap) refl
only_is ObjectTermsUnderForall = sets_same (has (feature_bit ObjectTermsUnderForall)) (alone ObjectTermsUnderForall) refl
only_is PartialFluents = sets_same (has (feature_bit PartialFluents)) (alone PartialFluents) refl

-- ---- sets

or_false : (b : Bool) → (b || false) ≡ b
or_false true = refl
or_false false = refl

pub either_none : (K : FeatureSet) → either K none ≡ K
unfolding either none
either_none K = λ i f. or_false (K f) i

pub none_either : (K : FeatureSet) → either none K ≡ K
unfolding either none
none_either K = refl

pub alone_if_true : (f : Feature) → alone_if true f ≡ alone f
unfolding alone_if alone
alone_if_true f = λ i g. and_true (same_feature g f) i
  where
    and_true : (b : Bool) → (b && true) ≡ b
    and_true true = refl
    and_true false = refl

pub alone_if_false : (f : Feature) → alone_if false f ≡ none
unfolding alone_if none
alone_if_false f = λ i g. and_false (same_feature g f) i
  where
    and_false : (b : Bool) → (b && false) ≡ false
    and_false true = refl
    and_false false = refl

pub over_none : {X : Type 0} (set : X → FeatureSet) → over set [] ≡ none
unfolding over none
over_none set = refl

pub over_more : {X : Type 0} (set : X → FeatureSet) (xs : List X) (i : ℕ) (d : X) → i < length xs
    → over set (take (i + 1) xs) ≡ either (over set (take i xs)) (set (get_or xs i d))
unfolding over either
over_more set xs i d below = λ k f. list_any_more (λ x. set x f) xs i d below k

pub over_one : {X : Type 0} (set : X → FeatureSet) (x : X) → over set (x ∷ []) ≡ set x
unfolding over
over_one set x = λ i f. or_false (set x f) i

pub over_two : {X : Type 0} (set : X → FeatureSet) (x y : X) → over set (x ∷ y ∷ []) ≡ either (set x) (set y)
unfolding over either
over_two set x y = λ i f. set x f || or_false (set y f) i

pub ruleset overs = (over_one, over_two)

pub ruleset sets = (has_or, has_minus, has_visible, has_zero, only_is, either_none, none_either, alone_if_true, alone_if_false, over_none, over_more)

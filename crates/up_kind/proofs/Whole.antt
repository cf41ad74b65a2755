-- The features of a problem are those of its parts.
use Rattle.std.proofs.Common.{◌≡◌, Bool, true, false, ◌||◌, List, [], ◌∷◌, map, refl, ap, sym, ◌∙◌}
use Rattle.std.specs.Prelude.{not as flip, flat_map}
use Rattle.std.specs.List.{list_any}
use Rattle.std.proofs.lemmas.List.Folds.{list_any-append}
use Rattle.up_tree.specs.declared.formula.Formula.{Formula, And', Or', Atom, Equal, Compare, Row_of-Formula, end_of-Formula, more_of-Formula}
use Rattle.up_tree.specs.declared.action.Action.{Action}
use Rattle.up_tree.specs.declared.action.Row.{Row}
use Rattle.up_tree.specs.declared.problem.Constraint.{Constraint}
use Rattle.up_tree.specs.declared.problem.Parts.{Parts}
use Rattle.up_tree.specs.Nodes.{not, imply, exists, forall}
use Rattle.up_tree.specs.Simplify.{is_empty}
use Rattle.up_tree.specs.WellFormed.{formulas_of}
use Rattle.up_kind.specs.declared.feature.Feature.{Feature}
use Rattle.up_kind.specs.declared.feature.Feature.TheVariants.{FlatTyping, HierarchicalTyping, ActionParameters, NegativeConditions, DisjunctiveConditions, Equalities, ExistentialConditions, UniversalConditions, ConditionalEffects, ForallEffects, ObjectFluents, NumericFluents, NumericConditions, NumericEffects, ScaleEffects, Metric, TrajectoryConstraints, EffectOverlap, ObjectTermsUnderForall, PartialFluents}
use Rattle.up_kind.specs.Features.{FeatureSet, none, alone, alone_if, either, over}
use Rattle.up_kind.specs.Carried.{anywhere, in_row, conditions, is_not, is_disjunctive, is_equal, is_exists, is_forall, is_compare, carries}
use Rattle.up_kind.specs.Gathered.{of_not, of_node, of_condition, of_effect, of_variables, of_row, of_action, of_constraint, of_type, of_function, of_problem}

or_false : (b : Bool) → (b || false) ≡ b
or_false true = refl
or_false false = refl

any_false : {X : Type 0} (xs : List X) → list_any (λ x. false) xs ≡ false
any_false [] = refl
any_false (x ∷ xs) = any_false xs

any_true : {X : Type 0} (xs : List X) → list_any (λ x. true) xs ≡ flip (is_empty xs)
any_true [] = refl
any_true (x ∷ xs) = refl

-- ---- features of no condition

record IsOther (f : Feature) : Type 0 where
  negative : alone NegativeConditions f ≡ false
  disjunctive : alone DisjunctiveConditions f ≡ false
  equality : alone Equalities f ≡ false
  existential : alone ExistentialConditions f ≡ false
  universal : alone UniversalConditions f ≡ false
  numeric : alone NumericConditions f ≡ false

none_of_both : (K L : FeatureSet) (f : Feature) → K f ≡ false → L f ≡ false → either K L f ≡ false
unfolding either
none_of_both K L f first second = ap (λ b. b || L f) first ∙ second

not_other : (f : Feature) → IsOther f → (g : Formula) → of_not g f ≡ false
not_other f other (And' m gs) = none_of_both (alone NegativeConditions) (alone DisjunctiveConditions) f other.negative other.disjunctive
not_other f other (Or' m gs) = none_of_both (alone NegativeConditions) (alone DisjunctiveConditions) f other.negative other.disjunctive
not_other f other (not h) = none_of_both (alone NegativeConditions) (alone DisjunctiveConditions) f other.negative other.disjunctive
not_other f other (imply h k) = none_of_both (alone NegativeConditions) (alone DisjunctiveConditions) f other.negative other.disjunctive
not_other f other (exists us h) = none_of_both (alone NegativeConditions) (alone DisjunctiveConditions) f other.negative other.disjunctive
not_other f other (forall us h) = none_of_both (alone NegativeConditions) (alone DisjunctiveConditions) f other.negative other.disjunctive
not_other f other (Atom named us) = other.negative
not_other f other (Equal v w) = other.negative
not_other f other (Compare q c d) = none_of_both (alone NegativeConditions) (alone DisjunctiveConditions) f other.negative other.disjunctive

node_other : (f : Feature) → IsOther f → (g : Formula) → of_node g f ≡ false
unfolding none
node_other feature other (And' n fs) = refl
node_other feature other (Or' n fs) = other.disjunctive
node_other feature other (not f) = not_other feature other f
node_other feature other (imply f g) = other.disjunctive
node_other feature other (exists vars f) = other.existential
node_other feature other (forall vars f) = other.universal
node_other feature other (Atom name ts) = refl
node_other feature other (Equal t u) = other.equality
node_other feature other (Compare r a b) = other.numeric

mutual
  unfolding anywhere in_row

  nowhere : (t : Formula → Bool) → ((g : Formula) → t g ≡ false) → (c : Formula) → anywhere t c ≡ false
  nowhere t none (And' n fs) = ap (λ b. b || in_row t fs) (none (And' n fs)) ∙ in_no_row t none fs
  nowhere t none (Or' n fs) = ap (λ b. b || in_row t fs) (none (Or' n fs)) ∙ in_no_row t none fs
  nowhere t none (not f) = ap (λ b. b || anywhere t f) (none (not f)) ∙ nowhere t none f
  nowhere t none (imply f g) =
      ap (λ b. b || (anywhere t f || anywhere t g)) (none (imply f g)) ∙ ap (λ b. b || anywhere t g) (nowhere t none f) ∙ nowhere t none g
  nowhere t none (exists vars f) = ap (λ b. b || anywhere t f) (none (exists vars f)) ∙ nowhere t none f
  nowhere t none (forall vars f) = ap (λ b. b || anywhere t f) (none (forall vars f)) ∙ nowhere t none f
  nowhere t none (Atom name ts) = none (Atom name ts)
  nowhere t none (Equal u v) = none (Equal u v)
  nowhere t none (Compare r a b) = none (Compare r a b)

  in_no_row : (t : Formula → Bool) → ((g : Formula) → t g ≡ false) → {n : _} (fs : Row_of-Formula n) → in_row t fs ≡ false
  in_no_row t none end_of-Formula = refl
  in_no_row t none (more_of-Formula f fs) = ap (λ b. b || in_row t fs) (nowhere t none f) ∙ in_no_row t none fs

condition_other : (f : Feature) → IsOther f → (c : Formula) → of_condition c f ≡ false
unfolding of_condition
condition_other f other c = nowhere (λ g. of_node g f) (node_other f other) c

other_is : (f : Feature) → alone NegativeConditions f ≡ false → alone DisjunctiveConditions f ≡ false → alone Equalities f ≡ false
    → alone ExistentialConditions f ≡ false → alone UniversalConditions f ≡ false → alone NumericConditions f ≡ false → IsOther f
other_is f a b c d e g = record { negative = a; disjunctive = b; equality = c; existential = d; universal = e; numeric = g }

none_FlatTyping : (c : Formula) → of_condition c FlatTyping ≡ false
unfolding alone
none_FlatTyping = condition_other FlatTyping (other_is FlatTyping refl refl refl refl refl refl)

none_HierarchicalTyping : (c : Formula) → of_condition c HierarchicalTyping ≡ false
unfolding alone
none_HierarchicalTyping = condition_other HierarchicalTyping (other_is HierarchicalTyping refl refl refl refl refl refl)

none_ActionParameters : (c : Formula) → of_condition c ActionParameters ≡ false
unfolding alone
none_ActionParameters = condition_other ActionParameters (other_is ActionParameters refl refl refl refl refl refl)

none_ConditionalEffects : (c : Formula) → of_condition c ConditionalEffects ≡ false
unfolding alone
none_ConditionalEffects = condition_other ConditionalEffects (other_is ConditionalEffects refl refl refl refl refl refl)

none_ForallEffects : (c : Formula) → of_condition c ForallEffects ≡ false
unfolding alone
none_ForallEffects = condition_other ForallEffects (other_is ForallEffects refl refl refl refl refl refl)

none_ObjectFluents : (c : Formula) → of_condition c ObjectFluents ≡ false
unfolding alone
none_ObjectFluents = condition_other ObjectFluents (other_is ObjectFluents refl refl refl refl refl refl)

none_NumericFluents : (c : Formula) → of_condition c NumericFluents ≡ false
unfolding alone
none_NumericFluents = condition_other NumericFluents (other_is NumericFluents refl refl refl refl refl refl)

none_NumericEffects : (c : Formula) → of_condition c NumericEffects ≡ false
unfolding alone
none_NumericEffects = condition_other NumericEffects (other_is NumericEffects refl refl refl refl refl refl)

none_ScaleEffects : (c : Formula) → of_condition c ScaleEffects ≡ false
unfolding alone
none_ScaleEffects = condition_other ScaleEffects (other_is ScaleEffects refl refl refl refl refl refl)

none_Metric : (c : Formula) → of_condition c Metric ≡ false
unfolding alone
none_Metric = condition_other Metric (other_is Metric refl refl refl refl refl refl)

none_TrajectoryConstraints : (c : Formula) → of_condition c TrajectoryConstraints ≡ false
unfolding alone
none_TrajectoryConstraints = condition_other TrajectoryConstraints (other_is TrajectoryConstraints refl refl refl refl refl refl)

none_EffectOverlap : (c : Formula) → of_condition c EffectOverlap ≡ false
unfolding alone
none_EffectOverlap = condition_other EffectOverlap (other_is EffectOverlap refl refl refl refl refl refl)

none_ObjectTermsUnderForall : (c : Formula) → of_condition c ObjectTermsUnderForall ≡ false
unfolding alone
none_ObjectTermsUnderForall = condition_other ObjectTermsUnderForall (other_is ObjectTermsUnderForall refl refl refl refl refl refl)

none_PartialFluents : (c : Formula) → of_condition c PartialFluents ≡ false
unfolding alone
none_PartialFluents = condition_other PartialFluents (other_is PartialFluents refl refl refl refl refl refl)

-- ---- features of conditions

node_is_not : (g : Formula) → is_not g ≡ of_node g NegativeConditions
unfolding alone either none
node_is_not (And' n fs) = refl
node_is_not (Or' n fs) = refl
node_is_not (not (And' m gs)) = refl
node_is_not (not (Or' m gs)) = refl
node_is_not (not (not h)) = refl
node_is_not (not (imply h k)) = refl
node_is_not (not (exists us h)) = refl
node_is_not (not (forall us h)) = refl
node_is_not (not (Atom named us)) = refl
node_is_not (not (Equal v w)) = refl
node_is_not (not (Compare q c d)) = refl
node_is_not (imply f g) = refl
node_is_not (exists vars f) = refl
node_is_not (forall vars f) = refl
node_is_not (Atom name ts) = refl
node_is_not (Equal t u) = refl
node_is_not (Compare r a b) = refl

some_is_not : (c : Formula) → anywhere is_not c ≡ of_condition c NegativeConditions
unfolding of_condition
some_is_not c = λ i. anywhere (λ g. node_is_not g i) c

node_is_disjunctive : (g : Formula) → is_disjunctive g ≡ of_node g DisjunctiveConditions
unfolding alone either none
node_is_disjunctive (And' n fs) = refl
node_is_disjunctive (Or' n fs) = refl
node_is_disjunctive (not (And' m gs)) = refl
node_is_disjunctive (not (Or' m gs)) = refl
node_is_disjunctive (not (not h)) = refl
node_is_disjunctive (not (imply h k)) = refl
node_is_disjunctive (not (exists us h)) = refl
node_is_disjunctive (not (forall us h)) = refl
node_is_disjunctive (not (Atom named us)) = refl
node_is_disjunctive (not (Equal v w)) = refl
node_is_disjunctive (not (Compare q c d)) = refl
node_is_disjunctive (imply f g) = refl
node_is_disjunctive (exists vars f) = refl
node_is_disjunctive (forall vars f) = refl
node_is_disjunctive (Atom name ts) = refl
node_is_disjunctive (Equal t u) = refl
node_is_disjunctive (Compare r a b) = refl

some_is_disjunctive : (c : Formula) → anywhere is_disjunctive c ≡ of_condition c DisjunctiveConditions
unfolding of_condition
some_is_disjunctive c = λ i. anywhere (λ g. node_is_disjunctive g i) c

node_is_equal : (g : Formula) → is_equal g ≡ of_node g Equalities
unfolding alone either none
node_is_equal (And' n fs) = refl
node_is_equal (Or' n fs) = refl
node_is_equal (not (And' m gs)) = refl
node_is_equal (not (Or' m gs)) = refl
node_is_equal (not (not h)) = refl
node_is_equal (not (imply h k)) = refl
node_is_equal (not (exists us h)) = refl
node_is_equal (not (forall us h)) = refl
node_is_equal (not (Atom named us)) = refl
node_is_equal (not (Equal v w)) = refl
node_is_equal (not (Compare q c d)) = refl
node_is_equal (imply f g) = refl
node_is_equal (exists vars f) = refl
node_is_equal (forall vars f) = refl
node_is_equal (Atom name ts) = refl
node_is_equal (Equal t u) = refl
node_is_equal (Compare r a b) = refl

some_is_equal : (c : Formula) → anywhere is_equal c ≡ of_condition c Equalities
unfolding of_condition
some_is_equal c = λ i. anywhere (λ g. node_is_equal g i) c

node_is_exists : (g : Formula) → is_exists g ≡ of_node g ExistentialConditions
unfolding alone either none
node_is_exists (And' n fs) = refl
node_is_exists (Or' n fs) = refl
node_is_exists (not (And' m gs)) = refl
node_is_exists (not (Or' m gs)) = refl
node_is_exists (not (not h)) = refl
node_is_exists (not (imply h k)) = refl
node_is_exists (not (exists us h)) = refl
node_is_exists (not (forall us h)) = refl
node_is_exists (not (Atom named us)) = refl
node_is_exists (not (Equal v w)) = refl
node_is_exists (not (Compare q c d)) = refl
node_is_exists (imply f g) = refl
node_is_exists (exists vars f) = refl
node_is_exists (forall vars f) = refl
node_is_exists (Atom name ts) = refl
node_is_exists (Equal t u) = refl
node_is_exists (Compare r a b) = refl

some_is_exists : (c : Formula) → anywhere is_exists c ≡ of_condition c ExistentialConditions
unfolding of_condition
some_is_exists c = λ i. anywhere (λ g. node_is_exists g i) c

node_is_forall : (g : Formula) → is_forall g ≡ of_node g UniversalConditions
unfolding alone either none
node_is_forall (And' n fs) = refl
node_is_forall (Or' n fs) = refl
node_is_forall (not (And' m gs)) = refl
node_is_forall (not (Or' m gs)) = refl
node_is_forall (not (not h)) = refl
node_is_forall (not (imply h k)) = refl
node_is_forall (not (exists us h)) = refl
node_is_forall (not (forall us h)) = refl
node_is_forall (not (Atom named us)) = refl
node_is_forall (not (Equal v w)) = refl
node_is_forall (not (Compare q c d)) = refl
node_is_forall (imply f g) = refl
node_is_forall (exists vars f) = refl
node_is_forall (forall vars f) = refl
node_is_forall (Atom name ts) = refl
node_is_forall (Equal t u) = refl
node_is_forall (Compare r a b) = refl

some_is_forall : (c : Formula) → anywhere is_forall c ≡ of_condition c UniversalConditions
unfolding of_condition
some_is_forall c = λ i. anywhere (λ g. node_is_forall g i) c

node_is_compare : (g : Formula) → is_compare g ≡ of_node g NumericConditions
unfolding alone either none
node_is_compare (And' n fs) = refl
node_is_compare (Or' n fs) = refl
node_is_compare (not (And' m gs)) = refl
node_is_compare (not (Or' m gs)) = refl
node_is_compare (not (not h)) = refl
node_is_compare (not (imply h k)) = refl
node_is_compare (not (exists us h)) = refl
node_is_compare (not (forall us h)) = refl
node_is_compare (not (Atom named us)) = refl
node_is_compare (not (Equal v w)) = refl
node_is_compare (not (Compare q c d)) = refl
node_is_compare (imply f g) = refl
node_is_compare (exists vars f) = refl
node_is_compare (forall vars f) = refl
node_is_compare (Atom name ts) = refl
node_is_compare (Equal t u) = refl
node_is_compare (Compare r a b) = refl

some_is_compare : (c : Formula) → anywhere is_compare c ≡ of_condition c NumericConditions
unfolding of_condition
some_is_compare c = λ i. anywhere (λ g. node_is_compare g i) c

-- ---- conditions part by part

abbrev of_parts : (Formula → Bool) → Parts → Bool
of_parts t p =
    list_any (λ a. t a.pre || list_any (λ r. t r.when) a.rows) p.actions
    || (t p.goal || list_any (λ c. list_any t (formulas_of c.rule)) p.constraints)

any_map : (t : Formula → Bool) (rows : List Row) → list_any t (map (λ (r : Row). r.when) rows) ≡ list_any (λ r. t r.when) rows
any_map t [] = refl
any_map t (r ∷ rows) = ap (λ b. t r.when || b) (any_map t rows)

any_flat : {X : Type 0} (t : Formula → Bool) (g : X → List Formula) (xs : List X) → list_any t (flat_map g xs) ≡ list_any (λ x. list_any t (g x)) xs
any_flat t g [] = refl
any_flat t g (x ∷ xs) = list_any-append t (g x) (flat_map g xs) ∙ ap (λ b. list_any t (g x) || b) (any_flat t g xs)

regrouped : (t : Formula → Bool) (p : Parts) → list_any t (conditions p) ≡ of_parts t p
regrouped t p =
    list_any-append t (flat_map (λ (a : Action). a.pre ∷ map (λ (r : Row). r.when) a.rows) p.actions) (p.goal ∷ flat_map (λ (c : Constraint). formulas_of c.rule) p.constraints)
    ∙ (λ i. any_flat t (λ (a : Action). a.pre ∷ map (λ (r : Row). r.when) a.rows) p.actions i
    || (t p.goal || any_flat t (λ (c : Constraint). formulas_of c.rule) p.constraints i))
    ∙ (λ i. list_any (λ (a : Action). t a.pre || any_map t a.rows i) p.actions
    || (t p.goal || list_any (λ c. list_any t (formulas_of c.rule)) p.constraints))

-- ---- the whole

carries_at : (p : Parts) (f : Feature) → of_problem p f ≡ carries p f
unfolding of_problem of_action of_row of_variables of_effect of_constraint of_type of_function over either alone alone_if none
carries_at p FlatTyping = simp (none_FlatTyping, or_false, any_false, any_true)
carries_at p HierarchicalTyping = simp (none_HierarchicalTyping, or_false, any_false, any_true)
carries_at p ActionParameters = simp (none_ActionParameters, or_false, any_false, any_true)
carries_at p NegativeConditions =
    simp (or_false, any_false) (sym (regrouped (λ c. of_condition c NegativeConditions) p) ∙ (λ i. list_any (λ c. sym (some_is_not c) i) (conditions p)))
carries_at p DisjunctiveConditions =
    simp (or_false, any_false) (sym (regrouped (λ c. of_condition c DisjunctiveConditions) p) ∙ (λ i. list_any (λ c. sym (some_is_disjunctive c) i) (conditions p)))
carries_at p Equalities =
    simp (or_false, any_false) (sym (regrouped (λ c. of_condition c Equalities) p) ∙ (λ i. list_any (λ c. sym (some_is_equal c) i) (conditions p)))
carries_at p ExistentialConditions =
    simp (or_false, any_false) (sym (regrouped (λ c. of_condition c ExistentialConditions) p) ∙ (λ i. list_any (λ c. sym (some_is_exists c) i) (conditions p)))
carries_at p UniversalConditions =
    simp (or_false, any_false) (sym (regrouped (λ c. of_condition c UniversalConditions) p) ∙ (λ i. list_any (λ c. sym (some_is_forall c) i) (conditions p)))
carries_at p ConditionalEffects = simp (none_ConditionalEffects, or_false, any_false, any_true)
carries_at p ForallEffects = simp (none_ForallEffects, or_false, any_false, any_true)
carries_at p ObjectFluents = simp (none_ObjectFluents, or_false, any_false, any_true)
carries_at p NumericFluents = simp (none_NumericFluents, or_false, any_false, any_true)
carries_at p NumericConditions =
    simp (or_false, any_false) (sym (regrouped (λ c. of_condition c NumericConditions) p) ∙ (λ i. list_any (λ c. sym (some_is_compare c) i) (conditions p)))
carries_at p NumericEffects = simp (none_NumericEffects, or_false, any_false, any_true)
carries_at p ScaleEffects = simp (none_ScaleEffects, or_false, any_false, any_true)
carries_at p Metric = simp (none_Metric, or_false, any_false, any_true)
carries_at p TrajectoryConstraints = simp (none_TrajectoryConstraints, or_false, any_false, any_true)
carries_at p EffectOverlap = simp (none_EffectOverlap, or_false, any_false, any_true)
carries_at p ObjectTermsUnderForall = simp (none_ObjectTermsUnderForall, or_false, any_false, any_true)
carries_at p PartialFluents = simp (none_PartialFluents, or_false, any_false, any_true)

pub carries_is : (p : Parts) → of_problem p ≡ carries p
carries_is p = λ i f. carries_at p f i

pub ruleset whole = (carries_is)

-- The features of the problem with twins.
use Rattle.std.proofs.Common.{◌≡◌, ◌⊎◌, Bool, true, false, not as flip, ◌&&◌, ◌||◌, List, [], ◌∷◌, map, Option, Some, None, option_map, refl, ap, sym, ◌∙◌, subst, inl, inr, ⊎_elim}
use Rattle.std.specs.List.{list_any, flat_map}
use Rattle.up_text.specs.declared.name.Name.{Name}
use Rattle.up_text.specs.Lists.{Member}
use Rattle.up_tree.specs.declared.term.Term.{Term}
use Rattle.up_tree.specs.declared.term.Typed.{Typed}
use Rattle.up_tree.specs.declared.formula.Formula.{Formula, And, And', Or, Or', Atom, Equal, Compare, Row_of-Formula, end_of-Formula, more_of-Formula, items-the_row-Formula}
use Rattle.up_tree.specs.declared.action.Action.{Action}
use Rattle.up_tree.specs.declared.action.Row.{Row}
use Rattle.up_tree.specs.declared.action.Effect.{Effect}
use Rattle.up_tree.specs.declared.action.Effect.TheVariants.{Add, Delete, Number, Object, Undefine}
use Rattle.up_tree.specs.declared.problem.Constraint.{Constraint}
use Rattle.up_tree.specs.declared.problem.Function.{Function}
use Rattle.up_tree.specs.declared.problem.Parts.{Parts}
use Rattle.up_tree.specs.Nodes.{not, imply, exists, forall}
use Rattle.up_tree.specs.Simplify.{is_empty, is_true_formula}
use Rattle.up_tree.specs.WellFormed.{formulas_of}
use Rattle.up_kind.specs.declared.feature.Feature.TheVariants.{FlatTyping, HierarchicalTyping, ActionParameters, NegativeConditions, DisjunctiveConditions, Equalities, ExistentialConditions, UniversalConditions, ConditionalEffects, ForallEffects, ObjectFluents, NumericFluents, NumericConditions, NumericEffects, ScaleEffects, Metric, TrajectoryConstraints, EffectOverlap, ObjectTermsUnderForall, PartialFluents}
use Rattle.up_kind.specs.Features.{IsSubset, is_in, either, minus}
use Rattle.up_kind.specs.Carried.{anywhere, in_row, carries, conditions, some_condition, some_row, is_not, is_disjunctive, is_equal, is_exists, is_forall, is_compare, is_numeric, is_scale, is_undefine, touches_objects, gives_an_object, is_total}
use Rattle.condition_laws.specs.Shapes.{IsNegatable, IsNormal, AreNormal}
use Rattle.condition_laws.proofs.Holding.{in_row-items, anywhere-And, anywhere-Or}
use Rattle.compiling_laws.proofs.Lists.{false_true, none_some, some_same, any_true, any_from, any_none, any_false, member_left, member_right, member_either, member_map, of_map, member_flat, of_flat}
use Rattle.step_laws.proofs.Lists.{every_at}
use Rattle.negations_laws.specs.Twins.{main_conditions, Words, words, twin_of, denied_by, positive, all_positive, twin_effect, row_doing, with_twin, positive_action, Twin, twinned, twins_in}
use Rattle.negations_laws.specs.Kinds.{positive_kind}
use Rattle.negations_laws.proofs.Truth.{left, right}
use Rattle.negations_laws.proofs.Doing.{AreAlways}
use Rattle.negations_laws.proofs.Stepping.{IsAccepted, member_pre}

-- ---- tests of nodes that see no atom and no operand

abbrev is_or : Formula → Bool
is_or (Or' n fs) = true
is_or f = false

record IsMild (t : Formula → Bool) : Type 0 where
  and_no : (fs : List Formula) → t (And fs) ≡ false
  or_same : (fs : List Formula) (f : Formula) → is_or f ≡ true → t (Or fs) ≡ true → t f ≡ true
  atom_no : (name : Name) (ts : List Term) → t (Atom name ts) ≡ false
  exists_same : (vars : List Typed) (f g : Formula) → t (exists vars f) ≡ t (exists vars g)
  forall_same : (vars : List Typed) (f g : Formula) → t (forall vars f) ≡ t (forall vars g)

disjunctive_or : (f : Formula) → is_or f ≡ true → is_disjunctive f ≡ true
disjunctive_or (Or' n fs) h = refl
disjunctive_or (And' n fs) h = false_true h
disjunctive_or (not f) h = false_true h
disjunctive_or (imply f g) h = false_true h
disjunctive_or (exists vars f) h = false_true h
disjunctive_or (forall vars f) h = false_true h
disjunctive_or (Atom name ts) h = false_true h
disjunctive_or (Equal t u) h = false_true h
disjunctive_or (Compare r a b) h = false_true h

disjunctive_mild : IsMild is_disjunctive
disjunctive_mild = record { and_no = λ fs. refl; or_same = λ fs f is h. disjunctive_or f is; atom_no = λ name ts. refl; exists_same = λ vars f g. refl; forall_same = λ vars f g. refl }

equal_mild : IsMild is_equal
equal_mild = record { and_no = λ fs. refl; or_same = λ fs f is h. false_true h; atom_no = λ name ts. refl; exists_same = λ vars f g. refl; forall_same = λ vars f g. refl }

exists_mild : IsMild is_exists
exists_mild = record { and_no = λ fs. refl; or_same = λ fs f is h. false_true h; atom_no = λ name ts. refl; exists_same = λ vars f g. refl; forall_same = λ vars f g. refl }

forall_mild : IsMild is_forall
forall_mild = record { and_no = λ fs. refl; or_same = λ fs f is h. false_true h; atom_no = λ name ts. refl; exists_same = λ vars f g. refl; forall_same = λ vars f g. refl }

compare_mild : IsMild is_compare
compare_mild = record { and_no = λ fs. refl; or_same = λ fs f is h. false_true h; atom_no = λ name ts. refl; exists_same = λ vars f g. refl; forall_same = λ vars f g. refl }

two_ways : (a b : Bool) → (a || b) ≡ true → (a ≡ true) ⊎ (b ≡ true)
two_ways true b h = inl refl
two_ways false b h = inr h

module _ (ws : Words) where
  module _ (t : Formula → Bool) (mild : IsMild t) where
    negated_has : (f : Formula) → IsNegatable f → anywhere t (denied_by ws f) ≡ true → anywhere t (not f) ≡ true
    unfolding anywhere
    negated_has (Atom name ts) lit h = false_true (sym (mild.atom_no _ ts) ∙ h)
    negated_has (Equal u v) lit h = false_true (sym (mild.atom_no _ (u ∷ v ∷ [])) ∙ h)
    negated_has (And' n fs) lit h = absurd lit
    negated_has (Or' n fs) lit h = absurd lit
    negated_has (not f) lit h = absurd lit
    negated_has (imply f g) lit h = absurd lit
    negated_has (exists vars f) lit h = absurd lit
    negated_has (forall vars f) lit h = absurd lit
    negated_has (Compare r a b) lit h = absurd lit

    mutual
      unfolding anywhere in_row positive all_positive IsNormal AreNormal

      positive_has : (f : Formula) → IsNormal f → anywhere t (positive ws f) ≡ true → anywhere t f ≡ true
      positive_has (And' n fs) normal h =
          right (t (And' n fs)) (in_row t fs) (all_have fs normal (⊎_elim (λ k. false_true (sym (mild.and_no (all_positive ws fs)) ∙ k)) (λ k. k)
          (two_ways (t (And (all_positive ws fs))) (list_any (anywhere t) (all_positive ws fs)) (sym (anywhere-And t (all_positive ws fs)) ∙ h))))
      positive_has (Or' n fs) normal h =
          ⊎_elim (λ k. left (t (Or' n fs)) (in_row t fs) (mild.or_same (all_positive ws fs) (Or' n fs) refl k)) (λ k. right (t (Or' n fs)) (in_row t fs) (all_have fs normal k))
          (two_ways (t (Or (all_positive ws fs))) (list_any (anywhere t) (all_positive ws fs)) (sym (anywhere-Or t (all_positive ws fs)) ∙ h))
      positive_has (not f) normal h = negated_has f normal h
      positive_has (imply f g) normal h = absurd normal
      positive_has (exists vars f) normal h =
          ⊎_elim (λ k. left (t (exists vars f)) (anywhere t f) (mild.exists_same vars f (positive ws f) ∙ k)) (λ k. right (t (exists vars f)) (anywhere t f) (positive_has f normal k))
          (two_ways (t (exists vars (positive ws f))) (anywhere t (positive ws f)) h)
      positive_has (forall vars f) normal h =
          ⊎_elim (λ k. left (t (forall vars f)) (anywhere t f) (mild.forall_same vars f (positive ws f) ∙ k)) (λ k. right (t (forall vars f)) (anywhere t f) (positive_has f normal k))
          (two_ways (t (forall vars (positive ws f))) (anywhere t (positive ws f)) h)
      positive_has (Atom name ts) normal h = h
      positive_has (Equal u v) normal h = h
      positive_has (Compare r a b) normal h = h

      all_have : {n : _} (fs : Row_of-Formula n) → AreNormal fs → list_any (anywhere t) (all_positive ws fs) ≡ true → in_row t fs ≡ true
      all_have end_of-Formula normal h = h
      all_have (more_of-Formula f fs) normal h =
          ⊎_elim (λ k. left (anywhere t f) (in_row t fs) (positive_has f normal.0 k)) (λ k. right (anywhere t f) (in_row t fs) (all_have fs normal.1 k))
          (two_ways (anywhere t (positive ws f)) (list_any (anywhere t) (all_positive ws fs)) h)

  no_negated : (f : Formula) → IsNegatable f → anywhere is_not (denied_by ws f) ≡ false
  unfolding anywhere
  no_negated (Atom name ts) lit = refl
  no_negated (Equal u v) lit = refl
  no_negated (And' n fs) lit = absurd lit
  no_negated (Or' n fs) lit = absurd lit
  no_negated (not f) lit = absurd lit
  no_negated (imply f g) lit = absurd lit
  no_negated (exists vars f) lit = absurd lit
  no_negated (forall vars f) lit = absurd lit
  no_negated (Compare r a b) lit = absurd lit

  mutual
    unfolding anywhere in_row positive all_positive IsNormal AreNormal

    no_not : (f : Formula) → IsNormal f → anywhere is_not (positive ws f) ≡ false
    no_not (And' n fs) normal = anywhere-And is_not (all_positive ws fs) ∙ no_nots fs normal
    no_not (Or' n fs) normal = anywhere-Or is_not (all_positive ws fs) ∙ no_nots fs normal
    no_not (not f) normal = no_negated f normal
    no_not (imply f g) normal = absurd normal
    no_not (exists vars f) normal = no_not f normal
    no_not (forall vars f) normal = no_not f normal
    no_not (Atom name ts) normal = refl
    no_not (Equal u v) normal = refl
    no_not (Compare r a b) normal = refl

    no_nots : {n : _} (fs : Row_of-Formula n) → AreNormal fs → list_any (anywhere is_not) (all_positive ws fs) ≡ false
    no_nots end_of-Formula normal = refl
    no_nots (more_of-Formula f fs) normal = λ i. no_not f normal.0 i || no_nots fs normal.1 i

-- nothing stands in `true`
none_in_items : (t : Formula → Bool) (fs : List Formula) → is_empty fs ≡ true → list_any (anywhere t) fs ≡ false
none_in_items t [] h = refl
none_in_items t (f ∷ fs) h = false_true h

no_not_always : (f : Formula) → is_true_formula f ≡ true → anywhere is_not f ≡ false
unfolding anywhere
no_not_always (And' n fs) h = in_row-items is_not fs ∙ none_in_items is_not (items-the_row-Formula _ fs) h
no_not_always (Or' n fs) h = false_true h
no_not_always (not f) h = false_true h
no_not_always (imply f g) h = false_true h
no_not_always (exists vars f) h = false_true h
no_not_always (forall vars f) h = false_true h
no_not_always (Atom name ts) h = false_true h
no_not_always (Equal t u) h = false_true h
no_not_always (Compare r a b) h = false_true h

-- ---- rows

-- a row with its twin: the row itself, or one with its variables and condition, and the twin's effect
pub data IsOfRow (twins : List Twin) (r x : Row) : Type 0 where
  itself : x ≡ r → IsOfRow twins r x
  its_twin : (e : Effect) → twin_effect twins r.effect ≡ Some e → x ≡ record { vars = r.vars; when = r.when; effect = e } → IsOfRow twins r x

of_with : (twins : List Twin) (r x : Row) → Member x (with_twin twins r) → IsOfRow twins r x
of_with twins r x (inl e) = itself e
of_with twins r x (inr m) = by (twin_effect twins r.effect) refl m
  where
    by : (o : Option Effect) → twin_effect twins r.effect ≡ o → Member x (row_doing r o) → IsOfRow twins r x
    by None is m = absurd m
    by (Some e) is (inl same) = its_twin e is same
    by (Some e) is (inr none) = absurd none

of_rows : (twins : List Twin) (rows : List Row) (x : Row) → Member x (flat_map (with_twin twins) rows) → (r : Row) × Member r rows × IsOfRow twins r x
of_rows twins rows x m = let r = of_flat (with_twin twins) x rows m in (r.0, r.1, of_with twins r.0 x r.2)

same_when : (twins : List Twin) (r x : Row) → IsOfRow twins r x → x.when ≡ r.when
same_when twins r x (itself e) = ap (λ (x : Row). x.when) e
same_when twins r x (its_twin e is same) = ap (λ (x : Row). x.when) same

-- a test that a twin's effect passes only where the row's does
record Passes (t : List Typed → Formula → Effect → Bool) : Type 0 where
  by_add : (vars : List Typed) (when : Formula) (name other : Name) (ts : List Term) → t vars when (Delete other ts) ≡ true → t vars when (Add name ts) ≡ true
  by_delete : (vars : List Typed) (when : Formula) (name other : Name) (ts : List Term) → t vars when (Add other ts) ≡ true → t vars when (Delete name ts) ≡ true

module _ (p : Parts) (ready : IsAccepted p) where
  abbrev ws : Words
  ws = words p

  abbrev twins : List Twin
  twins = twins_in p

  abbrev q : Parts
  q = twinned p

  module _ (t : List Typed → Formula → Effect → Bool) (passes : Passes t) where
    effect_passes : (vars : List Typed) (when : Formula) (x e : Effect) → twin_effect twins x ≡ Some e → t vars when e ≡ true → t vars when x ≡ true
    effect_passes vars when (Add name ts) e is h = by (twin_of twins name) is
      where
        by : (o : Option Name) → option_map (λ other. Delete other ts) o ≡ Some e → t vars when (Add name ts) ≡ true
        by None is = none_some is
        by (Some other) is = passes.by_add vars when name other ts (subst (λ e. t vars when e ≡ true) (sym (some_same (Delete other ts) e is)) h)
    effect_passes vars when (Delete name ts) e is h = by (twin_of twins name) is
      where
        by : (o : Option Name) → option_map (λ other. Add other ts) o ≡ Some e → t vars when (Delete name ts) ≡ true
        by None is = none_some is
        by (Some other) is = passes.by_delete vars when name other ts (subst (λ e. t vars when e ≡ true) (sym (some_same (Add other ts) e is)) h)
    effect_passes vars when (Number change f ts x) e is h = none_some is
    effect_passes vars when (Object f ts u) e is h = none_some is
    effect_passes vars when (Undefine f ts) e is h = none_some is

    row_passes : (r x : Row) → IsOfRow twins r x → t x.vars x.when x.effect ≡ true → t r.vars r.when r.effect ≡ true
    row_passes r x (itself e) h = subst (λ (x : Row). t x.vars x.when x.effect ≡ true) e h
    row_passes r x (its_twin e is same) h = effect_passes r.vars r.when r.effect e is (subst (λ (x : Row). t x.vars x.when x.effect ≡ true) same h)

    some_rows : some_row q (λ r. t r.vars r.when r.effect) ≡ true → some_row p (λ r. t r.vars r.when r.effect) ≡ true
    some_rows h =
        let b = any_true (λ (a : Action). list_any (λ (r : Row). t r.vars r.when r.effect) a.rows) q.actions h in
        let a = of_map (positive_action ws) p.actions b.0 b.1 in
        let x = any_true (λ (r : Row). t r.vars r.when r.effect) (positive_action ws a.0).rows (subst (λ (b : Action). list_any (λ (r : Row). t r.vars r.when r.effect) b.rows ≡ true) a.2 b.2) in
        let r = of_rows twins a.0.rows x.0 x.1 in
        any_from (λ (a : Action). list_any (λ (r : Row). t r.vars r.when r.effect) a.rows) p.actions a.0 a.1
        (any_from (λ (r : Row). t r.vars r.when r.effect) a.0.rows r.0 r.1 (row_passes r.0 x.0 r.2 x.2))

  -- ---- conditions

  abbrev of_action : Action → List Formula
  of_action a = a.pre ∷ map (λ (r : Row). r.when) a.rows

  abbrev others : List Formula
  others = flat_map (λ (c : Constraint). formulas_of c.rule) p.constraints

  normal_pre : (a : Action) → Member a p.actions → IsNormal a.pre
  normal_pre a m = every_at IsNormal (main_conditions p) a.pre ready.normal (inr (member_pre p.actions a m))

  normal_goal : IsNormal p.goal
  normal_goal = every_at IsNormal (main_conditions p) p.goal ready.normal (inl refl)

  -- where a condition comes from
  data Comes (f : Formula) : Type 0 where
    of_pre : (a : Action) → Member a p.actions → f ≡ positive ws a.pre → Comes f
    of_when : (a : Action) → Member a p.actions → (r : Row) → Member r a.rows → f ≡ r.when → Comes f
    of_goal : f ≡ positive ws p.goal → Comes f
    of_constraint : Member f others → Comes f

  comes : (f : Formula) → Member f (conditions q) → Comes f
  comes f m = ⊎_elim
      (λ k. let b = of_flat of_action f q.actions k in
      let a = of_map (positive_action ws) p.actions b.0 b.1 in
      ⊎_elim (λ e. of_pre a.0 a.1 (e ∙ ap (λ (b : Action). b.pre) a.2))
      (λ j. let x = of_map (λ (r : Row). r.when) (positive_action ws a.0).rows f (subst (λ (b : Action). Member f (map (λ (r : Row). r.when) b.rows)) a.2 j) in
      let r = of_rows twins a.0.rows x.0 x.1 in
      of_when a.0 a.1 r.0 r.1 (x.2 ∙ same_when twins r.0 x.0 r.2))
      b.2)
      (λ k. ⊎_elim (λ e. of_goal e) (λ j. of_constraint j) k)
      (member_either f (flat_map of_action q.actions) (positive ws p.goal ∷ others) m)

  in_action : (a : Action) → Member a p.actions → (f : Formula) → Member f (of_action a) → Member f (conditions p)
  in_action a m f k = member_left f (flat_map of_action p.actions) (p.goal ∷ others) (member_flat of_action a f p.actions m k)

  module _ (t : Formula → Bool) (mild : IsMild t) where
    some_conditions : some_condition q t ≡ true → some_condition p t ≡ true
    some_conditions h = let f = any_true (anywhere t) (conditions q) h in by f.0 f.2 (comes f.0 f.1)
      where
        by : (f : Formula) → anywhere t f ≡ true → Comes f → some_condition p t ≡ true
        by f found (of_pre a m is) =
            any_from (anywhere t) (conditions p) a.pre (in_action a m a.pre (inl refl)) (positive_has ws t mild a.pre (normal_pre a m) (subst (λ f. anywhere t f ≡ true) is found))
        by f found (of_when a m r k is) =
            any_from (anywhere t) (conditions p) r.when (in_action a m r.when (inr (member_map (λ (r : Row). r.when) a.rows r k))) (subst (λ f. anywhere t f ≡ true) is found)
        by f found (of_goal is) =
            any_from (anywhere t) (conditions p) p.goal (member_right p.goal (flat_map of_action p.actions) (p.goal ∷ others) (inl refl))
            (positive_has ws t mild p.goal normal_goal (subst (λ f. anywhere t f ≡ true) is found))
        by f found (of_constraint k) = any_from (anywhere t) (conditions p) f (member_right f (flat_map of_action p.actions) (p.goal ∷ others) (inr k)) found

  none_negative : some_condition q is_not ≡ false
  none_negative = any_none (anywhere is_not) (conditions q) (λ f m. by f (comes f m))
    where
      by : (f : Formula) → Comes f → anywhere is_not f ≡ false
      by f (of_pre a m is) = ap (anywhere is_not) is ∙ no_not ws a.pre (normal_pre a m)
      by f (of_when a m r k is) =
          ap (anywhere is_not) is ∙ no_not_always r.when (every_at (λ (r : Row). is_true_formula r.when ≡ true) a.rows r (every_at (λ (a : Action). AreAlways a.rows) p.actions a ready.always m) k)
      by f (of_goal is) = ap (anywhere is_not) is ∙ no_not ws p.goal normal_goal
      by f (of_constraint k) = absurd (subst (λ (cs : List Constraint). Member f (flat_map (λ (c : Constraint). formulas_of c.rule) cs)) ready.free k)

  -- ---- the rest

  has_params : (actions : List Action) → list_any (λ (a : Action). flip (is_empty a.params)) (map (positive_action ws) actions) ≡ true → list_any (λ (a : Action). flip (is_empty a.params)) actions ≡ true
  has_params [] h = h
  has_params (a ∷ actions) h =
      ⊎_elim (λ k. left _ _ k) (λ k. right (flip (is_empty a.params)) _ (has_params actions k))
      (two_ways (flip (is_empty a.params)) (list_any (λ (a : Action). flip (is_empty a.params)) (map (positive_action ws) actions)) h)

  undefines : carries q PartialFluents ≡ true → carries p PartialFluents ≡ true
  undefines h = ⊎_elim
      (λ k. false_true (sym (none_given p.functions ready.none) ∙ k))
      (λ k. right _ _ (some_rows (λ vars when x. is_undefine x) (record { by_add = λ vars when name other ts h. false_true h; by_delete = λ vars when name other ts h. false_true h }) k))
      (two_ways (list_any (λ d. gives_an_object d && flip (is_total q d)) p.functions) (some_row q (λ r. is_undefine r.effect)) h)
    where
      none_given : (ds : List Function) → list_any gives_an_object ds ≡ false → list_any (λ d. gives_an_object d && flip (is_total q d)) ds ≡ false
      none_given ds none = any_none (λ d. gives_an_object d && flip (is_total q d)) ds (λ d m. ap (λ b. b && flip (is_total q d)) (any_false gives_an_object ds d none m))

  stays : (b : Bool) → b ≡ true → ((b && true) || false) ≡ true
  stays true e = refl
  stays false e = false_true e

  pub within_kind : IsSubset (carries q) (positive_kind (carries p))
  unfolding either minus is_in
  within_kind FlatTyping h = stays _ h
  within_kind HierarchicalTyping h = stays _ h
  within_kind ActionParameters h = stays _ (has_params p.actions h)
  within_kind NegativeConditions h = false_true (sym none_negative ∙ h)
  within_kind DisjunctiveConditions h = stays _ (some_conditions is_disjunctive disjunctive_mild h)
  within_kind Equalities h = stays _ (some_conditions is_equal equal_mild h)
  within_kind ExistentialConditions h = stays _ (some_conditions is_exists exists_mild h)
  within_kind UniversalConditions h = stays _ (some_conditions is_forall forall_mild h)
  within_kind ConditionalEffects h =
      stays _ (some_rows (λ vars when x. flip (is_true_formula when)) (record { by_add = λ vars when name other ts h. h; by_delete = λ vars when name other ts h. h }) h)
  within_kind ForallEffects h =
      stays _ (some_rows (λ vars when x. flip (is_empty vars)) (record { by_add = λ vars when name other ts h. h; by_delete = λ vars when name other ts h. h }) h)
  within_kind ObjectFluents h = stays _ h
  within_kind NumericFluents h = stays _ h
  within_kind NumericConditions h = stays _ (some_conditions is_compare compare_mild h)
  within_kind NumericEffects h =
      stays _ (some_rows (λ vars when x. is_numeric x) (record { by_add = λ vars when name other ts h. false_true h; by_delete = λ vars when name other ts h. false_true h }) h)
  within_kind ScaleEffects h =
      stays _ (some_rows (λ vars when x. is_scale x) (record { by_add = λ vars when name other ts h. false_true h; by_delete = λ vars when name other ts h. false_true h }) h)
  within_kind Metric h = stays _ h
  within_kind TrajectoryConstraints h = stays _ h
  within_kind EffectOverlap h = right (carries p EffectOverlap && true) true refl
  within_kind ObjectTermsUnderForall h =
      stays _ (some_rows (λ vars when x. flip (is_empty vars) && touches_objects x) (record { by_add = λ vars when name other ts h. h; by_delete = λ vars when name other ts h. h }) h)
  within_kind PartialFluents h = stays _ (undefines h)

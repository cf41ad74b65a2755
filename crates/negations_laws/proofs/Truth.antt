-- In related states a condition with twins is as true as the condition.
use Rattle.std.proofs.Common.{◌≡◌, Bool, true, false, ◌||◌, not as flip, List, [], ◌∷◌, ◌++◌, map, Some, option_map, unwrap_or, IsSome, refl, ap, sym, ◌∙◌, subst, inl, inr}
use Rattle.up_text.specs.declared.name.Name.{Name}
use Rattle.up_text.specs.Names.{same_name}
use Rattle.up_text.specs.Lists.{Member}
use Rattle.up_tree.specs.declared.term.Term.{Term}
use Rattle.up_tree.specs.declared.term.Typed.{Typed}
use Rattle.up_tree.specs.declared.formula.Formula.{Formula, And', Or', Atom, Equal, Compare, Row_of-Formula, end_of-Formula, more_of-Formula}
use Rattle.up_tree.specs.declared.problem.Predicate.{Predicate}
use Rattle.up_tree.specs.declared.problem.Parts.{Parts}
use Rattle.up_tree.specs.Nodes.{not, imply, exists, forall}
use Rattle.up_tree.specs.Objects.{World, world, Assignment, assign, tuples, named, predicate_named}
use Rattle.up_tree.specs.State.{State, ground}
use Rattle.up_tree.specs.Value.{with_both, term_value, values_of}
use Rattle.up_tree.specs.Judged.{opposite, all_of, any_of, of_test, atom_truth, equal_truth, truth_of, truths_of}
use Rattle.up_tree.specs.WellFormed.{IsWellFormed, TermsFit, IsFormula, AreFormulas, ObjectsFit}
use Rattle.up_kind.specs.Carried.{anywhere, in_row}
use Rattle.up_eval.proofs.Types.{some_and}
use Rattle.semantics_laws.specs.Symbols.{Symbol, TermNames, TermsName, FormulaNames}
use Rattle.std.specs.Cmp.Lexicographic.{bytes_decides}
use Rattle.std.specs.FinSet as set
use Rattle.step_laws.proofs.Splitting.{find_of}
use Rattle.semantics_laws.proofs.Agreeing.{same_value, same_values, same_judged}
use Rattle.semantics_laws.proofs.Lists.{each_member, same_map}
use Rattle.condition_laws.specs.Shapes.{IsNegatable, IsNormal, AreNormal}
use Rattle.condition_laws.proofs.Simplifying.{truth_of-And, truth_of-Or}
use Rattle.expansion_forms.specs.Covered.{AreObjects, Covers}
use Rattle.expansion_forms.proofs.Covering.{covers_tuple}
use Rattle.negations_laws.specs.Twins.{denies, tells_different, Twin, twin_of, words, twins_in, differ_in, denied_by, positive, all_positive}
use Rattle.negations_laws.specs.Related.{IsOld, AreTwinned}
use Rattle.negations_laws.proofs.Values.{NoObjectFunctions, HasValue, term_there, terms_typed, formula_names}

-- a twin of a declared predicate
pub record HasTwin (p : Parts) (name : Name) (d : Predicate) : Type 0 where
  pub twin : Twin
  pub member : Member twin (twins_in p)
  pub of : twin.of ≡ d
  pub found : twin_of (twins_in p) name ≡ Some twin.name

-- for what the tests find there are twins, and `differ`
pub record AreServed (p : Parts) (has : (Formula → Bool) → Bool) : Type 0 where
  pub twins : (name : Name) → has (denies name) ≡ true → (d : Predicate) → predicate_named p name ≡ Some d → HasTwin p name d
  pub differ : has tells_different ≡ true → (name : Name) × (differ_in p ≡ Some name)

-- what stands in a formula
abbrev pub IsServed : Parts → Formula → Type 0
IsServed p f = AreServed p (λ test. anywhere test f)

abbrev RowIsServed : Parts → {n : _} → Row_of-Formula n → Type 0
RowIsServed p fs = AreServed p (λ test. in_row test fs)

pub left : (a b : Bool) → a ≡ true → (a || b) ≡ true
left a b e = ap (λ x. x || b) e

pub right : (a b : Bool) → b ≡ true → (a || b) ≡ true
right true b e = refl
right false b e = e

pub fewer : (p : Parts) (has more : (Formula → Bool) → Bool) → ((test : Formula → Bool) → has test ≡ true → more test ≡ true) → AreServed p more → AreServed p has
fewer p has more each served = record {
  twins = λ name h. served.twins name (each (denies name) h);
  differ = λ h. served.differ (each tells_different h);
}

module _ (p : Parts) where
  pub first : {n : _} (f : Formula) (fs : Row_of-Formula n) → RowIsServed p (more_of-Formula f fs) → IsServed p f
  unfolding in_row
  first f fs served = fewer p (λ test. anywhere test f) (λ test. in_row test (more_of-Formula f fs)) (λ test h. left (anywhere test f) (in_row test fs) h) served

  pub rest : {n : _} (f : Formula) (fs : Row_of-Formula n) → RowIsServed p (more_of-Formula f fs) → RowIsServed p fs
  unfolding in_row
  rest f fs served = fewer p (λ test. in_row test fs) (λ test. in_row test (more_of-Formula f fs)) (λ test h. right (anywhere test f) (in_row test fs) h) served

  pub of_exists : (vars : List Typed) (f : Formula) → IsServed p (exists vars f) → IsServed p f
  unfolding anywhere
  of_exists vars f served = fewer p (λ test. anywhere test f) (λ test. anywhere test (exists vars f)) (λ test h. right (test (exists vars f)) (anywhere test f) h) served

  pub of_forall : (vars : List Typed) (f : Formula) → IsServed p (forall vars f) → IsServed p f
  unfolding anywhere
  of_forall vars f served = fewer p (λ test. anywhere test f) (λ test. anywhere test (forall vars f)) (λ test h. right (test (forall vars f)) (anywhere test f) h) served

turned_test : (b : Bool) → of_test (flip b) ≡ opposite (of_test b)
turned_test true = refl
turned_test false = refl

module _ (p : Parts) (well : IsWellFormed p) (none : NoObjectFunctions p) (s t : State) (related : AreTwinned p s t) (objects : List Typed) (are : AreObjects p objects) where
  abbrev w : World
  w = world p

  -- a literal or comparison without twins
  same_old : (scope : List Typed) (e : Assignment) (f : Formula) → IsFormula p objects scope f → truth_of w t e f ≡ truth_of w s e f
  same_old scope e f is = sym (same_judged (IsOld p) s t related.old w e f (formula_names p objects scope f is))

  negated_atom : (scope : List Typed) (e : Assignment) → Covers p e scope [] → (name : Name) (ts : List Term) → IsFormula p objects scope (Atom name ts) → IsServed p (not (Atom name ts)) →
      truth_of w t e (denied_by (words p) (Atom name ts)) ≡ opposite (truth_of w s e (Atom name ts))
  unfolding truth_of IsFormula anywhere FormulaNames
  negated_atom scope e covers name ts is served =
      some_and (predicate_named p name) (λ d. TermsFit p objects scope ts d.args) is (λ d found fit.
      let has : HasTwin p name d = served.twins name (left (same_name name name) (anywhere (denies name) (Atom name ts)) ((bytes_decides name name).1 refl)) d found in
      let there : (os : List Name) × (values_of t e ts ≡ Some os) × ObjectsFit p os d.args = terms_typed p well none objects scope are e covers t ts d.args fit in
      let before : (os : List Name) × (values_of s e ts ≡ Some os) × ObjectsFit p os d.args = terms_typed p well none objects scope are e covers s ts d.args fit in
      let same : values_of s e ts ≡ values_of t e ts =
      same_values (IsOld p) s t related.old e ts (λ x h. formula_names p objects scope (Atom name ts) is x (names_terms name ts x h)) in
      (λ i. atom_truth t (option_map (ground (ap (λ o. unwrap_or o name) has.found i)) (there.1 i)))
      ∙ ap of_test (related.twins has.twin has.member there.0 (subst (λ d. ObjectsFit p there.0 d.args) (sym has.of) there.2)
      ∙ ap (λ n. flip (set.contains s.atoms (ground n there.0))) (ap (λ (d : Predicate). d.name) has.of ∙ (find_of (λ (d : Predicate). d.name) name p.predicates d found).1))
      ∙ turned_test (set.contains s.atoms (ground name there.0))
      ∙ ap (λ v. opposite (atom_truth s (option_map (ground name) v))) (sym (same ∙ there.1)))
    where
      names_terms : (name : Name) (ts : List Term) (x : Symbol) → TermsName ts x → FormulaNames (Atom name ts) x
      names_terms name ts x h = inr h

  negated_equal : (scope : List Typed) (e : Assignment) → Covers p e scope [] → (u v : Term) → IsFormula p objects scope (Equal u v) → IsServed p (not (Equal u v)) →
      truth_of w t e (denied_by (words p) (Equal u v)) ≡ opposite (truth_of w s e (Equal u v))
  unfolding truth_of IsFormula anywhere FormulaNames
  negated_equal scope e covers u v is served =
      let word : (name : Name) × (differ_in p ≡ Some name) = served.differ refl in
      let a : HasValue (term_value t e u) (λ o. IsSome (named p.objects o)) = term_there p well none objects scope are e covers t u is.0 in
      let b : HasValue (term_value t e v) (λ o. IsSome (named p.objects o)) = term_there p well none objects scope are e covers t v is.1 in
      let same_a : term_value s e u ≡ term_value t e u =
      same_value (IsOld p) s t related.old e u (λ x h. formula_names p objects scope (Equal u v) is x (first_names x h)) in
      let same_b : term_value s e v ≡ term_value t e v =
      same_value (IsOld p) s t related.old e v (λ x h. formula_names p objects scope (Equal u v) is x (second_names x h)) in
      (λ i. atom_truth t (option_map (ground (ap (λ o. unwrap_or o []) word.1 i)) (with_both (λ o os. Some (o ∷ os)) (a.1 i) (with_both (λ o os. Some (o ∷ os)) (b.1 i) (Some [])))))
      ∙ ap of_test (related.differ word.0 word.1 a.0 b.0 a.2 b.2)
      ∙ turned_test (same_name a.0 b.0)
      ∙ (λ i. opposite (equal_truth (sym (same_a ∙ a.1) i) (sym (same_b ∙ b.1) i)))
    where
      first_names : (x : Symbol) → TermNames u x → FormulaNames (Equal u v) x
      first_names x h = inl h

      second_names : (x : Symbol) → TermNames v x → FormulaNames (Equal u v) x
      second_names x h = inr h

  negated : (scope : List Typed) (e : Assignment) → Covers p e scope [] → (f : Formula) → IsFormula p objects scope f → IsNegatable f → IsServed p (not f) →
      truth_of w t e (denied_by (words p) f) ≡ opposite (truth_of w s e f)
  negated scope e covers (Atom name ts) is lit served = negated_atom scope e covers name ts is served
  negated scope e covers (Equal u v) is lit served = negated_equal scope e covers u v is served
  negated scope e covers (And' n fs) is lit served = absurd lit
  negated scope e covers (Or' n fs) is lit served = absurd lit
  negated scope e covers (not f) is lit served = absurd lit
  negated scope e covers (imply f g) is lit served = absurd lit
  negated scope e covers (exists vars f) is lit served = absurd lit
  negated scope e covers (forall vars f) is lit served = absurd lit
  negated scope e covers (Compare r a b) is lit served = absurd lit

  mutual
    unfolding anywhere in_row truth_of truths_of positive all_positive IsFormula AreFormulas IsNormal AreNormal

    pub positive_truth : (scope : List Typed) (e : Assignment) → Covers p e scope [] → (f : Formula) → IsFormula p objects scope f → IsNormal f → IsServed p f →
        truth_of w t e (positive (words p) f) ≡ truth_of w s e f
    positive_truth scope e covers (And' n fs) is normal served =
        truth_of-And w t e (all_positive (words p) fs) ∙ ap all_of (all_truths scope e covers fs is normal (fewer p (λ test. in_row test fs) (λ test. anywhere test (And' n fs)) (λ test h. right (test (And' n fs)) (in_row test fs) h) served))
    positive_truth scope e covers (Or' n fs) is normal served =
        truth_of-Or w t e (all_positive (words p) fs) ∙ ap any_of (all_truths scope e covers fs is normal (fewer p (λ test. in_row test fs) (λ test. anywhere test (Or' n fs)) (λ test h. right (test (Or' n fs)) (in_row test fs) h) served))
    positive_truth scope e covers (not f) is normal served = negated scope e covers f is normal served
    positive_truth scope e covers (imply f g) is normal served = absurd normal
    positive_truth scope e covers (exists vars f) is normal served =
        ap any_of (same_map (λ tuple. truth_of w t (assign vars tuple e) (positive (words p) f)) (λ tuple. truth_of w s (assign vars tuple e) f) (tuples w vars)
        (each_member _ (tuples w vars) (λ tuple m.
        positive_truth (vars ++ scope) (assign vars tuple e) (covers_tuple p well vars scope [] e tuple covers is.0.differ m) f is.1 normal (of_exists p vars f served))))
    positive_truth scope e covers (forall vars f) is normal served =
        ap all_of (same_map (λ tuple. truth_of w t (assign vars tuple e) (positive (words p) f)) (λ tuple. truth_of w s (assign vars tuple e) f) (tuples w vars)
        (each_member _ (tuples w vars) (λ tuple m.
        positive_truth (vars ++ scope) (assign vars tuple e) (covers_tuple p well vars scope [] e tuple covers is.0.differ m) f is.1 normal (of_forall p vars f served))))
    positive_truth scope e covers (Atom name ts) is normal served = same_old scope e (Atom name ts) is
    positive_truth scope e covers (Equal u v) is normal served = same_old scope e (Equal u v) is
    positive_truth scope e covers (Compare r a b) is normal served = same_old scope e (Compare r a b) is

    all_truths : (scope : List Typed) (e : Assignment) → Covers p e scope [] → {n : _} (fs : Row_of-Formula n) → AreFormulas p objects scope fs → AreNormal fs → RowIsServed p fs →
        map (truth_of w t e) (all_positive (words p) fs) ≡ truths_of w s e fs
    all_truths scope e covers end_of-Formula is normal served = refl
    all_truths scope e covers (more_of-Formula f fs) is normal served =
        λ i. positive_truth scope e covers f is.0 normal.0 (first p f fs served) i ∷ all_truths scope e covers fs is.1 normal.1 (rest p f fs served) i

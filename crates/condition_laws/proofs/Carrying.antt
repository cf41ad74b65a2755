-- Simplification gains no feature.
use Rattle.std.proofs.Common.{◌≡◌, ◌⊎◌, Bool, true, false, ◌||◌, not as flip, true≢false, List, [], ◌∷◌, Option, Some, None, option_and_then, refl, ap, sym, ◌∙◌, subst, inr, ⊎_elim}
use Rattle.std.specs.Prelude.{if◌then◌else◌}
use Rattle.std.specs.List.{list_any}
use Rattle.up_text.specs.declared.name.Name.{Name}
use Rattle.up_text.specs.Names.{same_name}
use Rattle.up_tree.specs.declared.term.Term.{Term, Var, Object, Fluent'}
use Rattle.up_tree.specs.declared.term.Typed.{Typed}
use Rattle.up_tree.specs.declared.formula.Formula.{Formula, And, And', Or, Or', Atom, Equal, Compare, Row_of-Formula, end_of-Formula, more_of-Formula}
use Rattle.up_tree.specs.Nodes.{not, imply, exists, forall}
use Rattle.up_tree.specs.Objects.{World}
use Rattle.up_tree.specs.Simplify.{Oracle, true_formula, false_formula, constant, conjuncts, disjuncts, is_true_formula, is_false_formula, alone_or, simple_and, simple_or, objects_in, simple_atom, simple_equal, without_not, simple_not, simple_imply, are_inhabited, simple_exists, simple_forall, simplified, all_conjuncts, all_disjuncts}
use Rattle.up_kind.specs.Carried.{anywhere, in_row, is_not, is_disjunctive, is_equal, is_exists, is_forall, is_compare}
use Rattle.condition_laws.specs.Carrying.{SimplifiedCarries}
use Rattle.condition_laws.proofs.Holding.{left, right, of_two, second, former, latter, none, any_of_both, anywhere-And, anywhere-Or, in_conjuncts, in_disjuncts, is_true_formula-true_formula, is_false_formula-false_formula}

told_atom : Name → List Term → Option Bool → Formula
told_atom name ts (Some b) = constant b
told_atom name ts None = Atom name ts

-- ---- tests that see no `and` and no quantifier's body

record IsOfNode (test : Formula → Bool) : Type 0 where
  ands : (fs : List Formula) → test (And fs) ≡ false
  under_exists : (vars : List Typed) (f g : Formula) → test (exists vars f) ≡ test (exists vars g)
  under_forall : (vars : List Typed) (f g : Formula) → test (forall vars f) ≡ test (forall vars g)

module _ (test : Formula → Bool) (of_node : IsOfNode test) where
  no_always : anywhere test true_formula ≡ false
  no_always = anywhere-And test [] ∙ ap (λ b. b || false) (of_node.ands [])

  alone_in_and : (fs : List Formula) → anywhere test (alone_or And fs) ≡ true → list_any (anywhere test) fs ≡ true
  alone_in_and [] h = none no_always h
  alone_in_and (f ∷ []) h = left (anywhere test f) false h
  alone_in_and (f ∷ g ∷ fs) h =
      second (test (And (f ∷ g ∷ fs))) (list_any (anywhere test) (f ∷ g ∷ fs)) (of_node.ands (f ∷ g ∷ fs)) (sym (anywhere-And test (f ∷ g ∷ fs)) ∙ h)

-- ---- tests that see no constant, no `imply` and no node's members

record IsMild (test : Formula → Bool) : Type 0 where
  of_node : IsOfNode test
  ors : (fs : List Formula) → test (Or fs) ≡ false
  implies : (f g : Formula) → test (imply f g) ≡ false
  under_not : (f g : Formula) → test (not f) ≡ test (not g)

module _ (test : Formula → Bool) (mild : IsMild test) where
  no_never : anywhere test false_formula ≡ false
  no_never = anywhere-Or test [] ∙ ap (λ b. b || false) (mild.ors [])

  no_constant : (b : Bool) → anywhere test (constant b) ≡ false
  no_constant true = no_always test mild.of_node
  no_constant false = no_never

  alone_in_or : (fs : List Formula) → anywhere test (alone_or Or fs) ≡ true → list_any (anywhere test) fs ≡ true
  alone_in_or [] h = none no_never h
  alone_in_or (f ∷ []) h = left (anywhere test f) false h
  alone_in_or (f ∷ g ∷ fs) h =
      second (test (Or (f ∷ g ∷ fs))) (list_any (anywhere test) (f ∷ g ∷ fs)) (mild.ors (f ∷ g ∷ fs)) (sym (anywhere-Or test (f ∷ g ∷ fs)) ∙ h)

  in_and : (fs : List Formula) → anywhere test (simple_and fs) ≡ true → list_any (anywhere test) fs ≡ true
  in_and fs = by (list_any is_false_formula fs)
    where
      by : (b : Bool) → anywhere test (if b then false_formula else alone_or And fs) ≡ true → list_any (anywhere test) fs ≡ true
      by true h = none no_never h
      by false h = alone_in_and test mild.of_node fs h

  in_or : (fs : List Formula) → anywhere test (simple_or fs) ≡ true → list_any (anywhere test) fs ≡ true
  in_or fs = by (list_any is_true_formula fs)
    where
      by : (b : Bool) → anywhere test (if b then true_formula else alone_or Or fs) ≡ true → list_any (anywhere test) fs ≡ true
      by true h = none (no_constant true) h
      by false h = alone_in_or fs h

  in_without_not : (f : Formula) → anywhere test (without_not f) ≡ true → (test (not f) || anywhere test f) ≡ true
  unfolding anywhere
  in_without_not (not f) h = right (test (not (not f))) _ (right (test (not f)) _ h)
  in_without_not (And' n fs) h = h
  in_without_not (Or' n fs) h = h
  in_without_not (imply f g) h = h
  in_without_not (exists vars f) h = h
  in_without_not (forall vars f) h = h
  in_without_not (Atom name ts) h = h
  in_without_not (Equal t u) h = h
  in_without_not (Compare r a b) h = h

  in_not : (f : Formula) → anywhere test (simple_not f) ≡ true → (test (not f) || anywhere test f) ≡ true
  in_not f = by (is_true_formula f) (is_false_formula f)
    where
      by : (a n : Bool) → anywhere test (if a then false_formula else (if n then true_formula else without_not f)) ≡ true → (test (not f) || anywhere test f) ≡ true
      by true n h = none no_never h
      by false true h = none (no_constant true) h
      by false false h = in_without_not f h

  in_imply : (f g : Formula) → anywhere test (simple_imply f g) ≡ true → (anywhere test f ≡ true) ⊎ (anywhere test g ≡ true)
  unfolding anywhere
  in_imply f g = by (is_true_formula f) (is_false_formula f) (is_true_formula g)
    where
      by : (a n b : Bool) → anywhere test (if a then g else (if n then true_formula else (if b then true_formula else imply f g))) ≡ true →
          (anywhere test f ≡ true) ⊎ (anywhere test g ≡ true)
      by true n b h = inr h
      by false true b h = none (no_constant true) h
      by false false true h = none (no_constant true) h
      by false false false h = of_two (anywhere test f) (anywhere test g) (second (test (imply f g)) _ (mild.implies f g) h)

  in_exists : (w : World) (vars : List Typed) (f : Formula) → anywhere test (simple_exists w vars f) ≡ true → (test (exists vars f) || anywhere test f) ≡ true
  unfolding anywhere
  in_exists w vars f = by (is_false_formula f) (is_true_formula f)
    where
      by : (n a : Bool) → anywhere test (if n then false_formula else (if a then constant (are_inhabited w vars) else exists vars f)) ≡ true →
          (test (exists vars f) || anywhere test f) ≡ true
      by true a h = none no_never h
      by false true h = none (no_constant (are_inhabited w vars)) h
      by false false h = h

  in_forall : (w : World) (vars : List Typed) (f : Formula) → anywhere test (simple_forall w vars f) ≡ true → (test (forall vars f) || anywhere test f) ≡ true
  unfolding anywhere
  in_forall w vars f = by (is_true_formula f) (is_false_formula f)
    where
      by : (a n : Bool) → anywhere test (if a then true_formula else (if n then constant (flip (are_inhabited w vars)) else forall vars f)) ≡ true →
          (test (forall vars f) || anywhere test f) ≡ true
      by true n h = none (no_constant true) h
      by false true h = none (no_constant (flip (are_inhabited w vars))) h
      by false false h = h

  in_told : (name : Name) (ts : List Term) (b : Option Bool) → anywhere test (told_atom name ts b) ≡ true → anywhere test (Atom name ts) ≡ true
  unfolding told_atom
  in_told name ts (Some b) h = none (no_constant b) h
  in_told name ts None h = h

  in_atom : (oracle : Oracle) (name : Name) (ts : List Term) → anywhere test (simple_atom oracle name ts) ≡ true → anywhere test (Atom name ts) ≡ true
  unfolding told_atom
  in_atom oracle name ts = in_told name ts (option_and_then (λ args. oracle (record { predicate = name; args = args })) (objects_in ts))

  in_one_of : (b : Bool) (f : Formula) → anywhere test (if b then true_formula else f) ≡ true → anywhere test f ≡ true
  in_one_of true f h = none (no_constant true) h
  in_one_of false f h = h

  in_equal : (t u : Term) → anywhere test (simple_equal t u) ≡ true → anywhere test (Equal t u) ≡ true
  in_equal (Var v) (Var x) h = in_one_of (same_name v x) (Equal (Var v) (Var x)) h
  in_equal (Object o) (Object q) h = none (no_constant (same_name o q)) h
  in_equal (Var v) (Object q) h = h
  in_equal (Var v) (Fluent' g n us) h = h
  in_equal (Object o) (Var x) h = h
  in_equal (Object o) (Fluent' g n us) h = h
  in_equal (Fluent' f n ts) u h = h

  module _ (w : World) (oracle : Oracle) where
    mutual
      unfolding simplified all_conjuncts all_disjuncts anywhere in_row

      in_simplified : (f : Formula) → anywhere test (simplified w oracle f) ≡ true → anywhere test f ≡ true
      in_simplified (And' n fs) h = right (test (And' n fs)) _ (in_all_conjuncts fs (in_and (all_conjuncts w oracle fs) h))
      in_simplified (Or' n fs) h = right (test (Or' n fs)) _ (in_all_disjuncts fs (in_or (all_disjuncts w oracle fs) h))
      in_simplified (not f) h =
          ⊎_elim (λ e. left (test (not f)) _ (mild.under_not f (simplified w oracle f) ∙ e)) (λ e. right (test (not f)) _ (in_simplified f e))
          (of_two (test (not (simplified w oracle f))) (anywhere test (simplified w oracle f)) (in_not (simplified w oracle f) h))
      in_simplified (imply f g) h =
          right (test (imply f g)) _
          (⊎_elim (λ e. left (anywhere test f) (anywhere test g) (in_simplified f e)) (λ e. right (anywhere test f) (anywhere test g) (in_simplified g e))
          (in_imply (simplified w oracle f) (simplified w oracle g) h))
      in_simplified (exists vars f) h =
          ⊎_elim (λ e. left (test (exists vars f)) _ (mild.of_node.under_exists vars f (simplified w oracle f) ∙ e)) (λ e. right (test (exists vars f)) _ (in_simplified f e))
          (of_two (test (exists vars (simplified w oracle f))) (anywhere test (simplified w oracle f)) (in_exists w vars (simplified w oracle f) h))
      in_simplified (forall vars f) h =
          ⊎_elim (λ e. left (test (forall vars f)) _ (mild.of_node.under_forall vars f (simplified w oracle f) ∙ e)) (λ e. right (test (forall vars f)) _ (in_simplified f e))
          (of_two (test (forall vars (simplified w oracle f))) (anywhere test (simplified w oracle f)) (in_forall w vars (simplified w oracle f) h))
      in_simplified (Atom name ts) h = in_atom oracle name ts h
      in_simplified (Equal t u) h = in_equal t u h
      in_simplified (Compare r a b) h = h

      in_all_conjuncts : {n : _} (fs : Row_of-Formula n) → list_any (anywhere test) (all_conjuncts w oracle fs) ≡ true → in_row test fs ≡ true
      in_all_conjuncts end_of-Formula h = h
      in_all_conjuncts (more_of-Formula f fs) h =
          ⊎_elim (λ e. left (anywhere test f) (in_row test fs) (in_simplified f (in_conjuncts test (simplified w oracle f) e)))
          (λ e. right (anywhere test f) (in_row test fs) (in_all_conjuncts fs e))
          (of_two _ _ (sym (any_of_both (anywhere test) (conjuncts (simplified w oracle f)) (all_conjuncts w oracle fs)) ∙ h))

      in_all_disjuncts : {n : _} (fs : Row_of-Formula n) → list_any (anywhere test) (all_disjuncts w oracle fs) ≡ true → in_row test fs ≡ true
      in_all_disjuncts end_of-Formula h = h
      in_all_disjuncts (more_of-Formula f fs) h =
          ⊎_elim (λ e. left (anywhere test f) (in_row test fs) (in_simplified f (in_disjuncts test (simplified w oracle f) e)))
          (λ e. right (anywhere test f) (in_row test fs) (in_all_disjuncts fs e))
          (of_two _ _ (sym (any_of_both (anywhere test) (disjuncts (simplified w oracle f)) (all_disjuncts w oracle fs)) ∙ h))

nots_mild : IsMild is_not
nots_mild = record {
  of_node = record { ands = λ fs. refl; under_exists = λ vars f g. refl; under_forall = λ vars f g. refl };
  ors = λ fs. refl;
  implies = λ f g. refl;
  under_not = λ f g. refl;
}

equals_mild : IsMild is_equal
equals_mild = record {
  of_node = record { ands = λ fs. refl; under_exists = λ vars f g. refl; under_forall = λ vars f g. refl };
  ors = λ fs. refl;
  implies = λ f g. refl;
  under_not = λ f g. refl;
}

exists_mild : IsMild is_exists
exists_mild = record {
  of_node = record { ands = λ fs. refl; under_exists = λ vars f g. refl; under_forall = λ vars f g. refl };
  ors = λ fs. refl;
  implies = λ f g. refl;
  under_not = λ f g. refl;
}

foralls_mild : IsMild is_forall
foralls_mild = record {
  of_node = record { ands = λ fs. refl; under_exists = λ vars f g. refl; under_forall = λ vars f g. refl };
  ors = λ fs. refl;
  implies = λ f g. refl;
  under_not = λ f g. refl;
}

compares_mild : IsMild is_compare
compares_mild = record {
  of_node = record { ands = λ fs. refl; under_exists = λ vars f g. refl; under_forall = λ vars f g. refl };
  ors = λ fs. refl;
  implies = λ f g. refl;
  under_not = λ f g. refl;
}

-- ---- disjunctions

disjunctions : IsOfNode is_disjunctive
disjunctions = record { ands = λ fs. refl; under_exists = λ vars f g. refl; under_forall = λ vars f g. refl }

abbrev HasOr : Formula → Type 0
HasOr f = anywhere is_disjunctive f ≡ true

-- a formula that is not `false`, with a disjunction in it
abbrev LeftOr : Formula → Type 0
LeftOr f = (is_false_formula f ≡ false) × HasOr f

pub not_never : {A : Type 0} → is_false_formula false_formula ≡ false → A
not_never h = none h is_false_formula-false_formula

never_in_and : (fs : List Formula) → LeftOr (simple_and fs) → (list_any is_false_formula fs ≡ false) × (list_any (anywhere is_disjunctive) fs ≡ true)
never_in_and fs = by (list_any is_false_formula fs) refl
  where
    by : (b : Bool) → list_any is_false_formula fs ≡ b → LeftOr (if b then false_formula else alone_or And fs) → (list_any is_false_formula fs ≡ false) × (list_any (anywhere is_disjunctive) fs ≡ true)
    by true at h = not_never h.0
    by false at h = (at, alone_in_and is_disjunctive disjunctions fs h.1)

left_constant : {A : Type 0} (b : Bool) → LeftOr (constant b) → A
left_constant true h = none (no_always is_disjunctive disjunctions) h.1
left_constant false h = not_never h.0

left_exists : (w : World) (vars : List Typed) (f : Formula) → LeftOr (simple_exists w vars f) → LeftOr f
unfolding anywhere
left_exists w vars f = by (is_false_formula f) (is_true_formula f) refl
  where
    by : (n a : Bool) → is_false_formula f ≡ n → LeftOr (if n then false_formula else (if a then constant (are_inhabited w vars) else exists vars f)) → LeftOr f
    by true a at h = not_never h.0
    by false true at h = left_constant (are_inhabited w vars) h
    by false false at h = (at, h.1)

left_forall : (w : World) (vars : List Typed) (f : Formula) → LeftOr (simple_forall w vars f) → LeftOr f
unfolding anywhere
left_forall w vars f = by (is_true_formula f) (is_false_formula f) refl
  where
    by : (a n : Bool) → is_false_formula f ≡ n → LeftOr (if a then true_formula else (if n then constant (flip (are_inhabited w vars)) else forall vars f)) → LeftOr f
    by true n at h = left_constant true h
    by false true at h = left_constant (flip (are_inhabited w vars)) h
    by false false at h = (at, h.1)

-- the negation of a constant is the other one
pub not_constant : (b : Bool) → simple_not (constant b) ≡ constant (flip b)
not_constant true = λ i. if is_true_formula-true_formula i then false_formula else (if is_false_formula true_formula then true_formula else without_not true_formula)
not_constant false = λ i. if is_false_formula-false_formula i then true_formula else without_not false_formula

left_not_constant : {A : Type 0} (b : Bool) → LeftOr (simple_not (constant b)) → A
left_not_constant b h = left_constant (flip b) (subst LeftOr (not_constant b) h)

left_not_told : {A : Type 0} (name : Name) (ts : List Term) (b : Option Bool) → LeftOr (simple_not (told_atom name ts b)) → A
unfolding told_atom anywhere
left_not_told name ts (Some b) h = left_not_constant b h
left_not_told name ts None h = absurd (true≢false (sym h.1))

left_not_one_of : {A : Type 0} (b : Bool) (t u : Term) → LeftOr (simple_not (if b then true_formula else Equal t u)) → A
unfolding anywhere
left_not_one_of true t u h = left_not_constant true h
left_not_one_of false t u h = absurd (true≢false (sym h.1))

left_not_equal : {A : Type 0} (t u : Term) → LeftOr (simple_not (simple_equal t u)) → A
unfolding anywhere
left_not_equal (Var v) (Var x) h = left_not_one_of (same_name v x) (Var v) (Var x) h
left_not_equal (Object o) (Object q) h = left_not_constant (same_name o q) h
left_not_equal (Var v) (Object q) h = absurd (true≢false (sym h.1))
left_not_equal (Var v) (Fluent' g n us) h = absurd (true≢false (sym h.1))
left_not_equal (Object o) (Var x) h = absurd (true≢false (sym h.1))
left_not_equal (Object o) (Fluent' g n us) h = absurd (true≢false (sym h.1))
left_not_equal (Fluent' f n ts) u h = absurd (true≢false (sym h.1))

left_told : {A : Type 0} (name : Name) (ts : List Term) (b : Option Bool) → LeftOr (told_atom name ts b) → A
unfolding told_atom anywhere
left_told name ts (Some b) h = left_constant b h
left_told name ts None h = absurd (true≢false (sym h.1))

left_one_of : {A : Type 0} (b : Bool) (t u : Term) → LeftOr (if b then true_formula else Equal t u) → A
unfolding anywhere
left_one_of true t u h = left_constant true h
left_one_of false t u h = absurd (true≢false (sym h.1))

left_equal : {A : Type 0} (t u : Term) → LeftOr (simple_equal t u) → A
unfolding anywhere
left_equal (Var v) (Var x) h = left_one_of (same_name v x) (Var v) (Var x) h
left_equal (Object o) (Object q) h = left_constant (same_name o q) h
left_equal (Var v) (Object q) h = absurd (true≢false (sym h.1))
left_equal (Var v) (Fluent' g n us) h = absurd (true≢false (sym h.1))
left_equal (Object o) (Var x) h = absurd (true≢false (sym h.1))
left_equal (Object o) (Fluent' g n us) h = absurd (true≢false (sym h.1))
left_equal (Fluent' f n ts) u h = absurd (true≢false (sym h.1))

-- where no conjunct is `false`, the formula isn't
pub not_never_by : (f : Formula) → list_any is_false_formula (conjuncts f) ≡ false → is_false_formula f ≡ false
not_never_by (And' n fs) h = refl
not_never_by (Or' n fs) h = former (is_false_formula (Or' n fs)) false h
not_never_by (not f) h = refl
not_never_by (imply f g) h = refl
not_never_by (exists vars f) h = refl
not_never_by (forall vars f) h = refl
not_never_by (Atom name ts) h = refl
not_never_by (Equal t u) h = refl
not_never_by (Compare r a b) h = refl

module _ (w : World) (oracle : Oracle) where
  mutual
    unfolding simplified all_conjuncts all_disjuncts anywhere in_row told_atom

    or_in : (f : Formula) → LeftOr (simplified w oracle f) → HasOr f
    or_in (And' n fs) h = or_in_conjuncts fs (never_in_and (all_conjuncts w oracle fs) h)
    or_in (Or' n fs) h = refl
    or_in (imply f g) h = refl
    or_in (exists vars f) h = or_in f (left_exists w vars (simplified w oracle f) h)
    or_in (forall vars f) h = or_in f (left_forall w vars (simplified w oracle f) h)
    or_in (not (And' n fs)) h = refl
    or_in (not (Or' n fs)) h = refl
    or_in (not (not f)) h = refl
    or_in (not (imply f g)) h = refl
    or_in (not (exists vars f)) h = refl
    or_in (not (forall vars f)) h = refl
    or_in (not (Atom name ts)) h = left_not_told name ts (option_and_then (λ args. oracle (record { predicate = name; args = args })) (objects_in ts)) h
    or_in (not (Equal t u)) h = left_not_equal t u h
    or_in (not (Compare r a b)) h = refl
    or_in (Atom name ts) h = left_told name ts (option_and_then (λ args. oracle (record { predicate = name; args = args })) (objects_in ts)) h
    or_in (Equal t u) h = left_equal t u h
    or_in (Compare r a b) h = absurd (true≢false (sym h.1))

    or_in_conjuncts : {n : _} (fs : Row_of-Formula n) → (list_any is_false_formula (all_conjuncts w oracle fs) ≡ false) × (list_any (anywhere is_disjunctive) (all_conjuncts w oracle fs) ≡ true) →
        in_row is_disjunctive fs ≡ true
    or_in_conjuncts end_of-Formula h = h.1
    or_in_conjuncts (more_of-Formula f fs) h =
        let apart : (list_any is_false_formula (conjuncts (simplified w oracle f)) || list_any is_false_formula (all_conjuncts w oracle fs)) ≡ false =
        sym (any_of_both is_false_formula (conjuncts (simplified w oracle f)) (all_conjuncts w oracle fs)) ∙ h.0 in
        ⊎_elim (λ e. left (anywhere is_disjunctive f) (in_row is_disjunctive fs)
        (or_in f (not_never_by (simplified w oracle f) (former _ _ apart), in_conjuncts is_disjunctive (simplified w oracle f) e)))
        (λ e. right (anywhere is_disjunctive f) (in_row is_disjunctive fs) (or_in_conjuncts fs (latter _ _ apart, e)))
        (of_two _ _ (sym (any_of_both (anywhere is_disjunctive) (conjuncts (simplified w oracle f)) (all_conjuncts w oracle fs)) ∙ h.1))

pub simplified_carry : (w : World) (oracle : Oracle) (f : Formula) → SimplifiedCarries w oracle f
simplified_carry w oracle f = record {
  negations = in_simplified is_not nots_mild w oracle f;
  equalities = in_simplified is_equal equals_mild w oracle f;
  existential = in_simplified is_exists exists_mild w oracle f;
  universal = in_simplified is_forall foralls_mild w oracle f;
  comparisons = in_simplified is_compare compares_mild w oracle f;
  disjunctive = λ n h. or_in w oracle f (n, h);
}

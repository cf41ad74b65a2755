-- What stands negated after simplification stood under an odd number of negations before.
use Rattle.std.proofs.Common.{◌≡◌, ◌⊎◌, Bool, true, false, not as flip, ◌||◌, List, [], ◌∷◌, Option, Some, None, option_and_then, refl, sym, ◌∙◌, subst, inl, inr, ⊎_elim}
use Rattle.std.specs.Prelude.{if◌then◌else◌}
use Rattle.std.specs.List.{list_any}
use Rattle.std.proofs.lemmas.List.Folds.{list_any-append}
use Rattle.condition_laws.proofs.Carrying.{not_constant}
use Rattle.up_text.specs.declared.name.Name.{Name}
use Rattle.up_text.specs.Names.{same_name}
use Rattle.up_tree.specs.declared.term.Term.{Term, Var, Object, Fluent'}
use Rattle.up_tree.specs.declared.term.Typed.{Typed}
use Rattle.up_tree.specs.declared.expr.Expr.{Expr}
use Rattle.up_tree.specs.declared.formula.Relation.{Relation}
use Rattle.up_tree.specs.declared.formula.Relation.TheVariants.{Less, LessEqual, Same, GreaterEqual, Greater}
use Rattle.up_tree.specs.declared.formula.Formula.{Formula, And, And', Or, Or', Atom, Equal, Compare, Row_of-Formula, end_of-Formula, more_of-Formula}
use Rattle.up_tree.specs.Nodes.{not, imply, exists, forall}
use Rattle.up_tree.specs.Normal.{denied, nnf, nnf_not, nnf_all, nnf_not_all}
use Rattle.up_tree.specs.Objects.{World}
use Rattle.up_tree.specs.Simplify.{knows_nothing, true_formula, false_formula, constant, conjuncts, disjuncts, is_true_formula, is_false_formula, alone_or, simple_and, simple_or, objects_in, simple_atom, simple_equal, simple_not, are_inhabited, simple_exists, simple_forall, simplified, all_conjuncts, all_disjuncts}
use Rattle.up_kind.specs.Carried.{anywhere, in_row, is_equal}
use Rattle.semantics_laws.specs.Symbols.{predicate}
use Rattle.condition_laws.specs.Shapes.{IsNegatable, IsNormal, AreNormal}
use Rattle.condition_laws.proofs.Forming.{nnf_normal}
use Rattle.condition_laws.proofs.Holding.{anywhere-And, anywhere-Or, in_conjuncts, in_disjuncts}
use Rattle.compiling_laws.proofs.Lists.{false_true}
use Rattle.negations_laws.specs.Twins.{denies, tells_different}
use Rattle.negations_laws.specs.Negations.{negations, negated, some_negated, is_atom_of}
use Rattle.negations_laws.proofs.Truth.{left, right}

pub two_ways : (a b : Bool) → (a || b) ≡ true → (a ≡ true) ⊎ (b ≡ true)
two_ways true b h = inl refl
two_ways false b h = inr h

second : (a b : Bool) → a ≡ false → (a || b) ≡ true → b ≡ true
second true b e h = false_true (sym e)
second false b e h = h

-- ---- what is denied after is negated before

-- the first test holds of the negations of those formulas of which the second holds, and of nothing else
pub record IsDenial (t u : Formula → Bool) : Type 0 where
  ands : (fs : List Formula) → t (And fs) ≡ false
  ors : (fs : List Formula) → t (Or fs) ≡ false
  nots : (f : Formula) → t (not f) ≡ u f
  exists_no : (vars : List Typed) (f : Formula) → t (exists vars f) ≡ false
  forall_no : (vars : List Typed) (f : Formula) → t (forall vars f) ≡ false
  pub atoms : (name : Name) (ts : List Term) → t (Atom name ts) ≡ false
  equals : (v w : Term) → t (Equal v w) ≡ false
  comparisons : (r : Relation) (a b : Expr) → t (Compare r a b) ≡ false

denies_nots : (name : Name) (f : Formula) → denies name (not f) ≡ is_atom_of name f
denies_nots name (And' n fs) = refl
denies_nots name (Or' n fs) = refl
denies_nots name (not f) = refl
denies_nots name (imply f g) = refl
denies_nots name (exists vars f) = refl
denies_nots name (forall vars f) = refl
denies_nots name (Atom other ts) = refl
denies_nots name (Equal t u) = refl
denies_nots name (Compare r a b) = refl

pub denies_is : (name : Name) → IsDenial (denies name) (is_atom_of name)
denies_is name = record {
  ands = λ fs. refl;
  ors = λ fs. refl;
  nots = denies_nots name;
  exists_no = λ vars f. refl;
  forall_no = λ vars f. refl;
  atoms = λ other ts. refl;
  equals = λ v w. refl;
  comparisons = λ r a b. refl;
}

different_nots : (f : Formula) → tells_different (not f) ≡ is_equal f
different_nots (And' n fs) = refl
different_nots (Or' n fs) = refl
different_nots (not f) = refl
different_nots (imply f g) = refl
different_nots (exists vars f) = refl
different_nots (forall vars f) = refl
different_nots (Atom other ts) = refl
different_nots (Equal t u) = refl
different_nots (Compare r a b) = refl

pub different_is : IsDenial tells_different is_equal
different_is = record {
  ands = λ fs. refl;
  ors = λ fs. refl;
  nots = different_nots;
  exists_no = λ vars f. refl;
  forall_no = λ vars f. refl;
  atoms = λ other ts. refl;
  equals = λ v w. refl;
  comparisons = λ r a b. refl;
}

told_atom : Name → List Term → Option Bool → Formula
told_atom name ts (Some b) = constant b
told_atom name ts None = Atom name ts

-- an oracle that never answers leaves an atom
atom_stays : (name : Name) (ts : List Term) → simple_atom knows_nothing name ts ≡ Atom name ts
unfolding told_atom
atom_stays name ts = by (objects_in ts)
  where
    by : (o : Option (List Name)) → told_atom name ts (option_and_then (λ args. knows_nothing (record { predicate = name; args = args })) o) ≡ Atom name ts
    by None = refl
    by (Some args) = refl

module _ (t u : Formula → Bool) (denial : IsDenial t u) where
  in_and : (fs : List Formula) → anywhere t (And fs) ≡ true → list_any (anywhere t) fs ≡ true
  in_and fs h = second (t (And fs)) (list_any (anywhere t) fs) (denial.ands fs) (sym (anywhere-And t fs) ∙ h)

  in_or : (fs : List Formula) → anywhere t (Or fs) ≡ true → list_any (anywhere t) fs ≡ true
  in_or fs h = second (t (Or fs)) (list_any (anywhere t) fs) (denial.ors fs) (sym (anywhere-Or t fs) ∙ h)

  -- ---- normal form

  of_denied : (r : Relation) (a b : Expr) → anywhere t (denied r a b) ≡ true → false ≡ true
  unfolding anywhere
  of_denied Less a b h = sym (denial.comparisons GreaterEqual a b) ∙ h
  of_denied LessEqual a b h = sym (denial.comparisons Greater a b) ∙ h
  of_denied GreaterEqual a b h = sym (denial.comparisons Less a b) ∙ h
  of_denied Greater a b h = sym (denial.comparisons LessEqual a b) ∙ h
  of_denied Same a b h = ⊎_elim (λ k. sym (denial.comparisons Less a b) ∙ k) (λ k. ⊎_elim (λ j. sym (denial.comparisons Greater a b) ∙ j) (λ j. j) (two_ways (t (Compare Greater a b)) false k))
      (two_ways (t (Compare Less a b)) (t (Compare Greater a b) || false) (in_or (Compare Less a b ∷ Compare Greater a b ∷ []) h))

  mutual
    unfolding anywhere nnf nnf_not nnf_all nnf_not_all negated some_negated

    of_nnf : (f : Formula) → anywhere t (nnf f) ≡ true → negated u false f ≡ true
    of_nnf (And' n fs) h = of_nnf_all fs (in_and (nnf_all fs) h)
    of_nnf (Or' n fs) h = of_nnf_all fs (in_or (nnf_all fs) h)
    of_nnf (not f) h = of_nnf_not f h
    of_nnf (imply f g) h =
        ⊎_elim (λ k. left (negated u true f) (negated u false g) (of_nnf_not f k))
        (λ k. right (negated u true f) (negated u false g) (of_nnf g (⊎_elim (λ j. j) (λ j. false_true j) (two_ways (anywhere t (nnf g)) false k))))
        (two_ways (anywhere t (nnf_not f)) (anywhere t (nnf g) || false) (in_or (nnf_not f ∷ nnf g ∷ []) h))
    of_nnf (exists vars f) h = of_nnf f (second (t (exists vars (nnf f))) (anywhere t (nnf f)) (denial.exists_no vars (nnf f)) h)
    of_nnf (forall vars f) h = of_nnf f (second (t (forall vars (nnf f))) (anywhere t (nnf f)) (denial.forall_no vars (nnf f)) h)
    of_nnf (Atom name ts) h = false_true (sym (denial.atoms name ts) ∙ h)
    of_nnf (Equal v w) h = false_true (sym (denial.equals v w) ∙ h)
    of_nnf (Compare r a b) h = false_true (sym (denial.comparisons r a b) ∙ h)

    of_nnf_not : (f : Formula) → anywhere t (nnf_not f) ≡ true → negated u true f ≡ true
    of_nnf_not (And' n fs) h = of_nnf_not_all fs (in_or (nnf_not_all fs) h)
    of_nnf_not (Or' n fs) h = of_nnf_not_all fs (in_and (nnf_not_all fs) h)
    of_nnf_not (not f) h = of_nnf f h
    of_nnf_not (imply f g) h =
        ⊎_elim (λ k. left (negated u false f) (negated u true g) (of_nnf f k))
        (λ k. right (negated u false f) (negated u true g) (of_nnf_not g (⊎_elim (λ j. j) (λ j. false_true j) (two_ways (anywhere t (nnf_not g)) false k))))
        (two_ways (anywhere t (nnf f)) (anywhere t (nnf_not g) || false) (in_and (nnf f ∷ nnf_not g ∷ []) h))
    of_nnf_not (exists vars f) h = of_nnf_not f (second (t (forall vars (nnf_not f))) (anywhere t (nnf_not f)) (denial.forall_no vars (nnf_not f)) h)
    of_nnf_not (forall vars f) h = of_nnf_not f (second (t (exists vars (nnf_not f))) (anywhere t (nnf_not f)) (denial.exists_no vars (nnf_not f)) h)
    of_nnf_not (Atom name ts) h =
        ⊎_elim (λ k. sym (denial.nots (Atom name ts)) ∙ k) (λ k. false_true (sym (denial.atoms name ts) ∙ k)) (two_ways (t (not (Atom name ts))) (t (Atom name ts)) h)
    of_nnf_not (Equal v w) h =
        ⊎_elim (λ k. sym (denial.nots (Equal v w)) ∙ k) (λ k. false_true (sym (denial.equals v w) ∙ k)) (two_ways (t (not (Equal v w))) (t (Equal v w)) h)
    of_nnf_not (Compare r a b) h = false_true (of_denied r a b h)

    of_nnf_all : {n : _} (fs : Row_of-Formula n) → list_any (anywhere t) (nnf_all fs) ≡ true → some_negated u false fs ≡ true
    of_nnf_all end_of-Formula h = h
    of_nnf_all (more_of-Formula f fs) h =
        ⊎_elim (λ k. left (negated u false f) (some_negated u false fs) (of_nnf f k)) (λ k. right (negated u false f) (some_negated u false fs) (of_nnf_all fs k))
        (two_ways (anywhere t (nnf f)) (list_any (anywhere t) (nnf_all fs)) h)

    of_nnf_not_all : {n : _} (fs : Row_of-Formula n) → list_any (anywhere t) (nnf_not_all fs) ≡ true → some_negated u true fs ≡ true
    of_nnf_not_all end_of-Formula h = h
    of_nnf_not_all (more_of-Formula f fs) h =
        ⊎_elim (λ k. left (negated u true f) (some_negated u true fs) (of_nnf_not f k)) (λ k. right (negated u true f) (some_negated u true fs) (of_nnf_not_all fs k))
        (two_ways (anywhere t (nnf_not f)) (list_any (anywhere t) (nnf_not_all fs)) h)

  -- ---- simplification of a normal form

  no_always : anywhere t true_formula ≡ true → false ≡ true
  no_always h = in_and [] h

  no_never : anywhere t false_formula ≡ true → false ≡ true
  no_never h = in_or [] h

  no_constant : (b : Bool) → anywhere t (constant b) ≡ true → false ≡ true
  no_constant true h = no_always h
  no_constant false h = no_never h

  in_alone_and : (fs : List Formula) → anywhere t (alone_or And fs) ≡ true → list_any (anywhere t) fs ≡ true
  in_alone_and [] h = in_and [] h
  in_alone_and (f ∷ []) h = left (anywhere t f) false h
  in_alone_and (f ∷ g ∷ fs) h = in_and (f ∷ g ∷ fs) h

  in_alone_or : (fs : List Formula) → anywhere t (alone_or Or fs) ≡ true → list_any (anywhere t) fs ≡ true
  in_alone_or [] h = in_or [] h
  in_alone_or (f ∷ []) h = left (anywhere t f) false h
  in_alone_or (f ∷ g ∷ fs) h = in_or (f ∷ g ∷ fs) h

  in_simple_and : (fs : List Formula) → anywhere t (simple_and fs) ≡ true → list_any (anywhere t) fs ≡ true
  in_simple_and fs = by (list_any is_false_formula fs)
    where
      by : (b : Bool) → anywhere t (if b then false_formula else alone_or And fs) ≡ true → list_any (anywhere t) fs ≡ true
      by true h = false_true (no_never h)
      by false h = in_alone_and fs h

  in_simple_or : (fs : List Formula) → anywhere t (simple_or fs) ≡ true → list_any (anywhere t) fs ≡ true
  in_simple_or fs = by (list_any is_true_formula fs)
    where
      by : (b : Bool) → anywhere t (if b then true_formula else alone_or Or fs) ≡ true → list_any (anywhere t) fs ≡ true
      by true h = false_true (no_always h)
      by false h = in_alone_or fs h

  in_simple_exists : (w : World) (vars : List Typed) (f : Formula) → anywhere t (simple_exists w vars f) ≡ true → anywhere t f ≡ true
  unfolding anywhere
  in_simple_exists w vars f = by (is_false_formula f) (is_true_formula f)
    where
      by : (n a : Bool) → anywhere t (if n then false_formula else (if a then constant (are_inhabited w vars) else exists vars f)) ≡ true → anywhere t f ≡ true
      by true a h = false_true (no_never h)
      by false true h = false_true (no_constant (are_inhabited w vars) h)
      by false false h = second (t (exists vars f)) (anywhere t f) (denial.exists_no vars f) h

  in_simple_forall : (w : World) (vars : List Typed) (f : Formula) → anywhere t (simple_forall w vars f) ≡ true → anywhere t f ≡ true
  unfolding anywhere
  in_simple_forall w vars f = by (is_true_formula f) (is_false_formula f)
    where
      by : (a n : Bool) → anywhere t (if a then true_formula else (if n then constant (flip (are_inhabited w vars)) else forall vars f)) ≡ true → anywhere t f ≡ true
      by true n h = false_true (no_always h)
      by false true h = false_true (no_constant (flip (are_inhabited w vars)) h)
      by false false h = second (t (forall vars f)) (anywhere t f) (denial.forall_no vars f) h

  in_not_constant : (b : Bool) → anywhere t (simple_not (constant b)) ≡ true → false ≡ true
  in_not_constant true h = no_never (subst (λ f. anywhere t f ≡ true) (not_constant true) h)
  in_not_constant false h = no_always (subst (λ f. anywhere t f ≡ true) (not_constant false) h)

  in_not_same : (b : Bool) (v w : Term) → anywhere t (simple_not (if b then true_formula else Equal v w)) ≡ true → anywhere t (not (Equal v w)) ≡ true
  in_not_same true v w h = false_true (in_not_constant true h)
  in_not_same false v w h = h

  in_not_equal : (v w : Term) → anywhere t (simple_not (simple_equal v w)) ≡ true → anywhere t (not (Equal v w)) ≡ true
  in_not_equal (Var x) (Var y) h = in_not_same (same_name x y) (Var x) (Var y) h
  in_not_equal (Var x) (Object o) h = h
  in_not_equal (Var x) (Fluent' f n ts) h = h
  in_not_equal (Object o) (Object k) h = false_true (in_not_constant (same_name o k) h)
  in_not_equal (Object o) (Var y) h = h
  in_not_equal (Object o) (Fluent' f n ts) h = h
  in_not_equal (Fluent' f n ts) w h = h

  in_same : (b : Bool) (v w : Term) → anywhere t (if b then true_formula else Equal v w) ≡ true → anywhere t (Equal v w) ≡ true
  in_same true v w h = false_true (no_always h)
  in_same false v w h = h

  in_equal : (v w : Term) → anywhere t (simple_equal v w) ≡ true → anywhere t (Equal v w) ≡ true
  in_equal (Var x) (Var y) h = in_same (same_name x y) (Var x) (Var y) h
  in_equal (Var x) (Object o) h = h
  in_equal (Var x) (Fluent' f n ts) h = h
  in_equal (Object o) (Object k) h = false_true (no_constant (same_name o k) h)
  in_equal (Object o) (Var y) h = h
  in_equal (Object o) (Fluent' f n ts) h = h
  in_equal (Fluent' f n ts) w h = h

  module _ (w : World) where
    in_negated : (f : Formula) → IsNegatable f → anywhere t (simple_not (simplified w knows_nothing f)) ≡ true → anywhere t (not f) ≡ true
    unfolding simplified
    in_negated (Atom name ts) lit h = subst (λ f. anywhere t (simple_not f) ≡ true) (atom_stays name ts) h
    in_negated (Equal v x) lit h = in_not_equal v x h
    in_negated (And' n fs) lit h = absurd lit
    in_negated (Or' n fs) lit h = absurd lit
    in_negated (not f) lit h = absurd lit
    in_negated (imply f g) lit h = absurd lit
    in_negated (exists vars f) lit h = absurd lit
    in_negated (forall vars f) lit h = absurd lit
    in_negated (Compare r a b) lit h = absurd lit

    mutual
      unfolding anywhere in_row simplified all_conjuncts all_disjuncts IsNormal AreNormal

      of_simplified : (f : Formula) → IsNormal f → anywhere t (simplified w knows_nothing f) ≡ true → anywhere t f ≡ true
      of_simplified (And' n fs) normal h = right (t (And' n fs)) (in_row t fs) (of_conjuncts fs normal (in_simple_and (all_conjuncts w knows_nothing fs) h))
      of_simplified (Or' n fs) normal h = right (t (Or' n fs)) (in_row t fs) (of_disjuncts fs normal (in_simple_or (all_disjuncts w knows_nothing fs) h))
      of_simplified (not f) normal h = in_negated f normal h
      of_simplified (imply f g) normal h = absurd normal
      of_simplified (exists vars f) normal h = right (t (exists vars f)) (anywhere t f) (of_simplified f normal (in_simple_exists w vars (simplified w knows_nothing f) h))
      of_simplified (forall vars f) normal h = right (t (forall vars f)) (anywhere t f) (of_simplified f normal (in_simple_forall w vars (simplified w knows_nothing f) h))
      of_simplified (Atom name ts) normal h = subst (λ f. anywhere t f ≡ true) (atom_stays name ts) h
      of_simplified (Equal v x) normal h = in_equal v x h
      of_simplified (Compare r a b) normal h = h

      of_conjuncts : {n : _} (fs : Row_of-Formula n) → AreNormal fs → list_any (anywhere t) (all_conjuncts w knows_nothing fs) ≡ true → in_row t fs ≡ true
      of_conjuncts end_of-Formula normal h = h
      of_conjuncts (more_of-Formula f fs) normal h =
          ⊎_elim (λ k. left (anywhere t f) (in_row t fs) (of_simplified f normal.0 (in_conjuncts t (simplified w knows_nothing f) k)))
          (λ k. right (anywhere t f) (in_row t fs) (of_conjuncts fs normal.1 k))
          (two_ways (list_any (anywhere t) (conjuncts (simplified w knows_nothing f))) (list_any (anywhere t) (all_conjuncts w knows_nothing fs))
          (sym (list_any-append (anywhere t) (conjuncts (simplified w knows_nothing f)) (all_conjuncts w knows_nothing fs)) ∙ h))

      of_disjuncts : {n : _} (fs : Row_of-Formula n) → AreNormal fs → list_any (anywhere t) (all_disjuncts w knows_nothing fs) ≡ true → in_row t fs ≡ true
      of_disjuncts end_of-Formula normal h = h
      of_disjuncts (more_of-Formula f fs) normal h =
          ⊎_elim (λ k. left (anywhere t f) (in_row t fs) (of_simplified f normal.0 (in_disjuncts t (simplified w knows_nothing f) k)))
          (λ k. right (anywhere t f) (in_row t fs) (of_disjuncts fs normal.1 k))
          (two_ways (list_any (anywhere t) (disjuncts (simplified w knows_nothing f))) (list_any (anywhere t) (all_disjuncts w knows_nothing fs))
          (sym (list_any-append (anywhere t) (disjuncts (simplified w knows_nothing f)) (all_disjuncts w knows_nothing fs)) ∙ h))

    pub of_condition : (f : Formula) → anywhere t (simplified w knows_nothing (nnf f)) ≡ true → negated u false f ≡ true
    of_condition f h = of_nnf f (of_simplified (nnf f) (nnf_normal f) h)

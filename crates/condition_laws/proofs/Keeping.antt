-- What a normal form and clauses have, the formula had.
use Rattle.std.proofs.Common.{◌≡◌, ◌⊎◌, Bool, true, false, ◌||◌, List, [], ◌∷◌, refl, sym, ◌∙◌, inl, inr, ⊎_elim}
use Rattle.std.specs.List.{list_any}
use Rattle.up_text.specs.Lists.{Every}
use Rattle.up_tree.specs.declared.expr.Expr.{Expr}
use Rattle.up_tree.specs.declared.formula.Relation.{Relation}
use Rattle.up_tree.specs.declared.formula.Relation.TheVariants.{Less, LessEqual, Same, GreaterEqual, Greater}
use Rattle.up_tree.specs.declared.formula.Formula.{Formula, And, And', Or, Or', Atom, Equal, Compare, Row_of-Formula, end_of-Formula, more_of-Formula}
use Rattle.up_tree.specs.declared.term.Term.{Term}
use Rattle.up_tree.specs.declared.term.Typed.{Typed}
use Rattle.up_text.specs.declared.name.Name.{Name}
use Rattle.up_tree.specs.Nodes.{not, imply, exists, forall}
use Rattle.up_tree.specs.Normal.{denied, nnf, nnf_not, nnf_all, nnf_not_all, clauses, joined, gathered}
use Rattle.up_kind.specs.Carried.{anywhere, in_row, is_not, is_disjunctive, is_equal, is_exists, is_forall, is_compare}
use Rattle.semantics_laws.proofs.Lists.{each_as}
use Rattle.condition_laws.specs.Shapes.{IsLiteral}
use Rattle.condition_laws.proofs.Holding.{left, right, of_two, second, none, in_one, anywhere-And, anywhere-Or}
use Rattle.condition_laws.proofs.Clauses.{each_of_pairs, each_clause_of_both}
use Rattle.condition_laws.specs.Carrying.{NormalCarries, NoMore}

-- members of a node that the test doesn't see
module _ (test : Formula → Bool) where
  in_built_and : (fs : List Formula) → test (And fs) ≡ false → anywhere test (And fs) ≡ true → list_any (anywhere test) fs ≡ true
  in_built_and fs n h = second (test (And fs)) (list_any (anywhere test) fs) n (sym (anywhere-And test fs) ∙ h)

  in_built_or : (fs : List Formula) → test (Or fs) ≡ false → anywhere test (Or fs) ≡ true → list_any (anywhere test) fs ≡ true
  in_built_or fs n h = second (test (Or fs)) (list_any (anywhere test) fs) n (sym (anywhere-Or test fs) ∙ h)

  of_pair : (f g : Formula) → list_any (anywhere test) (f ∷ g ∷ []) ≡ true → (anywhere test f ≡ true) ⊎ (anywhere test g ≡ true)
  of_pair f g h = ⊎_elim (λ e. inl e) (λ e. inr (in_one (anywhere test) g e)) (of_two (anywhere test f) _ h)

-- ---- tests of leaves alone

record IsOfLeaf (test : Formula → Bool) : Type 0 where
  ands : (fs : List Formula) → test (And fs) ≡ false
  ors : (fs : List Formula) → test (Or fs) ≡ false
  nots : (f : Formula) → test (not f) ≡ false
  existences : (vars : List Typed) (f : Formula) → test (exists vars f) ≡ false
  universals : (vars : List Typed) (f : Formula) → test (forall vars f) ≡ false
  turned : (r : Relation) (a b : Expr) → anywhere test (denied r a b) ≡ true → test (Compare r a b) ≡ true

module _ (test : Formula → Bool) (leaf : IsOfLeaf test) where
  mutual
    unfolding nnf nnf_not nnf_all nnf_not_all anywhere in_row

    leaf_in : (f : Formula) → anywhere test (nnf f) ≡ true → anywhere test f ≡ true
    leaf_in (And' n fs) h = right (test (And' n fs)) _ (leaf_in_all fs (in_built_and test (nnf_all fs) (leaf.ands (nnf_all fs)) h))
    leaf_in (Or' n fs) h = right (test (Or' n fs)) _ (leaf_in_all fs (in_built_or test (nnf_all fs) (leaf.ors (nnf_all fs)) h))
    leaf_in (not f) h = right (test (not f)) _ (leaf_in_not f h)
    leaf_in (imply f g) h =
        right (test (imply f g)) _ (⊎_elim (λ e. left (anywhere test f) (anywhere test g) (leaf_in_not f e)) (λ e. right (anywhere test f) (anywhere test g) (leaf_in g e))
        (of_pair test (nnf_not f) (nnf g) (in_built_or test (nnf_not f ∷ nnf g ∷ []) (leaf.ors (nnf_not f ∷ nnf g ∷ [])) h)))
    leaf_in (exists vars f) h = right (test (exists vars f)) _ (leaf_in f (second (test (exists vars (nnf f))) _ (leaf.existences vars (nnf f)) h))
    leaf_in (forall vars f) h = right (test (forall vars f)) _ (leaf_in f (second (test (forall vars (nnf f))) _ (leaf.universals vars (nnf f)) h))
    leaf_in (Atom name ts) h = h
    leaf_in (Equal t u) h = h
    leaf_in (Compare r a b) h = h

    leaf_in_not : (f : Formula) → anywhere test (nnf_not f) ≡ true → anywhere test f ≡ true
    leaf_in_not (And' n fs) h = right (test (And' n fs)) _ (leaf_in_not_all fs (in_built_or test (nnf_not_all fs) (leaf.ors (nnf_not_all fs)) h))
    leaf_in_not (Or' n fs) h = right (test (Or' n fs)) _ (leaf_in_not_all fs (in_built_and test (nnf_not_all fs) (leaf.ands (nnf_not_all fs)) h))
    leaf_in_not (not f) h = right (test (not f)) _ (leaf_in f h)
    leaf_in_not (imply f g) h =
        right (test (imply f g)) _ (⊎_elim (λ e. left (anywhere test f) (anywhere test g) (leaf_in f e)) (λ e. right (anywhere test f) (anywhere test g) (leaf_in_not g e))
        (of_pair test (nnf f) (nnf_not g) (in_built_and test (nnf f ∷ nnf_not g ∷ []) (leaf.ands (nnf f ∷ nnf_not g ∷ [])) h)))
    leaf_in_not (exists vars f) h = right (test (exists vars f)) _ (leaf_in_not f (second (test (forall vars (nnf_not f))) _ (leaf.universals vars (nnf_not f)) h))
    leaf_in_not (forall vars f) h = right (test (forall vars f)) _ (leaf_in_not f (second (test (exists vars (nnf_not f))) _ (leaf.existences vars (nnf_not f)) h))
    leaf_in_not (Atom name ts) h = second (test (not (Atom name ts))) _ (leaf.nots (Atom name ts)) h
    leaf_in_not (Equal t u) h = second (test (not (Equal t u))) _ (leaf.nots (Equal t u)) h
    leaf_in_not (Compare r a b) h = leaf.turned r a b h

    leaf_in_all : {n : _} (fs : Row_of-Formula n) → list_any (anywhere test) (nnf_all fs) ≡ true → in_row test fs ≡ true
    leaf_in_all end_of-Formula h = h
    leaf_in_all (more_of-Formula f fs) h =
        ⊎_elim (λ e. left (anywhere test f) (in_row test fs) (leaf_in f e)) (λ e. right (anywhere test f) (in_row test fs) (leaf_in_all fs e)) (of_two (anywhere test (nnf f)) _ h)

    leaf_in_not_all : {n : _} (fs : Row_of-Formula n) → list_any (anywhere test) (nnf_not_all fs) ≡ true → in_row test fs ≡ true
    leaf_in_not_all end_of-Formula h = h
    leaf_in_not_all (more_of-Formula f fs) h =
        ⊎_elim (λ e. left (anywhere test f) (in_row test fs) (leaf_in_not f e)) (λ e. right (anywhere test f) (in_row test fs) (leaf_in_not_all fs e)) (of_two (anywhere test (nnf_not f)) _ h)

-- comparisons have none of these in them
no_test_in : (test : Formula → Bool) → ((r : Relation) (a b : Expr) → test (Compare r a b) ≡ false) → ((fs : List Formula) → test (Or fs) ≡ false) →
    (r : Relation) (a b : Expr) → anywhere test (denied r a b) ≡ false
unfolding anywhere
no_test_in test n ors Less a b = n GreaterEqual a b
no_test_in test n ors LessEqual a b = n Greater a b
no_test_in test n ors GreaterEqual a b = n Less a b
no_test_in test n ors Greater a b = n LessEqual a b
no_test_in test n ors Same a b =
    anywhere-Or test (Compare Less a b ∷ Compare Greater a b ∷ []) ∙ (λ i. ors (Compare Less a b ∷ Compare Greater a b ∷ []) i || (n Less a b i || (n Greater a b i || false)))

equals_leaf : IsOfLeaf is_equal
equals_leaf = record {
  ands = λ fs. refl;
  ors = λ fs. refl;
  nots = λ f. refl;
  existences = λ vars f. refl;
  universals = λ vars f. refl;
  turned = λ r a b h. none (no_test_in is_equal (λ r a b. refl) (λ fs. refl) r a b) h;
}

compares_leaf : IsOfLeaf is_compare
compares_leaf = record {
  ands = λ fs. refl;
  ors = λ fs. refl;
  nots = λ f. refl;
  existences = λ vars f. refl;
  universals = λ vars f. refl;
  turned = λ r a b h. refl;
}

-- ---- disjunctions

mutual
  unfolding nnf nnf_not nnf_all nnf_not_all anywhere in_row

  or_in_nnf : (f : Formula) → anywhere is_disjunctive (nnf f) ≡ true → anywhere is_disjunctive f ≡ true
  or_in_nnf (And' n fs) h = or_in_all fs (in_built_and is_disjunctive (nnf_all fs) refl h)
  or_in_nnf (Or' n fs) h = refl
  or_in_nnf (not (And' n fs)) h = refl
  or_in_nnf (not (Or' n fs)) h = refl
  or_in_nnf (not (not f)) h = refl
  or_in_nnf (not (imply f g)) h = refl
  or_in_nnf (not (exists vars f)) h = refl
  or_in_nnf (not (forall vars f)) h = refl
  or_in_nnf (not (Atom name ts)) h = h
  or_in_nnf (not (Equal t u)) h = h
  or_in_nnf (not (Compare r a b)) h = refl
  or_in_nnf (imply f g) h = refl
  or_in_nnf (exists vars f) h = or_in_nnf f h
  or_in_nnf (forall vars f) h = or_in_nnf f h
  or_in_nnf (Atom name ts) h = h
  or_in_nnf (Equal t u) h = h
  or_in_nnf (Compare r a b) h = h

  or_in_all : {n : _} (fs : Row_of-Formula n) → list_any (anywhere is_disjunctive) (nnf_all fs) ≡ true → in_row is_disjunctive fs ≡ true
  or_in_all end_of-Formula h = h
  or_in_all (more_of-Formula f fs) h =
      ⊎_elim (λ e. left (anywhere is_disjunctive f) (in_row is_disjunctive fs) (or_in_nnf f e)) (λ e. right (anywhere is_disjunctive f) (in_row is_disjunctive fs) (or_in_all fs e))
      (of_two (anywhere is_disjunctive (nnf f)) _ h)

-- ---- negations

mutual
  unfolding nnf nnf_not nnf_all nnf_not_all anywhere in_row

  not_in : (f : Formula) → anywhere is_not (nnf f) ≡ true → (anywhere is_not f ≡ true) ⊎ (anywhere is_disjunctive f ≡ true)
  not_in (And' n fs) h = not_in_all fs (in_built_and is_not (nnf_all fs) refl h)
  not_in (Or' n fs) h = inr refl
  not_in (not f) h = inl refl
  not_in (imply f g) h = inr refl
  not_in (exists vars f) h = not_in f h
  not_in (forall vars f) h = not_in f h
  not_in (Atom name ts) h = inl h
  not_in (Equal t u) h = inl h
  not_in (Compare r a b) h = inl h

  not_in_all : {n : _} (fs : Row_of-Formula n) → list_any (anywhere is_not) (nnf_all fs) ≡ true → (in_row is_not fs ≡ true) ⊎ (in_row is_disjunctive fs ≡ true)
  not_in_all end_of-Formula h = inl h
  not_in_all (more_of-Formula f fs) h =
      ⊎_elim
      (λ e. ⊎_elim (λ a. inl (left (anywhere is_not f) (in_row is_not fs) a)) (λ b. inr (left (anywhere is_disjunctive f) (in_row is_disjunctive fs) b)) (not_in f e))
      (λ e. ⊎_elim (λ a. inl (right (anywhere is_not f) (in_row is_not fs) a)) (λ b. inr (right (anywhere is_disjunctive f) (in_row is_disjunctive fs) b)) (not_in_all fs e))
      (of_two (anywhere is_not (nnf f)) _ h)

-- ---- quantifiers

-- one sees one quantifier, the other the other
record AreDual (one other : Formula → Bool) : Type 0 where
  ands : (fs : List Formula) → one (And fs) ≡ false
  ors : (fs : List Formula) → one (Or fs) ≡ false
  nots : (f : Formula) → one (not f) ≡ false
  under_exists : (vars : List Typed) (f g : Formula) → one (exists vars f) ≡ one (exists vars g)
  under_forall : (vars : List Typed) (f g : Formula) → one (forall vars f) ≡ one (forall vars g)
  swapped_exists : (vars : List Typed) (f g : Formula) → one (forall vars f) ≡ other (exists vars g)
  swapped_forall : (vars : List Typed) (f g : Formula) → one (exists vars f) ≡ other (forall vars g)
  atoms : (name : Name) (ts : List Term) → other (Atom name ts) ≡ false
  equals : (t u : Term) → other (Equal t u) ≡ false
  one_atoms : (name : Name) (ts : List Term) → one (Atom name ts) ≡ false
  one_equals : (t u : Term) → one (Equal t u) ≡ false
  comparisons : (r : Relation) (a b : Expr) → one (Compare r a b) ≡ false

module _ (one other : Formula → Bool) (dual : AreDual one other) where
  abbrev Kept : Formula → Type 0
  Kept f = (anywhere one f ≡ true) ⊎ ((anywhere other f ≡ true) × (anywhere is_disjunctive f ≡ true))

  abbrev Turned : Formula → Type 0
  Turned f = (anywhere one f ≡ true) ⊎ (anywhere other f ≡ true)

  -- what has a quantifier in it is no atom and no equality
  under_not_or : (f : Formula) → anywhere other f ≡ true → is_disjunctive (not f) ≡ true
  unfolding anywhere
  under_not_or (And' n fs) h = refl
  under_not_or (Or' n fs) h = refl
  under_not_or (not f) h = refl
  under_not_or (imply f g) h = refl
  under_not_or (exists vars f) h = refl
  under_not_or (forall vars f) h = refl
  under_not_or (Atom name ts) h = none (dual.atoms name ts) h
  under_not_or (Equal t u) h = none (dual.equals t u) h
  under_not_or (Compare r a b) h = refl

  mutual
    unfolding nnf nnf_not nnf_all nnf_not_all anywhere in_row

    kept_in : (f : Formula) → anywhere one (nnf f) ≡ true → Kept f
    kept_in (And' n fs) h =
        ⊎_elim (λ e. inl (right (one (And' n fs)) _ e)) (λ e. inr (right (other (And' n fs)) _ e.0, e.1)) (kept_in_all fs (in_built_and one (nnf_all fs) (dual.ands (nnf_all fs)) h))
    kept_in (Or' n fs) h =
        ⊎_elim (λ e. inl (right (one (Or' n fs)) _ e)) (λ e. inr (right (other (Or' n fs)) _ e.0, refl)) (kept_in_all fs (in_built_or one (nnf_all fs) (dual.ors (nnf_all fs)) h))
    kept_in (not f) h =
        ⊎_elim (λ e. inl (right (one (not f)) _ e)) (λ e. inr (right (other (not f)) _ e, left (is_disjunctive (not f)) _ (under_not_or f e))) (turned_in f h)
    kept_in (imply f g) h =
        ⊎_elim
        (λ e. ⊎_elim (λ a. inl (right (one (imply f g)) _ (left (anywhere one f) _ a))) (λ b. inr (right (other (imply f g)) _ (left (anywhere other f) _ b), refl)) (turned_in f e))
        (λ e. ⊎_elim (λ a. inl (right (one (imply f g)) _ (right (anywhere one f) _ a))) (λ b. inr (right (other (imply f g)) _ (right (anywhere other f) _ b.0), refl)) (kept_in g e))
        (of_pair one (nnf_not f) (nnf g) (in_built_or one (nnf_not f ∷ nnf g ∷ []) (dual.ors (nnf_not f ∷ nnf g ∷ [])) h))
    kept_in (exists vars f) h =
        ⊎_elim (λ e. inl (left (one (exists vars f)) _ (dual.under_exists vars f (nnf f) ∙ e)))
        (λ e. ⊎_elim (λ a. inl (right (one (exists vars f)) _ a)) (λ b. inr (right (other (exists vars f)) _ b.0, b.1)) (kept_in f e))
        (of_two (one (exists vars (nnf f))) _ h)
    kept_in (forall vars f) h =
        ⊎_elim (λ e. inl (left (one (forall vars f)) _ (dual.under_forall vars f (nnf f) ∙ e)))
        (λ e. ⊎_elim (λ a. inl (right (one (forall vars f)) _ a)) (λ b. inr (right (other (forall vars f)) _ b.0, b.1)) (kept_in f e))
        (of_two (one (forall vars (nnf f))) _ h)
    kept_in (Atom name ts) h = inl h
    kept_in (Equal t u) h = inl h
    kept_in (Compare r a b) h = inl h

    turned_in : (f : Formula) → anywhere one (nnf_not f) ≡ true → Turned f
    turned_in (And' n fs) h =
        ⊎_elim (λ e. inl (right (one (And' n fs)) _ e)) (λ e. inr (right (other (And' n fs)) _ e)) (turned_in_all fs (in_built_or one (nnf_not_all fs) (dual.ors (nnf_not_all fs)) h))
    turned_in (Or' n fs) h =
        ⊎_elim (λ e. inl (right (one (Or' n fs)) _ e)) (λ e. inr (right (other (Or' n fs)) _ e)) (turned_in_all fs (in_built_and one (nnf_not_all fs) (dual.ands (nnf_not_all fs)) h))
    turned_in (not f) h = ⊎_elim (λ e. inl (right (one (not f)) _ e)) (λ e. inr (right (other (not f)) _ e.0)) (kept_in f h)
    turned_in (imply f g) h =
        ⊎_elim
        (λ e. ⊎_elim (λ a. inl (right (one (imply f g)) _ (left (anywhere one f) _ a))) (λ b. inr (right (other (imply f g)) _ (left (anywhere other f) _ b.0))) (kept_in f e))
        (λ e. ⊎_elim (λ a. inl (right (one (imply f g)) _ (right (anywhere one f) _ a))) (λ b. inr (right (other (imply f g)) _ (right (anywhere other f) _ b))) (turned_in g e))
        (of_pair one (nnf f) (nnf_not g) (in_built_and one (nnf f ∷ nnf_not g ∷ []) (dual.ands (nnf f ∷ nnf_not g ∷ [])) h))
    turned_in (exists vars f) h =
        ⊎_elim (λ e. inr (left (other (exists vars f)) _ (sym (dual.swapped_exists vars (nnf_not f) f) ∙ e)))
        (λ e. ⊎_elim (λ a. inl (right (one (exists vars f)) _ a)) (λ b. inr (right (other (exists vars f)) _ b)) (turned_in f e))
        (of_two (one (forall vars (nnf_not f))) _ h)
    turned_in (forall vars f) h =
        ⊎_elim (λ e. inr (left (other (forall vars f)) _ (sym (dual.swapped_forall vars (nnf_not f) f) ∙ e)))
        (λ e. ⊎_elim (λ a. inl (right (one (forall vars f)) _ a)) (λ b. inr (right (other (forall vars f)) _ b)) (turned_in f e))
        (of_two (one (exists vars (nnf_not f))) _ h)
    turned_in (Atom name ts) h = none (dual.one_atoms name ts) (second (one (not (Atom name ts))) _ (dual.nots (Atom name ts)) h)
    turned_in (Equal t u) h = none (dual.one_equals t u) (second (one (not (Equal t u))) _ (dual.nots (Equal t u)) h)
    turned_in (Compare r a b) h = none (no_test_in one dual.comparisons dual.ors r a b) h

    kept_in_all : {n : _} (fs : Row_of-Formula n) → list_any (anywhere one) (nnf_all fs) ≡ true →
        (in_row one fs ≡ true) ⊎ ((in_row other fs ≡ true) × (in_row is_disjunctive fs ≡ true))
    kept_in_all end_of-Formula h = inl h
    kept_in_all (more_of-Formula f fs) h =
        ⊎_elim
        (λ e. ⊎_elim (λ a. inl (left (anywhere one f) _ a)) (λ b. inr (left (anywhere other f) _ b.0, left (anywhere is_disjunctive f) _ b.1)) (kept_in f e))
        (λ e. ⊎_elim (λ a. inl (right (anywhere one f) _ a)) (λ b. inr (right (anywhere other f) _ b.0, right (anywhere is_disjunctive f) _ b.1)) (kept_in_all fs e))
        (of_two (anywhere one (nnf f)) _ h)

    turned_in_all : {n : _} (fs : Row_of-Formula n) → list_any (anywhere one) (nnf_not_all fs) ≡ true → (in_row one fs ≡ true) ⊎ (in_row other fs ≡ true)
    turned_in_all end_of-Formula h = inl h
    turned_in_all (more_of-Formula f fs) h =
        ⊎_elim
        (λ e. ⊎_elim (λ a. inl (left (anywhere one f) _ a)) (λ b. inr (left (anywhere other f) _ b)) (turned_in f e))
        (λ e. ⊎_elim (λ a. inl (right (anywhere one f) _ a)) (λ b. inr (right (anywhere other f) _ b)) (turned_in_all fs e))
        (of_two (anywhere one (nnf_not f)) _ h)

exists_dual : AreDual is_exists is_forall
exists_dual = record {
  ands = λ fs. refl;
  ors = λ fs. refl;
  nots = λ f. refl;
  under_exists = λ vars f g. refl;
  under_forall = λ vars f g. refl;
  swapped_exists = λ vars f g. refl;
  swapped_forall = λ vars f g. refl;
  atoms = λ name ts. refl;
  equals = λ t u. refl;
  one_atoms = λ name ts. refl;
  one_equals = λ t u. refl;
  comparisons = λ r a b. refl;
}

forall_dual : AreDual is_forall is_exists
forall_dual = record {
  ands = λ fs. refl;
  ors = λ fs. refl;
  nots = λ f. refl;
  under_exists = λ vars f g. refl;
  under_forall = λ vars f g. refl;
  swapped_exists = λ vars f g. refl;
  swapped_forall = λ vars f g. refl;
  atoms = λ name ts. refl;
  equals = λ t u. refl;
  one_atoms = λ name ts. refl;
  one_equals = λ t u. refl;
  comparisons = λ r a b. refl;
}

pub normals_carry : (f : Formula) → NormalCarries f
normals_carry f = record {
  disjunctive = or_in_nnf f;
  equalities = leaf_in is_equal equals_leaf f;
  comparisons = leaf_in is_compare compares_leaf f;
  negations = not_in f;
  existential = kept_in is_exists is_forall exists_dual f;
  universal = kept_in is_forall is_exists forall_dual f;
}

-- ---- clauses

module _ (test : Formula → Bool) where
  abbrev Only : Bool → Formula → Type 0
  Only b literal = anywhere test literal ≡ true → b ≡ true

  only_wider : (b c : Bool) → (b ≡ true → c ≡ true) → (cs : List (List Formula)) → Every (Every (Only b)) cs → Every (Every (Only c)) cs
  only_wider b c wider cs h = each_as (Every (Only b)) (Every (Only c)) (λ clause k. each_as (Only b) (Only c) (λ literal only e. wider (only e)) clause k) cs h

  mutual
    unfolding clauses joined gathered anywhere in_row

    clauses_only : (f : Formula) → Every (Every (Only (anywhere test f))) (clauses f)
    clauses_only (And' n fs) = only_wider (in_row test fs) (anywhere test (And' n fs)) (right (test (And' n fs)) _) (joined fs) (joined_only fs)
    clauses_only (Or' n fs) = only_wider (in_row test fs) (anywhere test (Or' n fs)) (right (test (Or' n fs)) _) (gathered fs) (gathered_only fs)
    clauses_only (not f) = ((λ e. e, tt), tt)
    clauses_only (imply f g) = ((λ e. e, tt), tt)
    clauses_only (exists vars f) = ((λ e. e, tt), tt)
    clauses_only (forall vars f) = ((λ e. e, tt), tt)
    clauses_only (Atom name ts) = ((λ e. e, tt), tt)
    clauses_only (Equal t u) = ((λ e. e, tt), tt)
    clauses_only (Compare r a b) = ((λ e. e, tt), tt)

    joined_only : {n : _} (fs : Row_of-Formula n) → Every (Every (Only (in_row test fs))) (joined fs)
    joined_only end_of-Formula = (tt, tt)
    joined_only (more_of-Formula f fs) =
        each_of_pairs (Only (anywhere test f || in_row test fs)) (clauses f) (joined fs)
        (only_wider (anywhere test f) (anywhere test f || in_row test fs) (left (anywhere test f) (in_row test fs)) (clauses f) (clauses_only f))
        (only_wider (in_row test fs) (anywhere test f || in_row test fs) (right (anywhere test f) (in_row test fs)) (joined fs) (joined_only fs))

    gathered_only : {n : _} (fs : Row_of-Formula n) → Every (Every (Only (in_row test fs))) (gathered fs)
    gathered_only end_of-Formula = tt
    gathered_only (more_of-Formula f fs) =
        each_clause_of_both (Only (anywhere test f || in_row test fs)) (clauses f) (gathered fs)
        (only_wider (anywhere test f) (anywhere test f || in_row test fs) (left (anywhere test f) (in_row test fs)) (clauses f) (clauses_only f))
        (only_wider (in_row test fs) (anywhere test f || in_row test fs) (right (anywhere test f) (in_row test fs)) (gathered fs) (gathered_only fs))

pub clauses_carry : (test : Formula → Bool) (f : Formula) → Every (λ clause. Every (λ literal. NoMore test literal f) clause) (clauses f)
clauses_carry test f = clauses_only test f

literal_no_or : (f : Formula) → IsLiteral f → anywhere is_disjunctive f ≡ false
unfolding anywhere
literal_no_or (Atom name ts) h = refl
literal_no_or (Equal t u) h = refl
literal_no_or (Compare r a b) h = refl
literal_no_or (not (Atom name ts)) h = refl
literal_no_or (not (Equal t u)) h = refl
literal_no_or (not (And' n fs)) h = absurd h
literal_no_or (not (Or' n fs)) h = absurd h
literal_no_or (not (not f)) h = absurd h
literal_no_or (not (imply f g)) h = absurd h
literal_no_or (not (exists vars f)) h = absurd h
literal_no_or (not (forall vars f)) h = absurd h
literal_no_or (not (Compare r a b)) h = absurd h
literal_no_or (And' n fs) h = absurd h
literal_no_or (Or' n fs) h = absurd h
literal_no_or (imply f g) h = absurd h
literal_no_or (exists vars f) h = absurd h
literal_no_or (forall vars f) h = absurd h

literals_no_or : (clause : List Formula) → Every IsLiteral clause → list_any (anywhere is_disjunctive) clause ≡ false
literals_no_or [] h = refl
literals_no_or (f ∷ fs) h = λ i. literal_no_or f h.0 i || literals_no_or fs h.1 i

pub literals_are_not_disjunctive : (clause : List Formula) → Every IsLiteral clause → anywhere is_disjunctive (And clause) ≡ false
literals_are_not_disjunctive clause h = anywhere-And is_disjunctive clause ∙ literals_no_or clause h

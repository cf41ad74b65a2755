-- What stands in lists of formulas, and in nodes as they are built.
use Rattle.std.proofs.Common.{◌≡◌, ◌⊎◌, Bool, true, false, ◌||◌, true≢false, List, [], ◌∷◌, ◌++◌, refl, ap, sym, ◌∙◌, inl, inr}
use Rattle.std.specs.List.{list_any}
use Rattle.up_tree.specs.declared.formula.Formula.{Formula, And, And', Or, Or', Atom, Equal, Compare, Row_of-Formula, end_of-Formula, more_of-Formula, items-the_row-Formula, items_hidden-the_row-Formula-0}
use Rattle.up_tree.specs.declared.formula.Formula.TheBlock.{hidden-the_row-Formula-0}
use Rattle.up_tree.specs.Nodes.{not, imply, exists, forall}
use Rattle.up_tree.specs.Simplify.{true_formula, false_formula, conjuncts, disjuncts, is_empty, is_true_formula, is_false_formula}
use Rattle.up_kind.specs.Carried.{anywhere, in_row}

-- ---- of two tests

pub left : (x y : Bool) → x ≡ true → (x || y) ≡ true
left x y h = ap (λ b. b || y) h

pub right : (x y : Bool) → y ≡ true → (x || y) ≡ true
right true y h = refl
right false y h = h

pub of_two : (x y : Bool) → (x || y) ≡ true → (x ≡ true) ⊎ (y ≡ true)
of_two true y h = inl h
of_two false y h = inr h

pub second : (x y : Bool) → x ≡ false → (x || y) ≡ true → y ≡ true
second x y n h = ap (λ b. b || y) (sym n) ∙ h

pub former : (x y : Bool) → (x || y) ≡ false → x ≡ false
former true y h = h
former false y h = refl

pub latter : (x y : Bool) → (x || y) ≡ false → y ≡ false
latter true y h = absurd (true≢false h)
latter false y h = h

pub none : {A : Type 0} {b : Bool} → b ≡ false → b ≡ true → A
none n h = absurd (true≢false (sym h ∙ n))

-- ---- of lists

module _ {X : Type 0} (t : X → Bool) where
  pub any_of_both : (xs ys : List X) → list_any t (xs ++ ys) ≡ (list_any t xs || list_any t ys)
  any_of_both [] ys = refl
  any_of_both (x ∷ xs) ys = ap (λ b. t x || b) (any_of_both xs ys) ∙ by (t x)
    where
      by : (b : Bool) → (b || (list_any t xs || list_any t ys)) ≡ ((b || list_any t xs) || list_any t ys)
      by true = refl
      by false = refl

  pub in_one : (x : X) → list_any t (x ∷ []) ≡ true → t x ≡ true
  in_one x h = by (t x) h
    where
      by : (b : Bool) → (b || false) ≡ true → b ≡ true
      by true h = refl
      by false h = h

-- ---- of nodes

module _ (test : Formula → Bool) where
  pub in_row-items : {n : _} (fs : Row_of-Formula n) → in_row test fs ≡ list_any (anywhere test) (items-the_row-Formula _ fs)
  unfolding in_row
  in_row-items end_of-Formula = refl
  in_row-items (more_of-Formula f fs) = ap (λ b. anywhere test f || b) (in_row-items fs)

  pub in_row-list : (fs : List Formula) → in_row test (hidden-the_row-Formula-0 fs) ≡ list_any (anywhere test) fs
  in_row-list fs = in_row-items (hidden-the_row-Formula-0 fs) ∙ ap (list_any (anywhere test)) (items_hidden-the_row-Formula-0 fs)

  pub anywhere-And : (fs : List Formula) → anywhere test (And fs) ≡ (test (And fs) || list_any (anywhere test) fs)
  unfolding anywhere
  anywhere-And fs = ap (λ b. test (And fs) || b) (in_row-list fs)

  pub anywhere-Or : (fs : List Formula) → anywhere test (Or fs) ≡ (test (Or fs) || list_any (anywhere test) fs)
  unfolding anywhere
  anywhere-Or fs = ap (λ b. test (Or fs) || b) (in_row-list fs)

  pub in_conjuncts : (f : Formula) → list_any (anywhere test) (conjuncts f) ≡ true → anywhere test f ≡ true
  unfolding anywhere
  in_conjuncts (And' n fs) h = right (test (And' n fs)) _ (in_row-items fs ∙ h)
  in_conjuncts (Or' n fs) h = in_one (anywhere test) (Or' n fs) h
  in_conjuncts (not f) h = in_one (anywhere test) (not f) h
  in_conjuncts (imply f g) h = in_one (anywhere test) (imply f g) h
  in_conjuncts (exists vars f) h = in_one (anywhere test) (exists vars f) h
  in_conjuncts (forall vars f) h = in_one (anywhere test) (forall vars f) h
  in_conjuncts (Atom name ts) h = in_one (anywhere test) (Atom name ts) h
  in_conjuncts (Equal t u) h = in_one (anywhere test) (Equal t u) h
  in_conjuncts (Compare r a b) h = in_one (anywhere test) (Compare r a b) h

  pub in_disjuncts : (f : Formula) → list_any (anywhere test) (disjuncts f) ≡ true → anywhere test f ≡ true
  unfolding anywhere
  in_disjuncts (Or' n fs) h = right (test (Or' n fs)) _ (in_row-items fs ∙ h)
  in_disjuncts (And' n fs) h = in_one (anywhere test) (And' n fs) h
  in_disjuncts (not f) h = in_one (anywhere test) (not f) h
  in_disjuncts (imply f g) h = in_one (anywhere test) (imply f g) h
  in_disjuncts (exists vars f) h = in_one (anywhere test) (exists vars f) h
  in_disjuncts (forall vars f) h = in_one (anywhere test) (forall vars f) h
  in_disjuncts (Atom name ts) h = in_one (anywhere test) (Atom name ts) h
  in_disjuncts (Equal t u) h = in_one (anywhere test) (Equal t u) h
  in_disjuncts (Compare r a b) h = in_one (anywhere test) (Compare r a b) h

pub is_true_formula-true_formula : is_true_formula true_formula ≡ true
is_true_formula-true_formula = ap is_empty (items_hidden-the_row-Formula-0 [])

pub is_false_formula-false_formula : is_false_formula false_formula ≡ true
is_false_formula-false_formula = ap is_empty (items_hidden-the_row-Formula-0 [])

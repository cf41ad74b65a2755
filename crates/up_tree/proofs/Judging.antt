-- The computed truth of a formula is its truth.
use Rattle.std.proofs.Common.{◌≡◌, ◌⊎◌, ◌↔◌, Bool, true, false, nat_eq, true≢false, List, [], ◌∷◌, map, Option, Some, None, IsSomeAnd, refl, sym, subst, inl, inr, ⊎_elim}
use Rattle.std.specs.declared.cmp.Ordering.{Ordering}
use Rattle.std.specs.declared.cmp.Ordering.TheVariants.{Less, Equal as Tied, Greater}
use Rattle.std.specs.Cmp.Lexicographic.{pointwise, bytes_decides}
use Rattle.std.specs.FinSet as set
use Rattle.up_frac.specs.Fraction.{Fraction}
use Rattle.up_frac.specs.Arithmetic.{compare}
use Rattle.up_text.specs.declared.name.Name.{Name}
use Rattle.up_text.specs.Lists.{Every, Somewhere, Member}
use Rattle.up_tree.specs.declared.formula.Relation.{Relation}
use Rattle.up_tree.specs.declared.formula.Relation.TheVariants as relation
use Rattle.up_tree.specs.declared.formula.Formula.{Formula, And', Or', Atom, Equal, Compare, Row_of-Formula, end_of-Formula, more_of-Formula}
use Rattle.up_tree.specs.declared.truth.Truth.{Truth}
use Rattle.up_tree.specs.declared.truth.Truth.TheVariants.{True, False, Undefined}
use Rattle.up_tree.specs.Nodes.{not, imply, exists, forall}
use Rattle.up_tree.specs.Objects.{World, Assignment, assign, tuples}
use Rattle.up_tree.specs.State.{State, Ground, Holds}
use Rattle.up_tree.specs.Value.{term_value, ground_at, number}
use Rattle.up_tree.specs.Truth.{True as IsTrueIn, False as IsFalseIn, AllTrue, SomeTrue, AllFalse, SomeFalse, Admits, BothAnd}
use Rattle.up_tree.proofs.Apart.{apart, all_true_apart, some_true_apart}
use Rattle.up_tree.specs.Judged.{Judges, opposite, both, either, all_of, any_of, of_test, admits, atom_truth, equal_truth, compare_truth, truth_of, truths_of}

-- the answer tells which of two facts holds, or that none does
abbrev Tells : Type 0 → Type 0 → Truth → Type 0
Tells T F True = T
Tells T F False = F
Tells T F Undefined = (¬ T) × (¬ F)

-- the other way round, where the answer is turned
turned : (T F : Type 0) (t : Truth) → Tells T F t → Tells F T (opposite t)
turned T F True h = h
turned T F False h = h
turned T F Undefined h = (h.1, h.0)

module _ (T F U G : Type 0) where
  both_tell : (T → F → ⊥) → (U → G → ⊥) → (a b : Truth) → Tells T F a → Tells U G b → Tells (T × U) (F ⊎ G) (both a b)
  both_tell x y False b h k = inl h
  both_tell x y True True h k = (h, k)
  both_tell x y True False h k = inr k
  both_tell x y True Undefined h k = (λ w. k.0 w.1, ⊎_elim (λ f. x h f) k.1)
  both_tell x y Undefined False h k = inr k
  both_tell x y Undefined True h k = (λ w. h.0 w.0, ⊎_elim h.1 (λ g. y k g))
  both_tell x y Undefined Undefined h k = (λ w. h.0 w.0, ⊎_elim h.1 k.1)

  either_tell : (T → F → ⊥) → (U → G → ⊥) → (a b : Truth) → Tells T F a → Tells U G b → Tells (T ⊎ U) (F × G) (either a b)
  either_tell x y True b h k = inl h
  either_tell x y False True h k = inr k
  either_tell x y False False h k = (h, k)
  either_tell x y False Undefined h k = (⊎_elim (λ t. x t h) k.0, λ w. k.1 w.1)
  either_tell x y Undefined True h k = inr k
  either_tell x y Undefined False h k = (⊎_elim h.0 (λ u. y u k), λ w. h.1 w.0)
  either_tell x y Undefined Undefined h k = (⊎_elim h.0 k.0, λ w. h.1 w.0)

-- facts that say the same
told_as : (T F U G : Type 0) → T ↔ U → F ↔ G → (t : Truth) → Tells T F t → Tells U G t
told_as T F U G e f True h = e.0 h
told_as T F U G e f False h = f.0 h
told_as T F U G e f Undefined h = (λ u. h.0 (e.1 u), λ g. h.1 (f.1 g))

test_tells : (b : Bool) → Tells (b ≡ true) (¬ (b ≡ true)) (of_test b)
test_tells true = refl
test_tells false = λ e. true≢false (sym e)

-- ---- lists of what is said of each element

module _ {X : Type 0} (T F : X → Type 0) (t : X → Truth) (x : (a : X) → T a → F a → ⊥) (tells : (a : X) → Tells (T a) (F a) (t a)) where
  all_apart : (xs : List X) → Every T xs → Somewhere F xs → ⊥
  all_apart [] h k = k
  all_apart (a ∷ xs) h k = ⊎_elim (x a h.0) (all_apart xs h.1) k

  any_apart : (xs : List X) → Somewhere T xs → Every F xs → ⊥
  any_apart [] h k = h
  any_apart (a ∷ xs) h k = ⊎_elim (λ y. x a y k.0) (λ y. any_apart xs y k.1) h

  all_tell : (xs : List X) → Tells (Every T xs) (Somewhere F xs) (all_of (map t xs))
  all_tell [] = tt
  all_tell (a ∷ xs) = both_tell _ _ _ _ (x a) (all_apart xs) (t a) (all_of (map t xs)) (tells a) (all_tell xs)

  any_tell : (xs : List X) → Tells (Somewhere T xs) (Every F xs) (any_of (map t xs))
  any_tell [] = tt
  any_tell (a ∷ xs) = either_tell _ _ _ _ (x a) (any_apart xs) (t a) (any_of (map t xs)) (tells a) (any_tell xs)

module _ {X : Type 0} (P : X → Type 0) where
  somewhere_is : (xs : List X) → Somewhere P xs ↔ ((a : X) × Member a xs × P a)
  somewhere_is [] = (λ h. absurd h, λ k. k.1)
  somewhere_is (y ∷ xs) = (
    ⊎_elim (λ h. (y, inl refl, h)) (λ h. let k : (a : X) × Member a xs × P a = (somewhere_is xs).0 h in (k.0, inr k.1, k.2)),
    λ k. ⊎_elim (λ e. inl (subst P e k.2)) (λ m. inr ((somewhere_is xs).1 (k.0, m, k.2))) k.1,
  )

  every_is : (xs : List X) → Every P xs ↔ ((a : X) → Member a xs → P a)
  every_is [] = (λ h a m. absurd m, λ k. tt)
  every_is (y ∷ xs) = (λ h a m. ⊎_elim (λ e. subst P (sym e) h.0) ((every_is xs).0 h.1 a) m, λ k. (k y (inl refl), (every_is xs).1 (λ a m. k a (inr m))))

-- ---- atoms, equalities and comparisons

atom_tells : (s : State) (a : Option Ground) → Tells (IsSomeAnd a (Holds s)) (IsSomeAnd a (λ g. ¬ Holds s g)) (atom_truth s a)
atom_tells s None = (λ h. h, λ h. h)
atom_tells s (Some g) = test_tells (set.contains s.atoms g)

equal_tells : (v w : Option Name) → Tells (BothAnd v w (λ x y. x ≡ y)) (BothAnd v w (λ x y. ¬ (x ≡ y))) (equal_truth v w)
equal_tells None w = (λ h. h, λ h. h)
equal_tells (Some x) None = (λ h. h, λ h. h)
equal_tells (Some x) (Some y) =
    let d : (pointwise nat_eq x y ≡ true → x ≡ y) × (x ≡ y → pointwise nat_eq x y ≡ true) = bytes_decides x y in
    told_as _ _ _ _ d ((λ n e. n (d.1 e)), (λ n e. n (d.0 e))) (of_test (pointwise nat_eq x y)) (test_tells (pointwise nat_eq x y))

admits_is : (r : Relation) (o : Ordering) → (admits r o ≡ true) ↔ Admits r o
admits_is relation.Less Less = (λ e. refl, λ e. refl)
admits_is relation.Less Tied = (λ e. cc, λ e. cc)
admits_is relation.Less Greater = (λ e. cc, λ e. cc)
admits_is relation.LessEqual Less = (λ e n. cc, λ e. refl)
admits_is relation.LessEqual Tied = (λ e n. cc, λ e. refl)
admits_is relation.LessEqual Greater = (λ e. cc, λ n. absurd (n refl))
admits_is relation.Same Less = (λ e. cc, λ e. cc)
admits_is relation.Same Tied = (λ e. refl, λ e. refl)
admits_is relation.Same Greater = (λ e. cc, λ e. cc)
admits_is relation.GreaterEqual Less = (λ e. cc, λ n. absurd (n refl))
admits_is relation.GreaterEqual Tied = (λ e n. cc, λ e. refl)
admits_is relation.GreaterEqual Greater = (λ e n. cc, λ e. refl)
admits_is relation.Greater Less = (λ e. cc, λ e. cc)
admits_is relation.Greater Tied = (λ e. cc, λ e. cc)
admits_is relation.Greater Greater = (λ e. refl, λ e. refl)

compare_tells : (r : Relation) (v w : Option Fraction) →
    Tells (BothAnd v w (λ x y. Admits r (compare x y))) (BothAnd v w (λ x y. ¬ Admits r (compare x y))) (compare_truth r v w)
compare_tells r None w = (λ h. h, λ h. h)
compare_tells r (Some x) None = (λ h. h, λ h. h)
compare_tells r (Some x) (Some y) =
    let d : (admits r (compare x y) ≡ true) ↔ Admits r (compare x y) = admits_is r (compare x y) in
    told_as _ _ _ _ d ((λ n e. n (d.1 e)), (λ n e. n (d.0 e))) (of_test (admits r (compare x y))) (test_tells (admits r (compare x y)))

-- ---- formulas

mutual
  unfolding IsTrueIn IsFalseIn AllTrue SomeTrue AllFalse SomeFalse truth_of truths_of

  tells : (w : World) (s : State) (e : Assignment) (f : Formula) → Tells (IsTrueIn w s e f) (IsFalseIn w s e f) (truth_of w s e f)
  tells w s e (And' n fs) = all_tells w s e fs
  tells w s e (Or' n fs) = any_tells w s e fs
  tells w s e (not f) = turned _ _ (truth_of w s e f) (tells w s e f)
  tells w s e (imply f g) =
      either_tell _ _ _ _ (λ a b. apart w s e f b a) (apart w s e g) (opposite (truth_of w s e f)) (truth_of w s e g)
      (turned _ _ (truth_of w s e f) (tells w s e f)) (tells w s e g)
  tells w s e (exists vars f) =
      told_as _ _ _ _ (somewhere_is (λ tuple. IsTrueIn w s (assign vars tuple e) f) (tuples w vars)) (every_is (λ tuple. IsFalseIn w s (assign vars tuple e) f) (tuples w vars)) _
      (any_tell _ _ (λ tuple. truth_of w s (assign vars tuple e) f) (λ tuple. apart w s (assign vars tuple e) f) (λ tuple. tells w s (assign vars tuple e) f) (tuples w vars))
  tells w s e (forall vars f) =
      told_as _ _ _ _ (every_is (λ tuple. IsTrueIn w s (assign vars tuple e) f) (tuples w vars)) (somewhere_is (λ tuple. IsFalseIn w s (assign vars tuple e) f) (tuples w vars)) _
      (all_tell _ _ (λ tuple. truth_of w s (assign vars tuple e) f) (λ tuple. apart w s (assign vars tuple e) f) (λ tuple. tells w s (assign vars tuple e) f) (tuples w vars))
  tells w s e (Atom name ts) = atom_tells s (ground_at s e name ts)
  tells w s e (Equal t u) = equal_tells (term_value s e t) (term_value s e u)
  tells w s e (Compare r a b) = compare_tells r (number s e a) (number s e b)

  all_tells : (w : World) (s : State) (e : Assignment) {n : _} (fs : Row_of-Formula n) → Tells (AllTrue w s e fs) (SomeFalse w s e fs) (all_of (truths_of w s e fs))
  all_tells w s e end_of-Formula = tt
  all_tells w s e (more_of-Formula f fs) =
      both_tell _ _ _ _ (apart w s e f) (all_true_apart w s e fs) (truth_of w s e f) (all_of (truths_of w s e fs)) (tells w s e f) (all_tells w s e fs)

  any_tells : (w : World) (s : State) (e : Assignment) {n : _} (fs : Row_of-Formula n) → Tells (SomeTrue w s e fs) (AllFalse w s e fs) (any_of (truths_of w s e fs))
  any_tells w s e end_of-Formula = tt
  any_tells w s e (more_of-Formula f fs) =
      either_tell _ _ _ _ (apart w s e f) (some_true_apart w s e fs) (truth_of w s e f) (any_of (truths_of w s e fs)) (tells w s e f) (any_tells w s e fs)

pub judged : (w : World) (s : State) (e : Assignment) (f : Formula) (t : Truth) → t ≡ truth_of w s e f → Judges w s e f t
judged w s e f t is = by t (subst (Tells (IsTrueIn w s e f) (IsFalseIn w s e f)) (sym is) (tells w s e f))
  where
    by : (t : Truth) → Tells (IsTrueIn w s e f) (IsFalseIn w s e f) t → Judges w s e f t
    by True h = h
    by False h = h
    by Undefined h = h

-- whether a formula is true is decided
pub decided : (w : World) (s : State) (e : Assignment) (f : Formula) → IsTrueIn w s e f ⊎ (¬ IsTrueIn w s e f)
decided w s e f = by (truth_of w s e f) (tells w s e f)
  where
    by : (t : Truth) → Tells (IsTrueIn w s e f) (IsFalseIn w s e f) t → IsTrueIn w s e f ⊎ (¬ IsTrueIn w s e f)
    by True h = inl h
    by False h = inr (λ y. apart w s e f y h)
    by Undefined h = inr h.0

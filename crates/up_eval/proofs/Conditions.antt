-- The truth of a condition at each node as code builds it, and where a number in it is too large.
use Rattle.std.proofs.Common.{◌≡◌, ◌⊎◌, ℕ, zero, suc, ◌+◌, ◌<◌, List, [], ◌∷◌, map, drop, get_or, length, refl, ap, sym, ◌∙◌, subst, inl, inr}
use Rattle.up_text.specs.declared.name.Name.{Name}
use Rattle.up_text.specs.Lists.{Somewhere, Member}
use Rattle.up_tree.specs.declared.term.Term.{Term}
use Rattle.up_tree.specs.declared.term.Typed.{Typed}
use Rattle.up_tree.specs.declared.expr.Expr.{Expr}
use Rattle.up_tree.specs.declared.formula.Relation.{Relation}
use Rattle.up_tree.specs.declared.formula.Formula.{Formula, And, Or, Not, Imply, Exists, Forall, Atom, Equal, Compare, Row_of-Formula, end_of-Formula, more_of-Formula, items-the_row-Formula, items_hidden-the_row-Formula-0}
use Rattle.up_tree.specs.declared.formula.Formula.TheBlock.{hidden-the_row-Formula-0}
use Rattle.up_tree.specs.declared.truth.Truth.{Truth}
use Rattle.up_tree.specs.declared.truth.Truth.TheVariants.{True, False, Undefined}
use Rattle.up_tree.specs.Nodes.{built}
use Rattle.up_tree.specs.Objects.{World, Assignment, assign, tuples}
use Rattle.up_tree.specs.State.{State}
use Rattle.up_tree.specs.Value.{term_value, ground_at, number}
use Rattle.up_tree.specs.Judged.{opposite, both, either, all_of, any_of, atom_truth, equal_truth, compare_truth, truth_of, truths_of}
use Rattle.up_tree.specs.Big.{BigExpr, BigFormula, BigRow}
use Rattle.up_eval.specs.Conditions.{truths_at, SomeBigAt}
use Rattle.up_eval.proofs.Scopes.{drop_next}

module _ (w : World) (s : State) (e : Assignment) where
  truths_of-items : {n : _} (fs : Row_of-Formula n) → truths_of w s e fs ≡ map (truth_of w s e) (items-the_row-Formula _ fs)
  unfolding truths_of
  truths_of-items end_of-Formula = refl
  truths_of-items (more_of-Formula f fs) = ap (λ ts. truth_of w s e f ∷ ts) (truths_of-items fs)

  big_row-items : {n : _} (fs : Row_of-Formula n) → BigRow w s e fs ≡ Somewhere (BigFormula w s e) (items-the_row-Formula _ fs)
  unfolding BigRow
  big_row-items end_of-Formula = refl
  big_row-items (more_of-Formula f fs) = ap (λ X. BigFormula w s e f ⊎ X) (big_row-items fs)

  pub truth_of-And : (fs : List Formula) → truth_of w s e (And fs) ≡ all_of (map (truth_of w s e) fs)
  unfolding truth_of
  truth_of-And fs = ap all_of (truths_of-items (hidden-the_row-Formula-0 fs) ∙ ap (map (truth_of w s e)) (items_hidden-the_row-Formula-0 fs))

  pub truth_of-Or : (fs : List Formula) → truth_of w s e (Or fs) ≡ any_of (map (truth_of w s e) fs)
  unfolding truth_of
  truth_of-Or fs = ap any_of (truths_of-items (hidden-the_row-Formula-0 fs) ∙ ap (map (truth_of w s e)) (items_hidden-the_row-Formula-0 fs))

  pub truth_of-Not : (f : Formula) → truth_of w s e (Not f) ≡ opposite (truth_of w s e f)
  unfolding truth_of built
  truth_of-Not f = refl

  pub truth_of-Imply : (f g : Formula) → truth_of w s e (Imply f g) ≡ either (opposite (truth_of w s e f)) (truth_of w s e g)
  unfolding truth_of built
  truth_of-Imply f g = refl

  pub truth_of-Exists : (vars : List Typed) (f : Formula) → truth_of w s e (Exists vars f) ≡ any_of (truths_at w s e vars f (tuples w vars))
  unfolding truth_of built
  truth_of-Exists vars f = refl

  pub truth_of-Forall : (vars : List Typed) (f : Formula) → truth_of w s e (Forall vars f) ≡ all_of (truths_at w s e vars f (tuples w vars))
  unfolding truth_of built
  truth_of-Forall vars f = refl

  pub truth_of-Atom : (name : Name) (ts : List Term) → truth_of w s e (Atom name ts) ≡ atom_truth s (ground_at s e name ts)
  unfolding truth_of
  truth_of-Atom name ts = refl

  pub truth_of-Equal : (t u : Term) → truth_of w s e (Equal t u) ≡ equal_truth (term_value s e t) (term_value s e u)
  unfolding truth_of
  truth_of-Equal t u = refl

  pub truth_of-Compare : (r : Relation) (a b : Expr) → truth_of w s e (Compare r a b) ≡ compare_truth r (number s e a) (number s e b)
  unfolding truth_of
  truth_of-Compare r a b = refl

  -- ---- where a number is too large

  pub big-And : (fs : List Formula) → Somewhere (BigFormula w s e) fs → BigFormula w s e (And fs)
  unfolding BigFormula
  big-And fs h = subst (λ X. X) (sym (big_row-items (hidden-the_row-Formula-0 fs) ∙ ap (Somewhere (BigFormula w s e)) (items_hidden-the_row-Formula-0 fs))) h

  pub big-Or : (fs : List Formula) → Somewhere (BigFormula w s e) fs → BigFormula w s e (Or fs)
  unfolding BigFormula
  big-Or fs h = subst (λ X. X) (sym (big_row-items (hidden-the_row-Formula-0 fs) ∙ ap (Somewhere (BigFormula w s e)) (items_hidden-the_row-Formula-0 fs))) h

  pub big-Not : (f : Formula) → BigFormula w s e f → BigFormula w s e (Not f)
  unfolding BigFormula built
  big-Not f h = h

  pub big-Imply_first : (f g : Formula) → BigFormula w s e f → BigFormula w s e (Imply f g)
  unfolding BigFormula built
  big-Imply_first f g h = inl h

  pub big-Imply_second : (f g : Formula) → BigFormula w s e g → BigFormula w s e (Imply f g)
  unfolding BigFormula built
  big-Imply_second f g h = inr h

  some_tuple : (vars : List Typed) (f : Formula) (them : List (List Name)) → SomeBigAt w s e vars f them
      → (tuple : List Name) × Member tuple them × BigFormula w s (assign vars tuple e) f
  some_tuple vars f [] h = absurd h
  some_tuple vars f (tuple ∷ them) (inl h) = (tuple, inl refl, h)
  some_tuple vars f (tuple ∷ them) (inr h) =
      let k : (tuple : List Name) × Member tuple them × BigFormula w s (assign vars tuple e) f = some_tuple vars f them h in
      (k.0, inr k.1, k.2)

  pub big-Exists : (vars : List Typed) (f : Formula) → SomeBigAt w s e vars f (tuples w vars) → BigFormula w s e (Exists vars f)
  unfolding BigFormula built
  big-Exists vars f h = some_tuple vars f (tuples w vars) h

  pub big-Forall : (vars : List Typed) (f : Formula) → SomeBigAt w s e vars f (tuples w vars) → BigFormula w s e (Forall vars f)
  unfolding BigFormula built
  big-Forall vars f h = some_tuple vars f (tuples w vars) h

  pub big-Compare_left : (r : Relation) (a b : Expr) → BigExpr s e a → BigFormula w s e (Compare r a b)
  unfolding BigFormula
  big-Compare_left r a b h = inl h

  pub big-Compare_right : (r : Relation) (a b : Expr) → BigExpr s e b → BigFormula w s e (Compare r a b)
  unfolding BigFormula
  big-Compare_right r a b h = inr h

pub ruleset truths = (truth_of-And, truth_of-Or, truth_of-Not, truth_of-Imply, truth_of-Exists, truth_of-Forall, truth_of-Atom, truth_of-Equal, truth_of-Compare, big-And, big-Or, big-Not, big-Imply_first, big-Imply_second, big-Exists, big-Forall, big-Compare_left, big-Compare_right)

-- ---- one more member

pub both_assoc : (a b c : Truth) → both (both a b) c ≡ both a (both b c)
both_assoc True b c = refl
both_assoc False b c = refl
both_assoc Undefined True c = refl
both_assoc Undefined False c = refl
both_assoc Undefined Undefined True = refl
both_assoc Undefined Undefined False = refl
both_assoc Undefined Undefined Undefined = refl

pub either_assoc : (a b c : Truth) → either (either a b) c ≡ either a (either b c)
either_assoc True b c = refl
either_assoc False b c = refl
either_assoc Undefined True c = refl
either_assoc Undefined False c = refl
either_assoc Undefined Undefined True = refl
either_assoc Undefined Undefined False = refl
either_assoc Undefined Undefined Undefined = refl

module _ {X : Type 0} (t : X → Truth) where
  pub all_next : (xs : List X) (i : ℕ) (x : X) (a : Truth) → i < length xs → x ≡ get_or xs i x →
      both a (all_of (map t (drop i xs))) ≡ both (both a (t x)) (all_of (map t (drop (i + 1) xs)))
  all_next xs i x a within is = ap (λ ys. both a (all_of (map t ys))) (drop_next xs i x within is) ∙ sym (both_assoc a (t x) _)

  pub any_next : (xs : List X) (i : ℕ) (x : X) (a : Truth) → i < length xs → x ≡ get_or xs i x →
      either a (any_of (map t (drop i xs))) ≡ either (either a (t x)) (any_of (map t (drop (i + 1) xs)))
  any_next xs i x a within is = ap (λ ys. either a (any_of (map t ys))) (drop_next xs i x within is) ∙ sym (either_assoc a (t x) _)

pub either-False : (a : Truth) → either a False ≡ a
either-False True = refl
either-False False = refl
either-False Undefined = refl

pub both-True : (a : Truth) → both a True ≡ a
both-True True = refl
both-True False = refl
both-True Undefined = refl

dropped : {X : Type 0} (P : X → Type 0) (k : ℕ) (ys : List X) → Somewhere P (drop k ys) → Somewhere P ys
dropped P zero ys h = h
dropped P (suc k) [] h = h
dropped P (suc k) (y ∷ ys) h = inr (dropped P k ys h)

-- what is said of the element at a place is said of some element
pub somewhere_at : {X : Type 0} (P : X → Type 0) (xs : List X) (i : ℕ) (x : X) → i < length xs → x ≡ get_or xs i x → P x → Somewhere P xs
somewhere_at P xs i x within is h = dropped P i xs (subst (Somewhere P) (sym (drop_next xs i x within is)) (inl h))

module _ (w : World) (s : State) (e : Assignment) where
  pub all_member : (fs : List Formula) (i : ℕ) (f : Formula) (a : Truth) → i < length fs → f ≡ get_or fs i f →
      both a (all_of (map (truth_of w s e) (drop i fs))) ≡ both (both a (truth_of w s e f)) (all_of (map (truth_of w s e) (drop (i + 1) fs)))
  all_member fs i f a within is = all_next (truth_of w s e) fs i f a within is

  pub any_member : (fs : List Formula) (i : ℕ) (f : Formula) (a : Truth) → i < length fs → f ≡ get_or fs i f →
      either a (any_of (map (truth_of w s e) (drop i fs))) ≡ either (either a (truth_of w s e f)) (any_of (map (truth_of w s e) (drop (i + 1) fs)))
  any_member fs i f a within is = any_next (truth_of w s e) fs i f a within is

  pub big_member : (fs : List Formula) (i : ℕ) (f : Formula) → i < length fs → f ≡ get_or fs i f → BigFormula w s e f → Somewhere (BigFormula w s e) fs
  big_member fs i f within is h = somewhere_at (BigFormula w s e) fs i f within is h

  module _ (vars : List Typed) (f : Formula) where
    pub all_tuple : (them : List (List Name)) (i : ℕ) (tuple : List Name) (inner : Assignment) (a : Truth) → i < length them → tuple ≡ get_or them i tuple → inner ≡ assign vars tuple e →
        both a (all_of (truths_at w s e vars f (drop i them))) ≡ both (both a (truth_of w s inner f)) (all_of (truths_at w s e vars f (drop (i + 1) them)))
    all_tuple them i tuple inner a within is inside =
        all_next (λ tuple. truth_of w s (assign vars tuple e) f) them i tuple a within is
        ∙ ap (λ v. both (both a (truth_of w s v f)) (all_of (truths_at w s e vars f (drop (i + 1) them)))) (sym inside)

    pub any_tuple : (them : List (List Name)) (i : ℕ) (tuple : List Name) (inner : Assignment) (a : Truth) → i < length them → tuple ≡ get_or them i tuple → inner ≡ assign vars tuple e →
        either a (any_of (truths_at w s e vars f (drop i them))) ≡ either (either a (truth_of w s inner f)) (any_of (truths_at w s e vars f (drop (i + 1) them)))
    any_tuple them i tuple inner a within is inside =
        any_next (λ tuple. truth_of w s (assign vars tuple e) f) them i tuple a within is
        ∙ ap (λ v. either (either a (truth_of w s v f)) (any_of (truths_at w s e vars f (drop (i + 1) them)))) (sym inside)

    pub big_tuple : (them : List (List Name)) (i : ℕ) (tuple : List Name) (inner : Assignment) → i < length them → tuple ≡ get_or them i tuple → inner ≡ assign vars tuple e
        → BigFormula w s inner f → SomeBigAt w s e vars f them
    big_tuple them i tuple inner within is inside h =
        somewhere_at (λ tuple. BigFormula w s (assign vars tuple e) f) them i tuple within is (subst (λ v. BigFormula w s v f) inside h)

pub ruleset steps = (all_member, any_member, big_member, all_tuple, any_tuple, big_tuple, either-False, both-True)

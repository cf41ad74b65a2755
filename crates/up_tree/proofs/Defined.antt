-- A formula without object functions and comparisons, whose variables are assigned, is true or false.
use Rattle.std.proofs.Common.{◌⊎◌, Bool, true, false, true≢false, List, [], ◌∷◌, map, option_map, Option, Some, None, IsSome, refl, sym, inl, inr}
use Rattle.up_text.specs.declared.name.Name.{Name}
use Rattle.up_text.specs.Lists.{Every, Member}
use Rattle.up_tree.specs.declared.term.Term.{Term, Var, Object, Fluent'}
use Rattle.up_tree.specs.declared.formula.Formula.{Formula, And', Or', Atom, Equal, Compare, Row_of-Formula, end_of-Formula, more_of-Formula}
use Rattle.up_tree.specs.declared.truth.Truth.{Truth}
use Rattle.up_tree.specs.declared.truth.Truth.TheVariants as truth
use Rattle.up_tree.specs.Nodes.{not, imply, exists, forall}
use Rattle.up_tree.specs.Objects.{World, Assignment, assign, tuples}
use Rattle.up_tree.specs.State.{State, ground}
use Rattle.up_tree.specs.Value.{term_value, values_of, with_both}
use Rattle.up_tree.specs.Truth.{True, False}
use Rattle.up_tree.specs.Judged.{Judges, opposite, both, either, all_of, any_of, of_test, atom_truth, equal_truth, truth_of, truths_of}
use Rattle.up_tree.specs.Laws.{IsPlainTerm, IsDefined, AreDefined, DefinedDecides}
use Rattle.up_tree.proofs.Judging.{judged}

-- true or false
abbrev Is2 : Truth → Type 0
Is2 truth.Undefined = ⊥
Is2 t = Unit {0}

opposite_2 : (t : Truth) → Is2 t → Is2 (opposite t)
opposite_2 truth.True h = tt
opposite_2 truth.False h = tt
opposite_2 truth.Undefined h = h

both_2 : (t u : Truth) → Is2 t → Is2 u → Is2 (both t u)
both_2 truth.True u h k = k
both_2 truth.False u h k = tt
both_2 truth.Undefined u h k = absurd h

either_2 : (t u : Truth) → Is2 t → Is2 u → Is2 (either t u)
either_2 truth.True u h k = tt
either_2 truth.False u h k = k
either_2 truth.Undefined u h k = absurd h

module _ {X : Type 0} (g : X → Truth) where
  all_2 : (xs : List X) → ((x : X) → Member x xs → Is2 (g x)) → Is2 (all_of (map g xs))
  all_2 [] h = tt
  all_2 (x ∷ xs) h = both_2 (g x) _ (h x (inl refl)) (all_2 xs (λ y m. h y (inr m)))

  any_2 : (xs : List X) → ((x : X) → Member x xs → Is2 (g x)) → Is2 (any_of (map g xs))
  any_2 [] h = tt
  any_2 (x ∷ xs) h = either_2 (g x) _ (h x (inl refl)) (any_2 xs (λ y m. h y (inr m)))

test_2 : (b : Bool) → Is2 (of_test b)
test_2 true = tt
test_2 false = tt

-- a plain term has an object
of_plain : (s : State) (e : Assignment) (t : Term) → IsPlainTerm e t → IsSome (term_value s e t)
unfolding term_value
of_plain s e (Var v) h = h
of_plain s e (Object o) h = refl
of_plain s e (Fluent' f n ts) h = absurd h

both_there : (o : Option Name) (os : Option (List Name)) → IsSome o → IsSome os → IsSome (with_both (λ o objects. Some (o ∷ objects)) o os)
both_there (Some o) (Some os) h k = refl
both_there None os h k = absurd (true≢false (sym h))
both_there (Some o) None h k = absurd (true≢false (sym k))

all_plain : (s : State) (e : Assignment) (ts : List Term) → Every (IsPlainTerm e) ts → IsSome (values_of s e ts)
all_plain s e [] h = refl
all_plain s e (t ∷ ts) h = both_there (term_value s e t) (values_of s e ts) (of_plain s e t h.0) (all_plain s e ts h.1)

atom_2 : (s : State) (name : Name) (v : Option (List Name)) → IsSome v → Is2 (atom_truth s (option_map (ground name) v))
atom_2 s name (Some objects) h = test_2 _
atom_2 s name None h = absurd (true≢false (sym h))

equal_2 : (v w : Option Name) → IsSome v → IsSome w → Is2 (equal_truth v w)
equal_2 (Some x) (Some y) h k = test_2 _
equal_2 None w h k = absurd (true≢false (sym h))
equal_2 (Some x) None h k = absurd (true≢false (sym k))

mutual
  unfolding IsDefined AreDefined truth_of truths_of

  defined_2 : (w : World) (s : State) (e : Assignment) (f : Formula) → IsDefined w e f → Is2 (truth_of w s e f)
  defined_2 w s e (And' n fs) h = all_defined_2 w s e fs h
  defined_2 w s e (Or' n fs) h = any_defined_2 w s e fs h
  defined_2 w s e (not f) h = opposite_2 (truth_of w s e f) (defined_2 w s e f h)
  defined_2 w s e (imply f g) h = either_2 _ _ (opposite_2 (truth_of w s e f) (defined_2 w s e f h.0)) (defined_2 w s e g h.1)
  defined_2 w s e (exists vars f) h = any_2 (λ tuple. truth_of w s (assign vars tuple e) f) (tuples w vars) (λ tuple m. defined_2 w s (assign vars tuple e) f (h tuple m))
  defined_2 w s e (forall vars f) h = all_2 (λ tuple. truth_of w s (assign vars tuple e) f) (tuples w vars) (λ tuple m. defined_2 w s (assign vars tuple e) f (h tuple m))
  defined_2 w s e (Atom name ts) h = atom_2 s name (values_of s e ts) (all_plain s e ts h)
  defined_2 w s e (Equal t u) h = equal_2 (term_value s e t) (term_value s e u) (of_plain s e t h.0) (of_plain s e u h.1)
  defined_2 w s e (Compare r a b) h = absurd h

  all_defined_2 : (w : World) (s : State) (e : Assignment) {n : _} (fs : Row_of-Formula n) → AreDefined w e fs → Is2 (all_of (truths_of w s e fs))
  all_defined_2 w s e end_of-Formula h = tt
  all_defined_2 w s e (more_of-Formula f fs) h = both_2 _ _ (defined_2 w s e f h.0) (all_defined_2 w s e fs h.1)

  any_defined_2 : (w : World) (s : State) (e : Assignment) {n : _} (fs : Row_of-Formula n) → AreDefined w e fs → Is2 (any_of (truths_of w s e fs))
  any_defined_2 w s e end_of-Formula h = tt
  any_defined_2 w s e (more_of-Formula f fs) h = either_2 _ _ (defined_2 w s e f h.0) (any_defined_2 w s e fs h.1)

pub defined_decides : DefinedDecides
defined_decides w s e f h = by (truth_of w s e f) (judged w s e f _ refl) (defined_2 w s e f h)
  where
    by : (t : Truth) → Judges w s e f t → Is2 t → True w s e f ⊎ False w s e f
    by truth.True j h = inl j
    by truth.False j h = inr j
    by truth.Undefined j h = absurd h

-- Simplified formulas have the truth of the formulas.
use Rattle.std.proofs.Common.{◌≡◌, Bool, true, false, ◌&&◌, not as flip, true≢false, List, [], ◌∷◌, map, Option, Some, None, option_map, option_and_then, IsSome, refl, ap, sym, ◌∙◌}
use Rattle.std.specs.Prelude.{if◌then◌else◌}
use Rattle.std.specs.List.{list_any, flat_map}
use Rattle.std.specs.Cmp.Lexicographic.{bytes_decides}
use Rattle.up_text.specs.declared.name.Name.{Name}
use Rattle.up_text.specs.Names.{same_name}
use Rattle.up_tree.specs.declared.term.Term.{Term, Var, Object, Fluent'}
use Rattle.up_tree.specs.declared.term.Typed.{Typed}
use Rattle.up_tree.specs.declared.formula.Formula.{Formula, And, And', Or, Or', Atom, Equal, Compare, Row_of-Formula, end_of-Formula, more_of-Formula, items-the_row-Formula, items_hidden-the_row-Formula-0}
use Rattle.up_tree.specs.declared.formula.Formula.TheBlock.{hidden-the_row-Formula-0}
use Rattle.up_tree.specs.declared.truth.Truth.TheVariants.{True, False}
use Rattle.up_tree.specs.Nodes.{not, imply, exists, forall}
use Rattle.up_tree.specs.Objects.{World, Assignment, assign, tuples, objects_of}
use Rattle.up_tree.specs.State.{State, ground, init}
use Rattle.up_tree.specs.Value.{with_both, term_value, values_of, ground_at}
use Rattle.up_tree.specs.Judged.{opposite, both, either, all_of, any_of, of_test, atom_truth, equal_truth, truth_of, truths_of}
use Rattle.up_tree.specs.Simplify.{Oracle, true_formula, false_formula, constant, conjuncts, disjuncts, is_empty, is_true_formula, is_false_formula, alone_or, simple_and, simple_or, object_in, objects_in, simple_atom, simple_equal, without_not, simple_not, simple_imply, are_inhabited, simple_exists, simple_forall, simplified, all_conjuncts, all_disjuncts}
use Rattle.semantics_laws.proofs.Agreeing.{same_atom}
use Rattle.semantics_laws.proofs.Lists.{each_member, same_map}
use Rattle.semantics_laws.proofs.Same.{same_truth}
use Rattle.condition_laws.specs.Assigned.{HasObject, IsAssigned, AreAssigned}
use Rattle.condition_laws.specs.Oracles.{IsTrueTo, IsChanged, IsInitial, IsUnchanged}
use Rattle.condition_laws.proofs.Values.{both_true, either_true, either_false, opposite_twice, all_append, any_append, all_empty, any_empty, any_of_false, all_of_true, any_of_true, all_of_false, some_false, some_true}
use Rattle.up_tree.specs.declared.problem.Parts.{Parts}
use Rattle.semantics_laws.specs.SameTruth.{SameTruth}

-- ---- nodes as they are built

module _ (w : World) (s : State) (e : Assignment) where
  truths-items : {n : _} (fs : Row_of-Formula n) → truths_of w s e fs ≡ map (truth_of w s e) (items-the_row-Formula _ fs)
  unfolding truths_of
  truths-items end_of-Formula = refl
  truths-items (more_of-Formula f fs) = ap (λ ts. truth_of w s e f ∷ ts) (truths-items fs)

  truths-list : (fs : List Formula) → truths_of w s e (hidden-the_row-Formula-0 fs) ≡ map (truth_of w s e) fs
  truths-list fs = truths-items (hidden-the_row-Formula-0 fs) ∙ ap (map (truth_of w s e)) (items_hidden-the_row-Formula-0 fs)

  pub truth_of-And : (fs : List Formula) → truth_of w s e (And fs) ≡ all_of (map (truth_of w s e) fs)
  unfolding truth_of
  truth_of-And fs = ap all_of (truths-list fs)

  pub truth_of-Or : (fs : List Formula) → truth_of w s e (Or fs) ≡ any_of (map (truth_of w s e) fs)
  unfolding truth_of
  truth_of-Or fs = ap any_of (truths-list fs)

  pub of_conjuncts : (f : Formula) → all_of (map (truth_of w s e) (conjuncts f)) ≡ truth_of w s e f
  unfolding truth_of
  of_conjuncts (And' n fs) = ap all_of (sym (truths-items fs))
  of_conjuncts (Or' n fs) = both_true _
  of_conjuncts (not f) = both_true _
  of_conjuncts (imply f g) = both_true _
  of_conjuncts (exists vars f) = both_true _
  of_conjuncts (forall vars f) = both_true _
  of_conjuncts (Atom name ts) = both_true _
  of_conjuncts (Equal t u) = both_true _
  of_conjuncts (Compare r a b) = both_true _

  pub of_disjuncts : (f : Formula) → any_of (map (truth_of w s e) (disjuncts f)) ≡ truth_of w s e f
  unfolding truth_of
  of_disjuncts (Or' n fs) = ap any_of (sym (truths-items fs))
  of_disjuncts (And' n fs) = either_false _
  of_disjuncts (not f) = either_false _
  of_disjuncts (imply f g) = either_false _
  of_disjuncts (exists vars f) = either_false _
  of_disjuncts (forall vars f) = either_false _
  of_disjuncts (Atom name ts) = either_false _
  of_disjuncts (Equal t u) = either_false _
  of_disjuncts (Compare r a b) = either_false _

  pub of_always : (f : Formula) → is_true_formula f ≡ true → truth_of w s e f ≡ True
  of_always f h = sym (of_conjuncts f) ∙ all_empty (truth_of w s e) (conjuncts f) h

  pub of_never : (f : Formula) → is_false_formula f ≡ true → truth_of w s e f ≡ False
  of_never f h = sym (of_disjuncts f) ∙ any_empty (truth_of w s e) (disjuncts f) h

  pub truth_of-constant : (b : Bool) → truth_of w s e (constant b) ≡ of_test b
  truth_of-constant true = truth_of-And []
  truth_of-constant false = truth_of-Or []

  -- ---- each node from its simplified members

  alone_and : (fs : List Formula) → truth_of w s e (alone_or And fs) ≡ all_of (map (truth_of w s e) fs)
  alone_and [] = truth_of-And []
  alone_and (f ∷ []) = sym (both_true (truth_of w s e f))
  alone_and (f ∷ g ∷ fs) = truth_of-And (f ∷ g ∷ fs)

  alone_in_or : (fs : List Formula) → truth_of w s e (alone_or Or fs) ≡ any_of (map (truth_of w s e) fs)
  alone_in_or [] = truth_of-Or []
  alone_in_or (f ∷ []) = sym (either_false (truth_of w s e f))
  alone_in_or (f ∷ g ∷ fs) = truth_of-Or (f ∷ g ∷ fs)

  pub of_and : (fs : List Formula) → truth_of w s e (simple_and fs) ≡ all_of (map (truth_of w s e) fs)
  of_and fs = by (list_any is_false_formula fs) refl
    where
      by : (b : Bool) → list_any is_false_formula fs ≡ b → truth_of w s e (if b then false_formula else alone_or And fs) ≡ all_of (map (truth_of w s e) fs)
      by true at = truth_of-Or [] ∙ sym (some_false (truth_of w s e) is_false_formula of_never fs at)
      by false at = alone_and fs

  pub of_or : (fs : List Formula) → truth_of w s e (simple_or fs) ≡ any_of (map (truth_of w s e) fs)
  of_or fs = by (list_any is_true_formula fs) refl
    where
      by : (b : Bool) → list_any is_true_formula fs ≡ b → truth_of w s e (if b then true_formula else alone_or Or fs) ≡ any_of (map (truth_of w s e) fs)
      by true at = truth_of-And [] ∙ sym (some_true (truth_of w s e) is_true_formula of_always fs at)
      by false at = alone_in_or fs

  of_without_not : (f : Formula) → truth_of w s e (without_not f) ≡ opposite (truth_of w s e f)
  unfolding truth_of
  of_without_not (not f) = sym (opposite_twice _)
  of_without_not (And' n fs) = refl
  of_without_not (Or' n fs) = refl
  of_without_not (imply f g) = refl
  of_without_not (exists vars f) = refl
  of_without_not (forall vars f) = refl
  of_without_not (Atom name ts) = refl
  of_without_not (Equal t u) = refl
  of_without_not (Compare r a b) = refl

  pub of_not : (f : Formula) → truth_of w s e (simple_not f) ≡ opposite (truth_of w s e f)
  of_not f = by (is_true_formula f) (is_false_formula f) refl refl
    where
      by : (a n : Bool) → is_true_formula f ≡ a → is_false_formula f ≡ n →
          truth_of w s e (if a then false_formula else (if n then true_formula else without_not f)) ≡ opposite (truth_of w s e f)
      by true n h k = truth_of-Or [] ∙ ap opposite (sym (of_always f h))
      by false true h k = truth_of-And [] ∙ ap opposite (sym (of_never f k))
      by false false h k = of_without_not f

  truth_of-imply : (f g : Formula) → truth_of w s e (imply f g) ≡ either (opposite (truth_of w s e f)) (truth_of w s e g)
  unfolding truth_of
  truth_of-imply f g = refl

  pub of_imply : (f g : Formula) → truth_of w s e (simple_imply f g) ≡ either (opposite (truth_of w s e f)) (truth_of w s e g)
  of_imply f g = by (is_true_formula f) (is_false_formula f) (is_true_formula g) refl refl refl
    where
      by : (a n b : Bool) → is_true_formula f ≡ a → is_false_formula f ≡ n → is_true_formula g ≡ b →
          truth_of w s e (if a then g else (if n then true_formula else (if b then true_formula else imply f g))) ≡ either (opposite (truth_of w s e f)) (truth_of w s e g)
      by true n b h k m = ap (λ t. either (opposite t) (truth_of w s e g)) (sym (of_always f h))
      by false true b h k m = truth_of-And [] ∙ ap (λ t. either (opposite t) (truth_of w s e g)) (sym (of_never f k))
      by false false true h k m =
          truth_of-And [] ∙ sym (either_true (opposite (truth_of w s e f))) ∙ ap (either (opposite (truth_of w s e f))) (sym (of_always g m))
      by false false false h k m = truth_of-imply f g

-- ---- quantifiers

none_of_none : {X : Type 0} (os : List X) → flip (is_empty (flat_map (λ (o : X). map (λ (rest : List X). o ∷ rest) []) os)) ≡ false
none_of_none [] = refl
none_of_none (o ∷ os) = none_of_none os

no_pairs : {X : Type 0} (os : List X) (ts : List (List X)) → flip (is_empty (flat_map (λ o. map (λ rest. o ∷ rest) ts) os)) ≡ (flip (is_empty os) && flip (is_empty ts))
no_pairs [] ts = refl
no_pairs (o ∷ os) [] = none_of_none os
no_pairs (o ∷ os) (t ∷ ts) = refl

pub inhabited-is : (w : World) (vars : List Typed) → are_inhabited w vars ≡ flip (is_empty (tuples w vars))
inhabited-is w [] = refl
inhabited-is w (v ∷ vars) = ap (λ b. flip (is_empty (objects_of w v.of)) && b) (inhabited-is w vars) ∙ sym (no_pairs (objects_of w v.of) (tuples w vars))

module _ (w : World) (s : State) (e : Assignment) (vars : List Typed) where
  truth_of-exists : (f : Formula) → truth_of w s e (exists vars f) ≡ any_of (map (λ tuple. truth_of w s (assign vars tuple e) f) (tuples w vars))
  unfolding truth_of
  truth_of-exists f = refl

  truth_of-forall : (f : Formula) → truth_of w s e (forall vars f) ≡ all_of (map (λ tuple. truth_of w s (assign vars tuple e) f) (tuples w vars))
  unfolding truth_of
  truth_of-forall f = refl

  pub of_exists : (f : Formula) → truth_of w s e (simple_exists w vars f) ≡ any_of (map (λ tuple. truth_of w s (assign vars tuple e) f) (tuples w vars))
  of_exists f = by (is_false_formula f) (is_true_formula f) refl refl
    where
      by : (n a : Bool) → is_false_formula f ≡ n → is_true_formula f ≡ a →
          truth_of w s e (if n then false_formula else (if a then constant (are_inhabited w vars) else exists vars f))
          ≡ any_of (map (λ tuple. truth_of w s (assign vars tuple e) f) (tuples w vars))
      by true a h k = truth_of-Or w s e [] ∙ sym (any_of_false (λ tuple. truth_of w s (assign vars tuple e) f) (λ tuple. of_never w s (assign vars tuple e) f h) (tuples w vars))
      by false true h k =
          truth_of-constant w s e (are_inhabited w vars) ∙ ap of_test (inhabited-is w vars)
          ∙ sym (any_of_true (λ tuple. truth_of w s (assign vars tuple e) f) (λ tuple. of_always w s (assign vars tuple e) f k) (tuples w vars))
      by false false h k = truth_of-exists f

  pub of_forall : (f : Formula) → truth_of w s e (simple_forall w vars f) ≡ all_of (map (λ tuple. truth_of w s (assign vars tuple e) f) (tuples w vars))
  of_forall f = by (is_true_formula f) (is_false_formula f) refl refl
    where
      by : (a n : Bool) → is_true_formula f ≡ a → is_false_formula f ≡ n →
          truth_of w s e (if a then true_formula else (if n then constant (flip (are_inhabited w vars)) else forall vars f))
          ≡ all_of (map (λ tuple. truth_of w s (assign vars tuple e) f) (tuples w vars))
      by true n h k = truth_of-And w s e [] ∙ sym (all_of_true (λ tuple. truth_of w s (assign vars tuple e) f) (λ tuple. of_always w s (assign vars tuple e) f h) (tuples w vars))
      by false true h k =
          truth_of-constant w s e (flip (are_inhabited w vars)) ∙ ap (λ b. of_test (flip b)) (inhabited-is w vars)
          ∙ sym (all_of_false (λ tuple. truth_of w s (assign vars tuple e) f) (λ tuple. of_never w s (assign vars tuple e) f k) (tuples w vars))
      by false false h k = truth_of-forall f

-- ---- atoms and equalities

object-value : (s : State) (e : Assignment) (t : Term) (o : Name) → object_in t ≡ Some o → term_value s e t ≡ Some o
unfolding term_value
object-value s e (Object q) o h = h
object-value s e (Var v) o h = cc
object-value s e (Fluent' f n ts) o h = cc

objects-values : (s : State) (e : Assignment) (ts : List Term) (os : List Name) → objects_in ts ≡ Some os → values_of s e ts ≡ Some os
objects-values s e [] os h = h
objects-values s e (t ∷ ts) os h = by (object_in t) (objects_in ts) refl (objects-values s e ts) h
  where
    by : (o : Option Name) (more : Option (List Name)) → object_in t ≡ o → ((os : List Name) → more ≡ Some os → values_of s e ts ≡ Some os) →
        option_and_then (λ o. option_map (λ os. o ∷ os) more) o ≡ Some os → values_of s e (t ∷ ts) ≡ Some os
    by (Some o) (Some more) at rest h =
        (λ i. with_both (λ o objects. Some (o ∷ objects)) (object-value s e t o at i) (rest more refl i)) ∙ h
    by (Some o) None at rest h = cc
    by None more at rest h = cc

-- what an atom becomes by what is told of it
told_atom : Name → List Term → Option Bool → Formula
told_atom name ts (Some b) = constant b
told_atom name ts None = Atom name ts

pub of_atom : (w : World) (s : State) (e : Assignment) (oracle : Oracle) → IsTrueTo s oracle → (name : Name) (ts : List Term) →
    truth_of w s e (simple_atom oracle name ts) ≡ truth_of w s e (Atom name ts)
unfolding truth_of told_atom
of_atom w s e oracle true_to name ts = by (objects_in ts) refl
  where
    told : (args : List Name) (b : Option Bool) → objects_in ts ≡ Some args → oracle (record { predicate = name; args = args }) ≡ b →
        truth_of w s e (told_atom name ts b) ≡ atom_truth s (ground_at s e name ts)
    told args None at is = refl
    told args (Some b) at is =
        truth_of-constant w s e b ∙ ap of_test (sym (true_to (record { predicate = name; args = args }) b is))
        ∙ ap (λ v. atom_truth s (option_map (ground name) v)) (sym (objects-values s e ts args at))

    by : (v : Option (List Name)) → objects_in ts ≡ v →
        truth_of w s e (told_atom name ts (option_and_then (λ args. oracle (record { predicate = name; args = args })) v)) ≡ atom_truth s (ground_at s e name ts)
    by None at = refl
    by (Some args) at = told args (oracle (record { predicate = name; args = args })) at refl

same_object : (v : Option Name) → IsSome v → equal_truth v v ≡ True
same_object (Some o) h = ap of_test ((bytes_decides o o).1 refl)
same_object None h = absurd (true≢false (sym h))

pub of_equal : (w : World) (s : State) (e : Assignment) (t u : Term) → HasObject e t → HasObject e u →
    truth_of w s e (simple_equal t u) ≡ truth_of w s e (Equal t u)
unfolding truth_of term_value
of_equal w s e (Var v) (Var x) h k = by (same_name v x) refl
  where
    by : (b : Bool) → same_name v x ≡ b → truth_of w s e (if b then true_formula else Equal (Var v) (Var x)) ≡ equal_truth (e v) (e x)
    by true at = truth_of-And w s e [] ∙ sym (ap (λ y. equal_truth (e v) (e y)) (sym ((bytes_decides v x).0 at)) ∙ same_object (e v) h)
    by false at = refl
of_equal w s e (Object o) (Object q) h k = truth_of-constant w s e (same_name o q)
of_equal w s e (Var v) (Object q) h k = refl
of_equal w s e (Var v) (Fluent' g n us) h k = refl
of_equal w s e (Object o) (Var x) h k = refl
of_equal w s e (Object o) (Fluent' g n us) h k = refl
of_equal w s e (Fluent' f n ts) u h k = refl

-- ---- the whole

mutual
  unfolding truth_of truths_of simplified all_conjuncts all_disjuncts IsAssigned AreAssigned

  pub simplified_truth : (w : World) (s : State) (oracle : Oracle) → IsTrueTo s oracle → (e : Assignment) (f : Formula) → IsAssigned w e f →
      truth_of w s e (simplified w oracle f) ≡ truth_of w s e f
  simplified_truth w s oracle is e (And' n fs) h = of_and w s e (all_conjuncts w oracle fs) ∙ conjuncts_truth w s oracle is e fs h
  simplified_truth w s oracle is e (Or' n fs) h = of_or w s e (all_disjuncts w oracle fs) ∙ disjuncts_truth w s oracle is e fs h
  simplified_truth w s oracle is e (not f) h = of_not w s e (simplified w oracle f) ∙ ap opposite (simplified_truth w s oracle is e f h)
  simplified_truth w s oracle is e (imply f g) h =
      of_imply w s e (simplified w oracle f) (simplified w oracle g)
      ∙ (λ i. either (opposite (simplified_truth w s oracle is e f h.0 i)) (simplified_truth w s oracle is e g h.1 i))
  simplified_truth w s oracle is e (exists vars f) h =
      of_exists w s e vars (simplified w oracle f)
      ∙ ap any_of (same_map _ _ (tuples w vars) (each_member _ (tuples w vars) (λ tuple m. simplified_truth w s oracle is (assign vars tuple e) f (h tuple m))))
  simplified_truth w s oracle is e (forall vars f) h =
      of_forall w s e vars (simplified w oracle f)
      ∙ ap all_of (same_map _ _ (tuples w vars) (each_member _ (tuples w vars) (λ tuple m. simplified_truth w s oracle is (assign vars tuple e) f (h tuple m))))
  simplified_truth w s oracle is e (Atom name ts) h = of_atom w s e oracle is name ts
  simplified_truth w s oracle is e (Equal t u) h = of_equal w s e t u h.0 h.1
  simplified_truth w s oracle is e (Compare r a b) h = refl

  conjuncts_truth : (w : World) (s : State) (oracle : Oracle) → IsTrueTo s oracle → (e : Assignment) {n : _} (fs : Row_of-Formula n) → AreAssigned w e fs →
      all_of (map (truth_of w s e) (all_conjuncts w oracle fs)) ≡ all_of (truths_of w s e fs)
  conjuncts_truth w s oracle is e end_of-Formula h = refl
  conjuncts_truth w s oracle is e (more_of-Formula f fs) h =
      all_append (truth_of w s e) (conjuncts (simplified w oracle f)) (all_conjuncts w oracle fs)
      ∙ (λ i. both ((of_conjuncts w s e (simplified w oracle f) ∙ simplified_truth w s oracle is e f h.0) i) (conjuncts_truth w s oracle is e fs h.1 i))

  disjuncts_truth : (w : World) (s : State) (oracle : Oracle) → IsTrueTo s oracle → (e : Assignment) {n : _} (fs : Row_of-Formula n) → AreAssigned w e fs →
      any_of (map (truth_of w s e) (all_disjuncts w oracle fs)) ≡ any_of (truths_of w s e fs)
  disjuncts_truth w s oracle is e end_of-Formula h = refl
  disjuncts_truth w s oracle is e (more_of-Formula f fs) h =
      any_append (truth_of w s e) (disjuncts (simplified w oracle f)) (all_disjuncts w oracle fs)
      ∙ (λ i. either ((of_disjuncts w s e (simplified w oracle f) ∙ simplified_truth w s oracle is e f h.0) i) (disjuncts_truth w s oracle is e fs h.1 i))

-- ---- the laws

pub simplified_keeps : (w : World) (s : State) (e : Assignment) (oracle : Oracle) (f : Formula) →
    IsTrueTo s oracle → IsAssigned w e f → SameTruth w s e (simplified w oracle f) s e f
simplified_keeps w s e oracle f is h = same_truth w s e (simplified w oracle f) s e f (simplified_truth w s oracle is e f h)

pub initial_tells : (p : Parts) (s : State) (oracle : Oracle) → IsInitial p oracle → IsUnchanged p s → IsTrueTo s oracle
initial_tells p s oracle is same fact told h =
    sym (same_atom (λ x. ¬ IsChanged p x) (init p) s same fact.predicate (is.unchanged fact told h) fact.args) ∙ is.told fact told h

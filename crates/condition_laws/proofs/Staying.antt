-- A simplified normal form is normal.
use Rattle.std.proofs.Common.{Bool, true, false, not as flip, List, [], ◌∷◌, Option, Some, None, option_and_then, subst, sym}
use Rattle.std.specs.Prelude.{if◌then◌else◌}
use Rattle.std.specs.List.{list_any}
use Rattle.up_text.specs.declared.name.Name.{Name}
use Rattle.up_text.specs.Names.{same_name}
use Rattle.up_text.specs.Lists.{Every}
use Rattle.up_tree.specs.declared.term.Term.{Term, Var, Object, Fluent'}
use Rattle.up_tree.specs.declared.term.Typed.{Typed}
use Rattle.up_tree.specs.declared.formula.Formula.{Formula, And, And', Or, Or', Atom, Equal, Compare, Row_of-Formula, end_of-Formula, more_of-Formula, items-the_row-Formula}
use Rattle.up_tree.specs.Nodes.{not, imply, exists, forall}
use Rattle.up_tree.specs.Objects.{World}
use Rattle.up_tree.specs.Simplify.{Oracle, true_formula, false_formula, constant, conjuncts, disjuncts, is_true_formula, is_false_formula, alone_or, simple_and, simple_or, objects_in, simple_atom, simple_equal, without_not, simple_not, simple_imply, are_inhabited, simple_exists, simple_forall, simplified, all_conjuncts, all_disjuncts}
use Rattle.condition_laws.specs.Shapes.{IsNormal, AreNormal, IsQuantifierFree, AreQuantifierFree}
use Rattle.condition_laws.proofs.Forming.{normal-And, normal-Or, free-And, free-Or}
use Rattle.condition_laws.proofs.Clauses.{each_of_both}
use Rattle.condition_laws.proofs.Carrying.{not_constant}

told_atom : Name → List Term → Option Bool → Formula
told_atom name ts (Some b) = constant b
told_atom name ts None = Atom name ts

-- a shape that `and` and `or` of what has it have
record IsShape (P : Formula → Type 0) : Type 0 where
  ands : (fs : List Formula) → Every P fs → P (And fs)
  ors : (fs : List Formula) → Every P fs → P (Or fs)
  equal : (t u : Term) → P (Equal t u)

module _ (P : Formula → Type 0) (shape : IsShape P) where
  constant_is : (b : Bool) → P (constant b)
  constant_is true = shape.ands [] tt
  constant_is false = shape.ors [] tt

  either_is : (b : Bool) (f g : Formula) → P f → P g → P (if b then f else g)
  either_is true f g h k = h
  either_is false f g h k = k

  alone_is : (join : List Formula → Formula) → ((fs : List Formula) → Every P fs → P (join fs)) → (fs : List Formula) → Every P fs → P (alone_or join fs)
  alone_is join joins [] h = joins [] h
  alone_is join joins (f ∷ []) h = h.0
  alone_is join joins (f ∷ g ∷ fs) h = joins (f ∷ g ∷ fs) h

  and_is : (fs : List Formula) → Every P fs → P (simple_and fs)
  and_is fs h = either_is (list_any is_false_formula fs) false_formula (alone_or And fs) (constant_is false) (alone_is And shape.ands fs h)

  or_is : (fs : List Formula) → Every P fs → P (simple_or fs)
  or_is fs h = either_is (list_any is_true_formula fs) true_formula (alone_or Or fs) (constant_is true) (alone_is Or shape.ors fs h)

  told_is : (name : Name) (ts : List Term) → P (Atom name ts) → (b : Option Bool) → P (told_atom name ts b)
  unfolding told_atom
  told_is name ts h (Some b) = constant_is b
  told_is name ts h None = h

  atom_is : (oracle : Oracle) (name : Name) (ts : List Term) → P (Atom name ts) → P (simple_atom oracle name ts)
  unfolding told_atom
  atom_is oracle name ts h = told_is name ts h (option_and_then (λ args. oracle (record { predicate = name; args = args })) (objects_in ts))

  equal_is : (t u : Term) → P (simple_equal t u)
  equal_is (Var v) (Var x) = either_is (same_name v x) true_formula (Equal (Var v) (Var x)) (constant_is true) (shape.equal (Var v) (Var x))
  equal_is (Object o) (Object q) = constant_is (same_name o q)
  equal_is (Var v) (Object q) = shape.equal (Var v) (Object q)
  equal_is (Var v) (Fluent' g n us) = shape.equal (Var v) (Fluent' g n us)
  equal_is (Object o) (Var x) = shape.equal (Object o) (Var x)
  equal_is (Object o) (Fluent' g n us) = shape.equal (Object o) (Fluent' g n us)
  equal_is (Fluent' f n ts) u = shape.equal (Fluent' f n ts) u

  simple_not_is : (f : Formula) → P (without_not f) → P (simple_not f)
  simple_not_is f h =
      either_is (is_true_formula f) false_formula (if is_false_formula f then true_formula else without_not f) (constant_is false) (either_is (is_false_formula f) true_formula (without_not f) (constant_is true) h)

normal_shape : IsShape IsNormal
unfolding IsNormal
normal_shape = record { ands = normal-And; ors = normal-Or; equal = λ t u. tt }

free_shape : IsShape IsQuantifierFree
unfolding IsQuantifierFree
free_shape = record { ands = free-And; ors = free-Or; equal = λ t u. tt }

-- ---- members

normal_items : {n : _} (fs : Row_of-Formula n) → AreNormal fs → Every IsNormal (items-the_row-Formula _ fs)
unfolding AreNormal
normal_items end_of-Formula h = tt
normal_items (more_of-Formula f fs) h = (h.0, normal_items fs h.1)

free_items : {n : _} (fs : Row_of-Formula n) → AreQuantifierFree fs → Every IsQuantifierFree (items-the_row-Formula _ fs)
unfolding AreQuantifierFree
free_items end_of-Formula h = tt
free_items (more_of-Formula f fs) h = (h.0, free_items fs h.1)

normal_conjuncts : (f : Formula) → IsNormal f → Every IsNormal (conjuncts f)
unfolding IsNormal
normal_conjuncts (And' n fs) h = normal_items fs h
normal_conjuncts (Or' n fs) h = (h, tt)
normal_conjuncts (not f) h = (h, tt)
normal_conjuncts (imply f g) h = (h, tt)
normal_conjuncts (exists vars f) h = (h, tt)
normal_conjuncts (forall vars f) h = (h, tt)
normal_conjuncts (Atom name ts) h = (h, tt)
normal_conjuncts (Equal t u) h = (h, tt)
normal_conjuncts (Compare r a b) h = (h, tt)

normal_disjuncts : (f : Formula) → IsNormal f → Every IsNormal (disjuncts f)
unfolding IsNormal
normal_disjuncts (Or' n fs) h = normal_items fs h
normal_disjuncts (And' n fs) h = (h, tt)
normal_disjuncts (not f) h = (h, tt)
normal_disjuncts (imply f g) h = (h, tt)
normal_disjuncts (exists vars f) h = (h, tt)
normal_disjuncts (forall vars f) h = (h, tt)
normal_disjuncts (Atom name ts) h = (h, tt)
normal_disjuncts (Equal t u) h = (h, tt)
normal_disjuncts (Compare r a b) h = (h, tt)

free_conjuncts : (f : Formula) → IsQuantifierFree f → Every IsQuantifierFree (conjuncts f)
unfolding IsQuantifierFree
free_conjuncts (And' n fs) h = free_items fs h
free_conjuncts (Or' n fs) h = (h, tt)
free_conjuncts (not f) h = (h, tt)
free_conjuncts (imply f g) h = (h, tt)
free_conjuncts (exists vars f) h = (h, tt)
free_conjuncts (forall vars f) h = (h, tt)
free_conjuncts (Atom name ts) h = (h, tt)
free_conjuncts (Equal t u) h = (h, tt)
free_conjuncts (Compare r a b) h = (h, tt)

free_disjuncts : (f : Formula) → IsQuantifierFree f → Every IsQuantifierFree (disjuncts f)
unfolding IsQuantifierFree
free_disjuncts (Or' n fs) h = free_items fs h
free_disjuncts (And' n fs) h = (h, tt)
free_disjuncts (not f) h = (h, tt)
free_disjuncts (imply f g) h = (h, tt)
free_disjuncts (exists vars f) h = (h, tt)
free_disjuncts (forall vars f) h = (h, tt)
free_disjuncts (Atom name ts) h = (h, tt)
free_disjuncts (Equal t u) h = (h, tt)
free_disjuncts (Compare r a b) h = (h, tt)

-- ---- negations

negated_constant : (b : Bool) → IsNormal (simple_not (constant b))
negated_constant true = subst IsNormal (sym (not_constant true)) (constant_is IsNormal normal_shape false)
negated_constant false = subst IsNormal (sym (not_constant false)) (constant_is IsNormal normal_shape true)

negated_told : (name : Name) (ts : List Term) (b : Option Bool) → IsNormal (simple_not (told_atom name ts b))
unfolding told_atom IsNormal
negated_told name ts (Some b) = negated_constant b
negated_told name ts None = tt

negated_one_of : (b : Bool) (t u : Term) → IsNormal (simple_not (if b then true_formula else Equal t u))
unfolding IsNormal
negated_one_of true t u = negated_constant true
negated_one_of false t u = tt

negated_equal : (t u : Term) → IsNormal (simple_not (simple_equal t u))
unfolding IsNormal
negated_equal (Var v) (Var x) = negated_one_of (same_name v x) (Var v) (Var x)
negated_equal (Object o) (Object q) = negated_constant (same_name o q)
negated_equal (Var v) (Object q) = tt
negated_equal (Var v) (Fluent' g n us) = tt
negated_equal (Object o) (Var x) = tt
negated_equal (Object o) (Fluent' g n us) = tt
negated_equal (Fluent' f n ts) u = tt

free_without_not : (f : Formula) → IsQuantifierFree f → IsQuantifierFree (without_not f)
unfolding IsQuantifierFree
free_without_not (not f) h = h
free_without_not (And' n fs) h = h
free_without_not (Or' n fs) h = h
free_without_not (imply f g) h = h
free_without_not (exists vars f) h = h
free_without_not (forall vars f) h = h
free_without_not (Atom name ts) h = h
free_without_not (Equal t u) h = h
free_without_not (Compare r a b) h = h

free_imply : (f g : Formula) → IsQuantifierFree f → IsQuantifierFree g → IsQuantifierFree (simple_imply f g)
unfolding IsQuantifierFree
free_imply f g h k =
    either_is IsQuantifierFree free_shape (is_true_formula f) g (if is_false_formula f then true_formula else (if is_true_formula g then true_formula else imply f g)) k
    (either_is IsQuantifierFree free_shape (is_false_formula f) true_formula (if is_true_formula g then true_formula else imply f g) (constant_is IsQuantifierFree free_shape true)
    (either_is IsQuantifierFree free_shape (is_true_formula g) true_formula (imply f g) (constant_is IsQuantifierFree free_shape true) (h, k)))

-- ---- quantifiers

normal_exists : (w : World) (vars : List Typed) (f : Formula) → IsNormal f → IsNormal (simple_exists w vars f)
unfolding IsNormal
normal_exists w vars f h =
    either_is IsNormal normal_shape (is_false_formula f) false_formula (if is_true_formula f then constant (are_inhabited w vars) else exists vars f) (constant_is IsNormal normal_shape false)
    (either_is IsNormal normal_shape (is_true_formula f) (constant (are_inhabited w vars)) (exists vars f) (constant_is IsNormal normal_shape (are_inhabited w vars)) h)

normal_forall : (w : World) (vars : List Typed) (f : Formula) → IsNormal f → IsNormal (simple_forall w vars f)
unfolding IsNormal
normal_forall w vars f h =
    either_is IsNormal normal_shape (is_true_formula f) true_formula (if is_false_formula f then constant (flip (are_inhabited w vars)) else forall vars f) (constant_is IsNormal normal_shape true)
    (either_is IsNormal normal_shape (is_false_formula f) (constant (flip (are_inhabited w vars))) (forall vars f) (constant_is IsNormal normal_shape (flip (are_inhabited w vars))) h)

-- ---- the whole

module _ (w : World) (oracle : Oracle) where
  mutual
    unfolding simplified all_conjuncts all_disjuncts IsNormal AreNormal told_atom

    still_normal : (f : Formula) → IsNormal f → IsNormal (simplified w oracle f)
    still_normal (And' n fs) h = and_is IsNormal normal_shape (all_conjuncts w oracle fs) (conjuncts_normal fs h)
    still_normal (Or' n fs) h = or_is IsNormal normal_shape (all_disjuncts w oracle fs) (disjuncts_normal fs h)
    still_normal (imply f g) h = absurd h
    still_normal (exists vars f) h = normal_exists w vars (simplified w oracle f) (still_normal f h)
    still_normal (forall vars f) h = normal_forall w vars (simplified w oracle f) (still_normal f h)
    still_normal (not (Atom name ts)) h = negated_told name ts (option_and_then (λ args. oracle (record { predicate = name; args = args })) (objects_in ts))
    still_normal (not (Equal t u)) h = negated_equal t u
    still_normal (not (And' n fs)) h = absurd h
    still_normal (not (Or' n fs)) h = absurd h
    still_normal (not (not f)) h = absurd h
    still_normal (not (imply f g)) h = absurd h
    still_normal (not (exists vars f)) h = absurd h
    still_normal (not (forall vars f)) h = absurd h
    still_normal (not (Compare r a b)) h = absurd h
    still_normal (Atom name ts) h = atom_is IsNormal normal_shape oracle name ts tt
    still_normal (Equal t u) h = equal_is IsNormal normal_shape t u
    still_normal (Compare r a b) h = tt

    conjuncts_normal : {n : _} (fs : Row_of-Formula n) → AreNormal fs → Every IsNormal (all_conjuncts w oracle fs)
    conjuncts_normal end_of-Formula h = tt
    conjuncts_normal (more_of-Formula f fs) h =
        each_of_both IsNormal (conjuncts (simplified w oracle f)) (all_conjuncts w oracle fs)
        (normal_conjuncts (simplified w oracle f) (still_normal f h.0)) (conjuncts_normal fs h.1)

    disjuncts_normal : {n : _} (fs : Row_of-Formula n) → AreNormal fs → Every IsNormal (all_disjuncts w oracle fs)
    disjuncts_normal end_of-Formula h = tt
    disjuncts_normal (more_of-Formula f fs) h =
        each_of_both IsNormal (disjuncts (simplified w oracle f)) (all_disjuncts w oracle fs)
        (normal_disjuncts (simplified w oracle f) (still_normal f h.0)) (disjuncts_normal fs h.1)

  mutual
    unfolding simplified all_conjuncts all_disjuncts IsQuantifierFree AreQuantifierFree

    still_free : (f : Formula) → IsQuantifierFree f → IsQuantifierFree (simplified w oracle f)
    still_free (And' n fs) h = and_is IsQuantifierFree free_shape (all_conjuncts w oracle fs) (conjuncts_free fs h)
    still_free (Or' n fs) h = or_is IsQuantifierFree free_shape (all_disjuncts w oracle fs) (disjuncts_free fs h)
    still_free (not f) h = simple_not_is IsQuantifierFree free_shape (simplified w oracle f) (free_without_not (simplified w oracle f) (still_free f h))
    still_free (imply f g) h = free_imply (simplified w oracle f) (simplified w oracle g) (still_free f h.0) (still_free g h.1)
    still_free (exists vars f) h = absurd h
    still_free (forall vars f) h = absurd h
    still_free (Atom name ts) h = atom_is IsQuantifierFree free_shape oracle name ts tt
    still_free (Equal t u) h = equal_is IsQuantifierFree free_shape t u
    still_free (Compare r a b) h = tt

    conjuncts_free : {n : _} (fs : Row_of-Formula n) → AreQuantifierFree fs → Every IsQuantifierFree (all_conjuncts w oracle fs)
    conjuncts_free end_of-Formula h = tt
    conjuncts_free (more_of-Formula f fs) h =
        each_of_both IsQuantifierFree (conjuncts (simplified w oracle f)) (all_conjuncts w oracle fs)
        (free_conjuncts (simplified w oracle f) (still_free f h.0)) (conjuncts_free fs h.1)

    disjuncts_free : {n : _} (fs : Row_of-Formula n) → AreQuantifierFree fs → Every IsQuantifierFree (all_disjuncts w oracle fs)
    disjuncts_free end_of-Formula h = tt
    disjuncts_free (more_of-Formula f fs) h =
        each_of_both IsQuantifierFree (disjuncts (simplified w oracle f)) (all_disjuncts w oracle fs)
        (free_disjuncts (simplified w oracle f) (still_free f h.0)) (disjuncts_free fs h.1)

pub simplified_is_normal : (w : World) (oracle : Oracle) (f : Formula) → IsNormal f → IsNormal (simplified w oracle f)
simplified_is_normal w oracle f h = still_normal w oracle f h

pub simplified_is_free : (w : World) (oracle : Oracle) (f : Formula) → IsQuantifierFree f → IsQuantifierFree (simplified w oracle f)
simplified_is_free w oracle f h = still_free w oracle f h

-- A formula of objects alone, without quantifiers, has no equality once it is simplified.
use Rattle.std.proofs.Common.{◌≡◌, Bool, true, false, ◌||◌, List, [], ◌++◌, Option, Some, None, IsSomeAnd, refl, ap, sym, ◌∙◌}
use Rattle.std.specs.Prelude.{IsSome}
use Rattle.std.specs.List.{list_any}
use Rattle.up_text.specs.declared.name.Name.{Name}
use Rattle.up_text.specs.Names.{same_name}
use Rattle.up_tree.specs.declared.term.Term.{Term, Var, Object, Fluent'}
use Rattle.up_tree.specs.declared.term.Typed.{Typed}
use Rattle.up_tree.specs.declared.formula.Formula.{Formula, And', Or', Atom, Equal, Compare, Row_of-Formula, end_of-Formula, more_of-Formula, items-the_row-Formula}
use Rattle.up_tree.specs.declared.problem.Function.{Function}
use Rattle.up_tree.specs.declared.problem.Parts.{Parts}
use Rattle.up_tree.specs.Nodes.{not, imply, exists, forall}
use Rattle.up_tree.specs.Objects.{World, function_named}
use Rattle.up_tree.specs.Simplify.{Oracle, is_empty, is_true_formula, is_false_formula, true_formula, false_formula, constant, conjuncts, disjuncts, simple_and, simple_or, simple_not, simple_imply, simplified, all_conjuncts, all_disjuncts}
use Rattle.up_tree.specs.WellFormed.{gives_object, RowFits, IsTerm, IsFormula, AreFormulas}
use Rattle.up_kind.specs.Carried.{anywhere, in_row, is_equal, is_exists, is_forall, gives_an_object}
use Rattle.condition_laws.proofs.Holding.{anywhere-And, anywhere-Or, is_true_formula-true_formula, is_false_formula-false_formula}
use Rattle.condition_laws.proofs.Carrying.{simplified_carry}
use Rattle.step_laws.proofs.Splitting.{find_of}
use Rattle.compiling_laws.proofs.Lists.{false_true, or_false, any_false}

-- ---- terms

module _ (p : Parts) (objects : List Typed) (none : list_any gives_an_object p.functions ≡ false) where
  -- no object function: a term without variables is an object
  pub ground_term : (t : Term) → IsTerm p objects [] t → (o : Name) × (t ≡ Object o)
  unfolding IsTerm
  ground_term (Var v) h = false_true h
  ground_term (Object o) h = (o, refl)
  ground_term (Fluent' f n ts) h = by (function_named p f) refl h
    where
      by : (found : Option Function) → function_named p f ≡ found → IsSomeAnd found (λ d. IsSome (gives_object d.gives) × RowFits p objects [] ts d.args) → (o : Name) × (Fluent' f n ts ≡ Object o)
      by None is h = absurd h
      by (Some d) is h =
          false_true (sym (any_false gives_an_object p.functions d none (find_of (λ (d : Function). d.name) f p.functions d is).0) ∙ h.0)

-- ---- the formula without its equalities

same_objects : Term → Term → Bool
same_objects (Object o) (Object q) = same_name o q
same_objects t u = false

mutual
  plain : Formula → Formula
  plain (And' n fs) = And' n (plain_row fs)
  plain (Or' n fs) = Or' n (plain_row fs)
  plain (not f) = not (plain f)
  plain (imply f g) = imply (plain f) (plain g)
  plain (exists vars f) = exists vars (plain f)
  plain (forall vars f) = forall vars (plain f)
  plain (Atom name ts) = Atom name ts
  plain (Equal t u) = constant (same_objects t u)
  plain (Compare r a b) = Compare r a b

  plain_row : {n : _} → Row_of-Formula n → Row_of-Formula n
  plain_row end_of-Formula = end_of-Formula
  plain_row (more_of-Formula f fs) = more_of-Formula (plain f) (plain_row fs)

no_constant : (b : Bool) → anywhere is_equal (constant b) ≡ false
no_constant true = anywhere-And is_equal []
no_constant false = anywhere-Or is_equal []

neither : (a b : Bool) → a ≡ false → b ≡ false → (a || b) ≡ false
neither false b e h = h
neither true b e h = false_true (sym e)

mutual
  unfolding anywhere in_row plain plain_row

  no_equal : (f : Formula) → anywhere is_equal (plain f) ≡ false
  no_equal (And' n fs) = no_equals fs
  no_equal (Or' n fs) = no_equals fs
  no_equal (not f) = no_equal f
  no_equal (imply f g) = neither _ _ (no_equal f) (no_equal g)
  no_equal (exists vars f) = no_equal f
  no_equal (forall vars f) = no_equal f
  no_equal (Atom name ts) = refl
  no_equal (Equal t u) = no_constant (same_objects t u)
  no_equal (Compare r a b) = refl

  no_equals : {n : _} (fs : Row_of-Formula n) → in_row is_equal (plain_row fs) ≡ false
  no_equals end_of-Formula = refl
  no_equals (more_of-Formula f fs) = neither _ _ (no_equal f) (no_equals fs)

-- ---- it simplifies to the same

module _ (w : World) (oracle : Oracle) where
  simple_always : (f : Formula) → is_true_formula f ≡ true → simplified w oracle f ≡ true_formula
  unfolding simplified all_conjuncts all_disjuncts
  simple_always (And' n fs) is = by fs is
    where
      by : {n : _} (fs : Row_of-Formula n) → is_empty (items-the_row-Formula _ fs) ≡ true → simple_and (all_conjuncts w oracle fs) ≡ true_formula
      by end_of-Formula is = refl
      by (more_of-Formula f fs) is = false_true is
  simple_always (Or' n fs) is = false_true is
  simple_always (not f) is = false_true is
  simple_always (imply f g) is = false_true is
  simple_always (exists vars f) is = false_true is
  simple_always (forall vars f) is = false_true is
  simple_always (Atom name ts) is = false_true is
  simple_always (Equal t u) is = false_true is
  simple_always (Compare r a b) is = false_true is

  simple_never : (f : Formula) → is_false_formula f ≡ true → simplified w oracle f ≡ false_formula
  unfolding simplified all_conjuncts all_disjuncts
  simple_never (Or' n fs) is = by fs is
    where
      by : {n : _} (fs : Row_of-Formula n) → is_empty (items-the_row-Formula _ fs) ≡ true → simple_or (all_disjuncts w oracle fs) ≡ false_formula
      by end_of-Formula is = refl
      by (more_of-Formula f fs) is = false_true is
  simple_never (And' n fs) is = false_true is
  simple_never (not f) is = false_true is
  simple_never (imply f g) is = false_true is
  simple_never (exists vars f) is = false_true is
  simple_never (forall vars f) is = false_true is
  simple_never (Atom name ts) is = false_true is
  simple_never (Equal t u) is = false_true is
  simple_never (Compare r a b) is = false_true is

  simple_constant : (b : Bool) → simplified w oracle (constant b) ≡ constant b
  simple_constant true = simple_always true_formula is_true_formula-true_formula
  simple_constant false = simple_never false_formula is_false_formula-false_formula

module _ (p : Parts) (objects : List Typed) (none : list_any gives_an_object p.functions ≡ false) (w : World) (oracle : Oracle) where
  simple_equality : (t u : Term) → ((o : Name) × (t ≡ Object o)) → ((o : Name) × (u ≡ Object o)) → simplified w oracle (constant (same_objects t u)) ≡ simplified w oracle (Equal t u)
  unfolding simplified same_objects
  simple_equality t u o q =
      (λ i. simplified w oracle (constant (same_objects (o.1 i) (q.1 i)))) ∙ simple_constant w oracle (same_name o.0 q.0)
      ∙ (λ i. simplified w oracle (Equal (sym o.1 i) (sym q.1 i)))

  mutual
    unfolding IsFormula AreFormulas anywhere in_row plain plain_row simplified all_conjuncts all_disjuncts

    simple_plain : (f : Formula) → IsFormula p objects [] f → anywhere is_exists f ≡ false → anywhere is_forall f ≡ false → simplified w oracle (plain f) ≡ simplified w oracle f
    simple_plain (And' n fs) h x y = ap simple_and (plain_conjuncts fs h x y)
    simple_plain (Or' n fs) h x y = ap simple_or (plain_disjuncts fs h x y)
    simple_plain (not f) h x y = ap simple_not (simple_plain f h x y)
    simple_plain (imply f g) h x y =
        let xs = or_false (anywhere is_exists f) (anywhere is_exists g) x in
        let ys = or_false (anywhere is_forall f) (anywhere is_forall g) y in
        λ i. simple_imply (simple_plain f h.0 xs.0 ys.0 i) (simple_plain g h.1 xs.1 ys.1 i)
    simple_plain (exists vars f) h x y = false_true (sym x)
    simple_plain (forall vars f) h x y = false_true (sym y)
    simple_plain (Atom name ts) h x y = refl
    simple_plain (Equal t u) h x y = simple_equality t u (ground_term p objects none t h.0) (ground_term p objects none u h.1)
    simple_plain (Compare r a b) h x y = refl

    plain_conjuncts : {n : _} (fs : Row_of-Formula n) → AreFormulas p objects [] fs → in_row is_exists fs ≡ false → in_row is_forall fs ≡ false
        → all_conjuncts w oracle (plain_row fs) ≡ all_conjuncts w oracle fs
    plain_conjuncts end_of-Formula h x y = refl
    plain_conjuncts (more_of-Formula f fs) h x y =
        let xs = or_false (anywhere is_exists f) (in_row is_exists fs) x in
        let ys = or_false (anywhere is_forall f) (in_row is_forall fs) y in
        λ i. conjuncts (simple_plain f h.0 xs.0 ys.0 i) ++ plain_conjuncts fs h.1 xs.1 ys.1 i

    plain_disjuncts : {n : _} (fs : Row_of-Formula n) → AreFormulas p objects [] fs → in_row is_exists fs ≡ false → in_row is_forall fs ≡ false
        → all_disjuncts w oracle (plain_row fs) ≡ all_disjuncts w oracle fs
    plain_disjuncts end_of-Formula h x y = refl
    plain_disjuncts (more_of-Formula f fs) h x y =
        let xs = or_false (anywhere is_exists f) (in_row is_exists fs) x in
        let ys = or_false (anywhere is_forall f) (in_row is_forall fs) y in
        λ i. disjuncts (simple_plain f h.0 xs.0 ys.0 i) ++ plain_disjuncts fs h.1 xs.1 ys.1 i

  pub none_equal : (f : Formula) → IsFormula p objects [] f → anywhere is_exists f ≡ false → anywhere is_forall f ≡ false → anywhere is_equal (simplified w oracle f) ≡ true → ⊥
  none_equal f h x y e =
      apart (sym (no_equal f) ∙ (simplified_carry w oracle (plain f)).equalities (ap (anywhere is_equal) (simple_plain f h x y) ∙ e))
    where
      apart : false ≡ true → ⊥
      apart e = false_true e

-- What is well-formed stays so.
use Rattle.std.proofs.Common.{Bool, true, false, not as flip, List, [], ◌∷◌, ◌++◌, Option, Some, None, option_and_then, sym, subst}
use Rattle.std.specs.Prelude.{if◌then◌else◌, IfSome, ◌≡◌}
use Rattle.std.specs.List.{list_any}
use Rattle.up_text.specs.declared.name.Name.{Name}
use Rattle.up_text.specs.Names.{same_name}
use Rattle.up_text.specs.Lists.{Every}
use Rattle.up_tree.specs.declared.term.Term.{Term, Var, Object, Fluent'}
use Rattle.up_tree.specs.declared.term.Typed.{Typed}
use Rattle.up_tree.specs.declared.expr.Expr.{Expr}
use Rattle.up_tree.specs.declared.formula.Relation.{Relation}
use Rattle.up_tree.specs.declared.formula.Relation.TheVariants.{Less, LessEqual, Same, GreaterEqual, Greater}
use Rattle.up_tree.specs.declared.formula.Formula.{Formula, And, And', Or, Or', Atom, Equal, Compare, Row_of-Formula, end_of-Formula, more_of-Formula, items-the_row-Formula, items_hidden-the_row-Formula-0}
use Rattle.up_tree.specs.declared.formula.Formula.TheBlock.{hidden-the_row-Formula-0}
use Rattle.up_tree.specs.declared.action.Row.{Row}
use Rattle.up_tree.specs.declared.action.Action.{Action}
use Rattle.up_tree.specs.declared.problem.Parts.{Parts}
use Rattle.up_tree.specs.Nodes.{not, imply, exists, forall}
use Rattle.up_tree.specs.Objects.{World}
use Rattle.up_tree.specs.Normal.{denied, nnf, nnf_not, nnf_all, nnf_not_all, clauses, joined, gathered}
use Rattle.up_tree.specs.Simplify.{Oracle, true_formula, false_formula, constant, conjuncts, disjuncts, is_true_formula, is_false_formula, alone_or, simple_and, simple_or, objects_in, simple_atom, simple_equal, without_not, simple_not, simple_imply, are_inhabited, simple_exists, simple_forall, simplified, all_conjuncts, all_disjuncts, simple_row, simple_action}
use Rattle.up_tree.specs.WellFormed.{AreVariables, IsExpr, IsAtom, IsTerm, IsFormula, AreFormulas, IsRow, IsAction}
use Rattle.semantics_laws.proofs.Lists.{each_as, each_filter_map}
use Rattle.condition_laws.proofs.Clauses.{each_of_both, each_of_pairs, each_clause_of_both}
use Rattle.condition_laws.proofs.Acting.{simple, of_simple}

module _ (p : Parts) (objects : List Typed) where
  abbrev Is : List Typed → Formula → Type 0
  Is scope f = IsFormula p objects scope f

  row_is : (scope : List Typed) {n : _} (fs : Row_of-Formula n) → Every (Is scope) (items-the_row-Formula _ fs) → AreFormulas p objects scope fs
  unfolding AreFormulas
  row_is scope end_of-Formula h = tt
  row_is scope (more_of-Formula f fs) h = (h.0, row_is scope fs h.1)

  items_are : (scope : List Typed) {n : _} (fs : Row_of-Formula n) → AreFormulas p objects scope fs → Every (Is scope) (items-the_row-Formula _ fs)
  unfolding AreFormulas
  items_are scope end_of-Formula h = tt
  items_are scope (more_of-Formula f fs) h = (h.0, items_are scope fs h.1)

  list_is : (scope : List Typed) (fs : List Formula) → Every (Is scope) fs → AreFormulas p objects scope (hidden-the_row-Formula-0 fs)
  list_is scope fs h = row_is scope (hidden-the_row-Formula-0 fs) (subst (Every (Is scope)) (sym (items_hidden-the_row-Formula-0 fs)) h)

  is-And : (scope : List Typed) (fs : List Formula) → Every (Is scope) fs → Is scope (And fs)
  unfolding IsFormula
  is-And scope fs h = list_is scope fs h

  is-Or : (scope : List Typed) (fs : List Formula) → Every (Is scope) fs → Is scope (Or fs)
  unfolding IsFormula
  is-Or scope fs h = list_is scope fs h

  -- ---- normal form

  denied_is : (scope : List Typed) (r : Relation) (a b : Expr) → IsExpr p objects scope a → IsExpr p objects scope b → Is scope (denied r a b)
  unfolding IsFormula
  denied_is scope Less a b h k = (h, k)
  denied_is scope LessEqual a b h k = (h, k)
  denied_is scope GreaterEqual a b h k = (h, k)
  denied_is scope Greater a b h k = (h, k)
  denied_is scope Same a b h k = list_is scope (Compare Less a b ∷ Compare Greater a b ∷ []) ((h, k), ((h, k), tt))

  mutual
    unfolding nnf nnf_not nnf_all nnf_not_all IsFormula AreFormulas

    nnf_is : (scope : List Typed) (f : Formula) → Is scope f → Is scope (nnf f)
    nnf_is scope (And' n fs) h = is-And scope (nnf_all fs) (all_nnf scope fs h)
    nnf_is scope (Or' n fs) h = is-Or scope (nnf_all fs) (all_nnf scope fs h)
    nnf_is scope (not f) h = nnf_not_is scope f h
    nnf_is scope (imply f g) h = is-Or scope (nnf_not f ∷ nnf g ∷ []) (nnf_not_is scope f h.0, (nnf_is scope g h.1, tt))
    nnf_is scope (exists vars f) h = (h.0, nnf_is (vars ++ scope) f h.1)
    nnf_is scope (forall vars f) h = (h.0, nnf_is (vars ++ scope) f h.1)
    nnf_is scope (Atom name ts) h = h
    nnf_is scope (Equal t u) h = h
    nnf_is scope (Compare r a b) h = h

    nnf_not_is : (scope : List Typed) (f : Formula) → Is scope f → Is scope (nnf_not f)
    nnf_not_is scope (And' n fs) h = is-Or scope (nnf_not_all fs) (all_nnf_not scope fs h)
    nnf_not_is scope (Or' n fs) h = is-And scope (nnf_not_all fs) (all_nnf_not scope fs h)
    nnf_not_is scope (not f) h = nnf_is scope f h
    nnf_not_is scope (imply f g) h = is-And scope (nnf f ∷ nnf_not g ∷ []) (nnf_is scope f h.0, (nnf_not_is scope g h.1, tt))
    nnf_not_is scope (exists vars f) h = (h.0, nnf_not_is (vars ++ scope) f h.1)
    nnf_not_is scope (forall vars f) h = (h.0, nnf_not_is (vars ++ scope) f h.1)
    nnf_not_is scope (Atom name ts) h = h
    nnf_not_is scope (Equal t u) h = h
    nnf_not_is scope (Compare r a b) h = denied_is scope r a b h.0 h.1

    all_nnf : (scope : List Typed) {n : _} (fs : Row_of-Formula n) → AreFormulas p objects scope fs → Every (Is scope) (nnf_all fs)
    all_nnf scope end_of-Formula h = tt
    all_nnf scope (more_of-Formula f fs) h = (nnf_is scope f h.0, all_nnf scope fs h.1)

    all_nnf_not : (scope : List Typed) {n : _} (fs : Row_of-Formula n) → AreFormulas p objects scope fs → Every (Is scope) (nnf_not_all fs)
    all_nnf_not scope end_of-Formula h = tt
    all_nnf_not scope (more_of-Formula f fs) h = (nnf_not_is scope f h.0, all_nnf_not scope fs h.1)

  -- ---- clauses

  mutual
    unfolding clauses joined gathered IsFormula AreFormulas

    clauses_are : (scope : List Typed) (f : Formula) → Is scope f → Every (Every (Is scope)) (clauses f)
    clauses_are scope (And' n fs) h = joined_are scope fs h
    clauses_are scope (Or' n fs) h = gathered_are scope fs h
    clauses_are scope (not f) h = ((h, tt), tt)
    clauses_are scope (imply f g) h = ((h, tt), tt)
    clauses_are scope (exists vars f) h = ((h, tt), tt)
    clauses_are scope (forall vars f) h = ((h, tt), tt)
    clauses_are scope (Atom name ts) h = ((h, tt), tt)
    clauses_are scope (Equal t u) h = ((h, tt), tt)
    clauses_are scope (Compare r a b) h = ((h, tt), tt)

    joined_are : (scope : List Typed) {n : _} (fs : Row_of-Formula n) → AreFormulas p objects scope fs → Every (Every (Is scope)) (joined fs)
    joined_are scope end_of-Formula h = (tt, tt)
    joined_are scope (more_of-Formula f fs) h = each_of_pairs (Is scope) (clauses f) (joined fs) (clauses_are scope f h.0) (joined_are scope fs h.1)

    gathered_are : (scope : List Typed) {n : _} (fs : Row_of-Formula n) → AreFormulas p objects scope fs → Every (Every (Is scope)) (gathered fs)
    gathered_are scope end_of-Formula h = tt
    gathered_are scope (more_of-Formula f fs) h = each_clause_of_both (Is scope) (clauses f) (gathered fs) (clauses_are scope f h.0) (gathered_are scope fs h.1)

  -- ---- simplification

  constant_is : (scope : List Typed) (b : Bool) → Is scope (constant b)
  constant_is scope true = is-And scope [] tt
  constant_is scope false = is-Or scope [] tt

  conjuncts_are : (scope : List Typed) (f : Formula) → Is scope f → Every (Is scope) (conjuncts f)
  unfolding IsFormula
  conjuncts_are scope (And' n fs) h = items_are scope fs h
  conjuncts_are scope (Or' n fs) h = (h, tt)
  conjuncts_are scope (not f) h = (h, tt)
  conjuncts_are scope (imply f g) h = (h, tt)
  conjuncts_are scope (exists vars f) h = (h, tt)
  conjuncts_are scope (forall vars f) h = (h, tt)
  conjuncts_are scope (Atom name ts) h = (h, tt)
  conjuncts_are scope (Equal t u) h = (h, tt)
  conjuncts_are scope (Compare r a b) h = (h, tt)

  disjuncts_are : (scope : List Typed) (f : Formula) → Is scope f → Every (Is scope) (disjuncts f)
  unfolding IsFormula
  disjuncts_are scope (Or' n fs) h = items_are scope fs h
  disjuncts_are scope (And' n fs) h = (h, tt)
  disjuncts_are scope (not f) h = (h, tt)
  disjuncts_are scope (imply f g) h = (h, tt)
  disjuncts_are scope (exists vars f) h = (h, tt)
  disjuncts_are scope (forall vars f) h = (h, tt)
  disjuncts_are scope (Atom name ts) h = (h, tt)
  disjuncts_are scope (Equal t u) h = (h, tt)
  disjuncts_are scope (Compare r a b) h = (h, tt)

  alone_is : (scope : List Typed) (join : List Formula → Formula) → ((fs : List Formula) → Every (Is scope) fs → Is scope (join fs)) →
      (fs : List Formula) → Every (Is scope) fs → Is scope (alone_or join fs)
  alone_is scope join joins [] h = joins [] h
  alone_is scope join joins (f ∷ []) h = h.0
  alone_is scope join joins (f ∷ g ∷ fs) h = joins (f ∷ g ∷ fs) h

  either_is : (scope : List Typed) (b : Bool) (f g : Formula) → Is scope f → Is scope g → Is scope (if b then f else g)
  either_is scope true f g h k = h
  either_is scope false f g h k = k

  and_is : (scope : List Typed) (fs : List Formula) → Every (Is scope) fs → Is scope (simple_and fs)
  and_is scope fs h = either_is scope (list_any is_false_formula fs) false_formula (alone_or And fs) (constant_is scope false) (alone_is scope And (is-And scope) fs h)

  or_is : (scope : List Typed) (fs : List Formula) → Every (Is scope) fs → Is scope (simple_or fs)
  or_is scope fs h = either_is scope (list_any is_true_formula fs) true_formula (alone_or Or fs) (constant_is scope true) (alone_is scope Or (is-Or scope) fs h)

  without_not_is : (scope : List Typed) (f : Formula) → Is scope f → Is scope (without_not f)
  unfolding IsFormula
  without_not_is scope (not f) h = h
  without_not_is scope (And' n fs) h = h
  without_not_is scope (Or' n fs) h = h
  without_not_is scope (imply f g) h = h
  without_not_is scope (exists vars f) h = h
  without_not_is scope (forall vars f) h = h
  without_not_is scope (Atom name ts) h = h
  without_not_is scope (Equal t u) h = h
  without_not_is scope (Compare r a b) h = h

  not_is : (scope : List Typed) (f : Formula) → Is scope f → Is scope (simple_not f)
  not_is scope f h =
      either_is scope (is_true_formula f) false_formula (if is_false_formula f then true_formula else without_not f) (constant_is scope false)
      (either_is scope (is_false_formula f) true_formula (without_not f) (constant_is scope true) (without_not_is scope f h))

  is-imply : (scope : List Typed) (f g : Formula) → Is scope f → Is scope g → Is scope (imply f g)
  unfolding IsFormula
  is-imply scope f g h k = (h, k)

  imply_is : (scope : List Typed) (f g : Formula) → Is scope f → Is scope g → Is scope (simple_imply f g)
  imply_is scope f g h k =
      either_is scope (is_true_formula f) g (if is_false_formula f then true_formula else (if is_true_formula g then true_formula else imply f g)) k
      (either_is scope (is_false_formula f) true_formula (if is_true_formula g then true_formula else imply f g) (constant_is scope true)
      (either_is scope (is_true_formula g) true_formula (imply f g) (constant_is scope true) (is-imply scope f g h k)))

  is-exists : (scope vars : List Typed) (f : Formula) → AreVariables p scope vars → Is (vars ++ scope) f → Is scope (exists vars f)
  unfolding IsFormula
  is-exists scope vars f h k = (h, k)

  is-forall : (scope vars : List Typed) (f : Formula) → AreVariables p scope vars → Is (vars ++ scope) f → Is scope (forall vars f)
  unfolding IsFormula
  is-forall scope vars f h k = (h, k)

  exists_is : (scope : List Typed) (w : World) (vars : List Typed) (f : Formula) → AreVariables p scope vars → Is (vars ++ scope) f → Is scope (simple_exists w vars f)
  exists_is scope w vars f h k =
      either_is scope (is_false_formula f) false_formula (if is_true_formula f then constant (are_inhabited w vars) else exists vars f) (constant_is scope false)
      (either_is scope (is_true_formula f) (constant (are_inhabited w vars)) (exists vars f) (constant_is scope (are_inhabited w vars)) (is-exists scope vars f h k))

  forall_is : (scope : List Typed) (w : World) (vars : List Typed) (f : Formula) → AreVariables p scope vars → Is (vars ++ scope) f → Is scope (simple_forall w vars f)
  forall_is scope w vars f h k =
      either_is scope (is_true_formula f) true_formula (if is_false_formula f then constant (flip (are_inhabited w vars)) else forall vars f) (constant_is scope true)
      (either_is scope (is_false_formula f) (constant (flip (are_inhabited w vars))) (forall vars f) (constant_is scope (flip (are_inhabited w vars))) (is-forall scope vars f h k))

  told_atom : Name → List Term → Option Bool → Formula
  told_atom name ts (Some b) = constant b
  told_atom name ts None = Atom name ts

  told_is : (scope : List Typed) (name : Name) (ts : List Term) → IsAtom p objects scope name ts → (b : Option Bool) → Is scope (told_atom name ts b)
  unfolding told_atom IsFormula
  told_is scope name ts h (Some b) = constant_is scope b
  told_is scope name ts h None = h

  atom_is : (scope : List Typed) (oracle : Oracle) (name : Name) (ts : List Term) → IsAtom p objects scope name ts → Is scope (simple_atom oracle name ts)
  unfolding told_atom
  atom_is scope oracle name ts h = told_is scope name ts h (option_and_then (λ args. oracle (record { predicate = name; args = args })) (objects_in ts))

  equal_is : (scope : List Typed) (t u : Term) → IsTerm p objects scope t → IsTerm p objects scope u → Is scope (simple_equal t u)
  unfolding IsFormula
  equal_is scope (Var v) (Var x) h k = either_is scope (same_name v x) true_formula (Equal (Var v) (Var x)) (constant_is scope true) (h, k)
  equal_is scope (Object o) (Object q) h k = constant_is scope (same_name o q)
  equal_is scope (Var v) (Object q) h k = (h, k)
  equal_is scope (Var v) (Fluent' g n us) h k = (h, k)
  equal_is scope (Object o) (Var x) h k = (h, k)
  equal_is scope (Object o) (Fluent' g n us) h k = (h, k)
  equal_is scope (Fluent' f n ts) u h k = (h, k)

  module _ (w : World) (oracle : Oracle) where
    mutual
      unfolding simplified all_conjuncts all_disjuncts IsFormula AreFormulas

      simplified_is : (scope : List Typed) (f : Formula) → Is scope f → Is scope (simplified w oracle f)
      simplified_is scope (And' n fs) h = and_is scope (all_conjuncts w oracle fs) (all_conjuncts_are scope fs h)
      simplified_is scope (Or' n fs) h = or_is scope (all_disjuncts w oracle fs) (all_disjuncts_are scope fs h)
      simplified_is scope (not f) h = not_is scope (simplified w oracle f) (simplified_is scope f h)
      simplified_is scope (imply f g) h = imply_is scope (simplified w oracle f) (simplified w oracle g) (simplified_is scope f h.0) (simplified_is scope g h.1)
      simplified_is scope (exists vars f) h = exists_is scope w vars (simplified w oracle f) h.0 (simplified_is (vars ++ scope) f h.1)
      simplified_is scope (forall vars f) h = forall_is scope w vars (simplified w oracle f) h.0 (simplified_is (vars ++ scope) f h.1)
      simplified_is scope (Atom name ts) h = atom_is scope oracle name ts h
      simplified_is scope (Equal t u) h = equal_is scope t u h.0 h.1
      simplified_is scope (Compare r a b) h = h

      all_conjuncts_are : (scope : List Typed) {n : _} (fs : Row_of-Formula n) → AreFormulas p objects scope fs → Every (Is scope) (all_conjuncts w oracle fs)
      all_conjuncts_are scope end_of-Formula h = tt
      all_conjuncts_are scope (more_of-Formula f fs) h =
          each_of_both (Is scope) (conjuncts (simplified w oracle f)) (all_conjuncts w oracle fs)
          (conjuncts_are scope (simplified w oracle f) (simplified_is scope f h.0)) (all_conjuncts_are scope fs h.1)

      all_disjuncts_are : (scope : List Typed) {n : _} (fs : Row_of-Formula n) → AreFormulas p objects scope fs → Every (Is scope) (all_disjuncts w oracle fs)
      all_disjuncts_are scope end_of-Formula h = tt
      all_disjuncts_are scope (more_of-Formula f fs) h =
          each_of_both (Is scope) (disjuncts (simplified w oracle f)) (all_disjuncts w oracle fs)
          (disjuncts_are scope (simplified w oracle f) (simplified_is scope f h.0)) (all_disjuncts_are scope fs h.1)

-- ---- actions

row_stays : (p : Parts) (objects scope : List Typed) (w : World) (oracle : Oracle) (row : Row) → IsRow p objects scope row → IfSome (simple_row w oracle row) (IsRow p objects scope)
row_stays p objects scope w oracle row h = by (is_false_formula (simplified w oracle row.when))
  where
    simple_one : Row
    simple_one = record { vars = row.vars; when = simplified w oracle row.when; effect = row.effect }

    is : IsRow p objects scope simple_one
    is = record { vars = h.vars; when = simplified_is p objects w oracle (row.vars ++ scope) row.when h.when; effect = h.effect }

    by : (b : Bool) → IfSome (if b then None else Some simple_one) (IsRow p objects scope)
    by true = tt
    by false = is

simple_is : (p : Parts) (a : Action) → IsAction p a → (w : World) (oracle : Oracle) → IsAction p (simple w oracle a)
simple_is p a h w oracle = record {
  params = h.params;
  pre = simplified_is p _ w oracle a.params a.pre h.pre;
  rows = each_filter_map (IsRow p _ a.params) (simple_row w oracle) a.rows (each_as (IsRow p _ a.params) _ (λ row k. row_stays p _ a.params w oracle row k) a.rows h.rows);
}

-- ---- the laws

pub normal_is_formed : (p : Parts) (objects scope : List Typed) (f : Formula) → IsFormula p objects scope f →
    IsFormula p objects scope (nnf f) × IsFormula p objects scope (nnf_not f)
normal_is_formed p objects scope f h = (nnf_is p objects scope f h, nnf_not_is p objects scope f h)

pub clauses_are_formed : (p : Parts) (objects scope : List Typed) (f : Formula) → IsFormula p objects scope f →
    Every (λ clause. Every (IsFormula p objects scope) clause) (clauses f)
clauses_are_formed p objects scope f h = clauses_are p objects scope f h

pub simplified_is_formed : (p : Parts) (objects scope : List Typed) (f : Formula) → IsFormula p objects scope f →
    (w : World) (oracle : Oracle) → IsFormula p objects scope (simplified w oracle f)
simplified_is_formed p objects scope f h w oracle = simplified_is p objects w oracle scope f h

pub simple_action_is_formed : (p : Parts) (a b : Action) → IsAction p a → (w : World) (oracle : Oracle) → simple_action w oracle a ≡ Some b → IsAction p b
simple_action_is_formed p a b is w oracle h = subst (IsAction p) (of_simple w oracle a b h) (simple_is p a is w oracle)

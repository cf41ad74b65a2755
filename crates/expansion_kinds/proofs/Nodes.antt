-- Substitution keeps the nodes of formulas, and what is asked of rows.
use Rattle.std.proofs.Common.{◌≡◌, Bool, false, ◌||◌, List, [], ◌∷◌, map, Option, Some, None, refl}
use Rattle.std.specs.List.{list_any}
use Rattle.up_text.specs.declared.name.Name.{Name}
use Rattle.up_tree.specs.declared.term.Term.{Term, Var, Object, Fluent'}
use Rattle.up_tree.specs.declared.expr.Expr.{Expr, Number, Fluent}
use Rattle.up_tree.specs.declared.action.Effect.{Effect}
use Rattle.up_tree.specs.declared.action.Effect.TheVariants as effect
use Rattle.up_tree.specs.declared.formula.Formula.{Formula, And', Or', Atom, Equal, Compare, Row_of-Formula, end_of-Formula, more_of-Formula, items-the_row-Formula}
use Rattle.up_tree.specs.Nodes.{not, imply, exists, forall, sum, difference, product, quotient}
use Rattle.up_tree.specs.Simplify.{is_empty, is_true_formula}
use Rattle.up_kind.specs.Carried.{anywhere, in_row, is_not, is_disjunctive, is_equal, is_exists, is_forall, is_compare, is_numeric, is_scale, is_undefine, is_fluent, has_fluent, touches_objects}
use Rattle.semantics_laws.specs.Replaced.{Replacement, under, in_place, replaced_term, replaced_expr, replaced, replaced_members}
use Rattle.expansion_laws.specs.Substituted.{replaced_effect}
use Rattle.expansion_kinds.specs.Kept.{HasSameNodes, IsSameRow}
use Rattle.up_tree.specs.declared.action.Row.{Row}

-- a test that asks for the node alone
abbrev Keeps : (Formula → Bool) → Type 0
Keeps t = (r : Replacement) (f : Formula) → t (replaced r f) ≡ t f

module _ (t : Formula → Bool) (keeps : Keeps t) where
  mutual
    unfolding anywhere in_row replaced replaced_members

    same_anywhere : (r : Replacement) (f : Formula) → anywhere t (replaced r f) ≡ anywhere t f
    same_anywhere r (And' n fs) = λ i. keeps r (And' n fs) i || same_in r fs i
    same_anywhere r (Or' n fs) = λ i. keeps r (Or' n fs) i || same_in r fs i
    same_anywhere r (not f) = λ i. keeps r (not f) i || same_anywhere r f i
    same_anywhere r (imply f g) = λ i. keeps r (imply f g) i || (same_anywhere r f i || same_anywhere r g i)
    same_anywhere r (exists vars f) = λ i. keeps r (exists vars f) i || same_anywhere (under vars r) f i
    same_anywhere r (forall vars f) = λ i. keeps r (forall vars f) i || same_anywhere (under vars r) f i
    same_anywhere r (Atom name ts) = keeps r (Atom name ts)
    same_anywhere r (Equal a b) = keeps r (Equal a b)
    same_anywhere r (Compare relation a b) = keeps r (Compare relation a b)

    same_in : (r : Replacement) {n : _} (fs : Row_of-Formula n) → in_row t (replaced_members r fs) ≡ in_row t fs
    same_in r end_of-Formula = refl
    same_in r (more_of-Formula f fs) = λ i. same_anywhere r f i || same_in r fs i

not_keeps : Keeps is_not
unfolding replaced
not_keeps r (And' n fs) = refl
not_keeps r (Or' n fs) = refl
not_keeps r (not f) = refl
not_keeps r (imply f g) = refl
not_keeps r (exists vars f) = refl
not_keeps r (forall vars f) = refl
not_keeps r (Atom name ts) = refl
not_keeps r (Equal a b) = refl
not_keeps r (Compare relation a b) = refl

equal_keeps : Keeps is_equal
unfolding replaced
equal_keeps r (And' n fs) = refl
equal_keeps r (Or' n fs) = refl
equal_keeps r (not f) = refl
equal_keeps r (imply f g) = refl
equal_keeps r (exists vars f) = refl
equal_keeps r (forall vars f) = refl
equal_keeps r (Atom name ts) = refl
equal_keeps r (Equal a b) = refl
equal_keeps r (Compare relation a b) = refl

exists_keeps : Keeps is_exists
unfolding replaced
exists_keeps r (And' n fs) = refl
exists_keeps r (Or' n fs) = refl
exists_keeps r (not f) = refl
exists_keeps r (imply f g) = refl
exists_keeps r (exists vars f) = refl
exists_keeps r (forall vars f) = refl
exists_keeps r (Atom name ts) = refl
exists_keeps r (Equal a b) = refl
exists_keeps r (Compare relation a b) = refl

forall_keeps : Keeps is_forall
unfolding replaced
forall_keeps r (And' n fs) = refl
forall_keeps r (Or' n fs) = refl
forall_keeps r (not f) = refl
forall_keeps r (imply f g) = refl
forall_keeps r (exists vars f) = refl
forall_keeps r (forall vars f) = refl
forall_keeps r (Atom name ts) = refl
forall_keeps r (Equal a b) = refl
forall_keeps r (Compare relation a b) = refl

compare_keeps : Keeps is_compare
unfolding replaced
compare_keeps r (And' n fs) = refl
compare_keeps r (Or' n fs) = refl
compare_keeps r (not f) = refl
compare_keeps r (imply f g) = refl
compare_keeps r (exists vars f) = refl
compare_keeps r (forall vars f) = refl
compare_keeps r (Atom name ts) = refl
compare_keeps r (Equal a b) = refl
compare_keeps r (Compare relation a b) = refl

under_not : (r : Replacement) (f : Formula) → is_disjunctive (not (replaced r f)) ≡ is_disjunctive (not f)
unfolding replaced
under_not r (And' n fs) = refl
under_not r (Or' n fs) = refl
under_not r (not f) = refl
under_not r (imply f g) = refl
under_not r (exists vars f) = refl
under_not r (forall vars f) = refl
under_not r (Atom name ts) = refl
under_not r (Equal a b) = refl
under_not r (Compare relation a b) = refl

disjunctive_keeps : Keeps is_disjunctive
unfolding replaced
disjunctive_keeps r (And' n fs) = refl
disjunctive_keeps r (Or' n fs) = refl
disjunctive_keeps r (not f) = under_not r f
disjunctive_keeps r (imply f g) = refl
disjunctive_keeps r (exists vars f) = refl
disjunctive_keeps r (forall vars f) = refl
disjunctive_keeps r (Atom name ts) = refl
disjunctive_keeps r (Equal a b) = refl
disjunctive_keeps r (Compare relation a b) = refl

pub formulas_keep_nodes : (r : Replacement) (f : Formula) → HasSameNodes r f
formulas_keep_nodes r f = record {
  negative = same_anywhere is_not not_keeps r f;
  disjunctive = same_anywhere is_disjunctive disjunctive_keeps r f;
  equality = same_anywhere is_equal equal_keeps r f;
  existential = same_anywhere is_exists exists_keeps r f;
  universal = same_anywhere is_forall forall_keeps r f;
  numeric = same_anywhere is_compare compare_keeps r f;
}

-- ---- rows

same_always : (r : Replacement) (f : Formula) → is_true_formula (replaced r f) ≡ is_true_formula f
unfolding replaced replaced_members
same_always r (And' n fs) = by fs
  where
    by : {n : _} (fs : Row_of-Formula n) → is_empty (items-the_row-Formula _ (replaced_members r fs)) ≡ is_empty (items-the_row-Formula _ fs)
    by end_of-Formula = refl
    by (more_of-Formula f fs) = refl
same_always r (Or' n fs) = refl
same_always r (not f) = refl
same_always r (imply f g) = refl
same_always r (exists vars f) = refl
same_always r (forall vars f) = refl
same_always r (Atom name ts) = refl
same_always r (Equal a b) = refl
same_always r (Compare relation a b) = refl

same_fluent : (r : Replacement) (t : Term) → is_fluent (replaced_term r t) ≡ is_fluent t
unfolding replaced_term
same_fluent r (Var v) = by (r v)
  where
    by : (o : Option Name) → is_fluent (in_place v o) ≡ false
    by None = refl
    by (Some o) = refl
same_fluent r (Object o) = refl
same_fluent r (Fluent' f n ts) = refl

same_fluents : (r : Replacement) (ts : List Term) → list_any is_fluent (map (replaced_term r) ts) ≡ list_any is_fluent ts
same_fluents r [] = refl
same_fluents r (t ∷ ts) = λ i. same_fluent r t i || same_fluents r ts i

same_has : (r : Replacement) (x : Expr) → has_fluent (replaced_expr r x) ≡ has_fluent x
unfolding has_fluent replaced_expr
same_has r (Number n) = refl
same_has r (Fluent f ts) = same_fluents r ts
same_has r (sum a b) = λ i. same_has r a i || same_has r b i
same_has r (difference a b) = λ i. same_has r a i || same_has r b i
same_has r (product a b) = λ i. same_has r a i || same_has r b i
same_has r (quotient a b) = λ i. same_has r a i || same_has r b i

same_touching : (r : Replacement) (x : Effect) → touches_objects (replaced_effect r x) ≡ touches_objects x
same_touching r (effect.Add name ts) = same_fluents r ts
same_touching r (effect.Delete name ts) = same_fluents r ts
same_touching r (effect.Number change f ts x) = λ i. same_fluents r ts i || same_has r x i
same_touching r (effect.Object f ts t) = refl
same_touching r (effect.Undefine f ts) = refl

same_numeric : (r : Replacement) (x : Effect) → is_numeric (replaced_effect r x) ≡ is_numeric x
same_numeric r (effect.Add name ts) = refl
same_numeric r (effect.Delete name ts) = refl
same_numeric r (effect.Number change f ts x) = refl
same_numeric r (effect.Object f ts t) = refl
same_numeric r (effect.Undefine f ts) = refl

same_scaling : (r : Replacement) (x : Effect) → is_scale (replaced_effect r x) ≡ is_scale x
same_scaling r (effect.Add name ts) = refl
same_scaling r (effect.Delete name ts) = refl
same_scaling r (effect.Number change f ts x) = refl
same_scaling r (effect.Object f ts t) = refl
same_scaling r (effect.Undefine f ts) = refl

same_undefining : (r : Replacement) (x : Effect) → is_undefine (replaced_effect r x) ≡ is_undefine x
same_undefining r (effect.Add name ts) = refl
same_undefining r (effect.Delete name ts) = refl
same_undefining r (effect.Number change f ts x) = refl
same_undefining r (effect.Object f ts t) = refl
same_undefining r (effect.Undefine f ts) = refl

pub rows_stay_same : (r : Replacement) (row : Row) → IsSameRow r row
rows_stay_same r row = record {
  conditional = same_always (under row.vars r) row.when;
  numeric = same_numeric (under row.vars r) row.effect;
  scaling = same_scaling (under row.vars r) row.effect;
  undefining = same_undefining (under row.vars r) row.effect;
  touching = same_touching (under row.vars r) row.effect;
}

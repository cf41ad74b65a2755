-- What is well-formed names predicates that are declared.
use Rattle.std.proofs.Common.{◌≡◌, List, [], ◌∷◌, ◌++◌, sym, subst, inl, inr}
use Rattle.up_text.specs.declared.name.Name.{Name}
use Rattle.up_text.specs.Lists.{Every, Somewhere, Member}
use Rattle.up_tree.specs.declared.term.Term.{Term, Var, Object, Fluent', Row_of-Term, end_of-Term, more_of-Term}
use Rattle.up_tree.specs.declared.term.Typed.{Typed}
use Rattle.up_tree.specs.declared.expr.Expr.{Expr, Number, Fluent}
use Rattle.up_tree.specs.declared.formula.Formula.{Formula, And', Or', Atom, Equal, Compare, Row_of-Formula, end_of-Formula, more_of-Formula}
use Rattle.up_tree.specs.declared.action.Action.{Action}
use Rattle.up_tree.specs.declared.action.Effect.{Effect}
use Rattle.up_tree.specs.declared.action.Effect.TheVariants as effect
use Rattle.up_tree.specs.declared.action.Row.{Row}
use Rattle.up_tree.specs.declared.problem.Parts.{Parts}
use Rattle.up_tree.specs.Nodes.{sum, difference, product, quotient, not, imply, exists, forall}
use Rattle.up_tree.specs.WellFormed.{IsFormula, AreFormulas, IsEffect, IsRow, IsAction}
use Rattle.semantics_laws.specs.Symbols.{predicate, function, TermNames, ArgumentsName, TermsName, ExprNames, FormulaNames, MembersName, EffectNames, RowNames, ActionNames}
use Rattle.finishing_laws.proofs.Unreached.{predicates_of, found_among}
use Rattle.trajectory_laws.proofs.Watching.{one_predicate}

no_function : (n f : Name) → predicate n ≡ function f → ⊥
no_function n f e = cc

mutual
  unfolding TermNames ArgumentsName

  term_not : (n : Name) (t : Term) → ¬ TermNames t (predicate n)
  term_not n (Var v) h = h
  term_not n (Object o) h = h
  term_not n (Fluent' f k ts) (inl e) = no_function n f e
  term_not n (Fluent' f k ts) (inr h) = row_not n ts h

  row_not : (n : Name) {k : _} (ts : Row_of-Term k) → ¬ ArgumentsName ts (predicate n)
  row_not n end_of-Term h = h
  row_not n (more_of-Term t ts) (inl h) = term_not n t h
  row_not n (more_of-Term t ts) (inr h) = row_not n ts h

terms_not : (n : Name) (ts : List Term) → ¬ TermsName ts (predicate n)
terms_not n [] h = h
terms_not n (t ∷ ts) (inl h) = term_not n t h
terms_not n (t ∷ ts) (inr h) = terms_not n ts h

pub expr_not : (n : Name) (x : Expr) → ¬ ExprNames x (predicate n)
unfolding ExprNames
expr_not n (Number k) h = h
expr_not n (Fluent f ts) (inl e) = no_function n f e
expr_not n (Fluent f ts) (inr h) = terms_not n ts h
expr_not n (sum a b) (inl h) = expr_not n a h
expr_not n (sum a b) (inr h) = expr_not n b h
expr_not n (difference a b) (inl h) = expr_not n a h
expr_not n (difference a b) (inr h) = expr_not n b h
expr_not n (product a b) (inl h) = expr_not n a h
expr_not n (product a b) (inr h) = expr_not n b h
expr_not n (quotient a b) (inl h) = expr_not n a h
expr_not n (quotient a b) (inr h) = expr_not n b h

module _ (p : Parts) (objects : List Typed) (n : Name) where
  mutual
    unfolding IsFormula AreFormulas FormulaNames MembersName

    pub formula_declared : (scope : List Typed) (f : Formula) → IsFormula p objects scope f → FormulaNames f (predicate n) → Member n (predicates_of p)
    formula_declared scope (And' k fs) is h = formulas_declared scope fs is h
    formula_declared scope (Or' k fs) is h = formulas_declared scope fs is h
    formula_declared scope (not f) is h = formula_declared scope f is h
    formula_declared scope (imply f g) is (inl h) = formula_declared scope f is.0 h
    formula_declared scope (imply f g) is (inr h) = formula_declared scope g is.1 h
    formula_declared scope (exists vars f) is h = formula_declared (vars ++ scope) f is.1 h
    formula_declared scope (forall vars f) is h = formula_declared (vars ++ scope) f is.1 h
    formula_declared scope (Atom name ts) is (inl e) = subst (λ m. Member m (predicates_of p)) (sym (one_predicate n name e)) (found_among _ p.predicates name is)
    formula_declared scope (Atom name ts) is (inr h) = absurd (terms_not n ts h)
    formula_declared scope (Equal t u) is (inl h) = absurd (term_not n t h)
    formula_declared scope (Equal t u) is (inr h) = absurd (term_not n u h)
    formula_declared scope (Compare r a b) is (inl h) = absurd (expr_not n a h)
    formula_declared scope (Compare r a b) is (inr h) = absurd (expr_not n b h)

    formulas_declared : (scope : List Typed) {k : _} (fs : Row_of-Formula k) → AreFormulas p objects scope fs → MembersName fs (predicate n) → Member n (predicates_of p)
    formulas_declared scope end_of-Formula is h = absurd h
    formulas_declared scope (more_of-Formula f fs) is (inl h) = formula_declared scope f is.0 h
    formulas_declared scope (more_of-Formula f fs) is (inr h) = formulas_declared scope fs is.1 h

  effect_declared : (scope : List Typed) (x : Effect) → IsEffect p objects scope x → EffectNames x (predicate n) → Member n (predicates_of p)
  effect_declared scope (effect.Add name ts) is (inl e) = subst (λ m. Member m (predicates_of p)) (sym (one_predicate n name e)) (found_among _ p.predicates name is)
  effect_declared scope (effect.Add name ts) is (inr h) = absurd (terms_not n ts h)
  effect_declared scope (effect.Delete name ts) is (inl e) = subst (λ m. Member m (predicates_of p)) (sym (one_predicate n name e)) (found_among _ p.predicates name is)
  effect_declared scope (effect.Delete name ts) is (inr h) = absurd (terms_not n ts h)
  effect_declared scope (effect.Number change f ts x) is (inl e) = absurd (no_function n f e)
  effect_declared scope (effect.Number change f ts x) is (inr (inl h)) = absurd (terms_not n ts h)
  effect_declared scope (effect.Number change f ts x) is (inr (inr h)) = absurd (expr_not n x h)
  effect_declared scope (effect.Object f ts t) is (inl e) = absurd (no_function n f e)
  effect_declared scope (effect.Object f ts t) is (inr (inl h)) = absurd (terms_not n ts h)
  effect_declared scope (effect.Object f ts t) is (inr (inr h)) = absurd (term_not n t h)
  effect_declared scope (effect.Undefine f ts) is (inl e) = absurd (no_function n f e)
  effect_declared scope (effect.Undefine f ts) is (inr h) = absurd (terms_not n ts h)

  rows_declared : (scope : List Typed) (rows : List Row) → Every (IsRow p objects scope) rows → Somewhere (λ row. RowNames row (predicate n)) rows → Member n (predicates_of p)
  rows_declared scope [] each h = absurd h
  rows_declared scope (r ∷ rows) each (inl (inl h)) = formula_declared (r.vars ++ scope) r.when each.0.when h
  rows_declared scope (r ∷ rows) each (inl (inr h)) = effect_declared (r.vars ++ scope) r.effect each.0.effect h
  rows_declared scope (r ∷ rows) each (inr h) = rows_declared scope rows each.1 h

pub action_declared : (p : Parts) (n : Name) (a : Action) → IsAction p a → ActionNames a (predicate n) → Member n (predicates_of p)
action_declared p n a is (inl h) = formula_declared p _ n a.params a.pre is.pre h
action_declared p n a is (inr h) = rows_declared p _ n a.params a.rows is.rows h

-- What is well-formed names declared predicates alone.
use Rattle.std.proofs.Common.{◌≡◌, ◌⊎◌, List, [], ◌∷◌, ◌++◌, ap, sym, subst, inl, inr}
use Rattle.up_text.specs.declared.name.Name.{Name}
use Rattle.up_text.specs.Lists.{Every, Somewhere, Member}
use Rattle.up_tree.specs.declared.term.Term.{Term, Var, Object, Fluent', Row_of-Term, end_of-Term, more_of-Term}
use Rattle.up_tree.specs.declared.term.Typed.{Typed}
use Rattle.up_tree.specs.declared.expr.Expr.{Expr, Number, Fluent}
use Rattle.up_tree.specs.declared.formula.Formula.{Formula, And', Or', Atom, Equal, Compare, Row_of-Formula, end_of-Formula, more_of-Formula}
use Rattle.up_tree.specs.declared.action.Action.{Action}
use Rattle.up_tree.specs.declared.action.Effect.{Effect}
use Rattle.up_tree.specs.declared.action.Effect.TheVariants as effect
use Rattle.up_tree.specs.declared.action.Row.{Row}
use Rattle.up_tree.specs.declared.problem.Parts.{Parts}
use Rattle.up_tree.specs.Nodes.{not, imply, exists, forall, sum, difference, product, quotient}
use Rattle.up_tree.specs.WellFormed.{IsAtom, IsFormula, AreFormulas, IsEffect, IsRow, IsAction}
use Rattle.semantics_laws.specs.Symbols.{Symbol, predicate, function, TermNames, ArgumentsName, TermsName, ExprNames, FormulaNames, MembersName, EffectNames, RowNames, ActionNames}
use Rattle.finishing_laws.proofs.Unreached.{predicates_of, found_among}

-- ---- symbols

name_in : Symbol → Name → Name
name_in (predicate n) d = n
name_in s d = d

pub same_predicate : (n m : Name) → predicate n ≡ predicate m → n ≡ m
unfolding name_in
same_predicate n m e = ap (λ s. name_in s n) e

pub never_function : {X : Type 0} (n f : Name) → predicate n ≡ function f → X
never_function n f e = absurd (apart e)
  where
    apart : predicate n ≡ function f → ⊥
    apart e = cc

-- ---- terms and expressions name functions alone

mutual
  unfolding TermNames ArgumentsName

  term_names : {X : Type 0} (n : Name) (t : Term) → TermNames t (predicate n) → X
  term_names n (Var v) h = absurd h
  term_names n (Object o) h = absurd h
  term_names n (Fluent' f k ts) (inl e) = never_function n f e
  term_names n (Fluent' f k ts) (inr h) = row_names n ts h

  row_names : {X : Type 0} (n : Name) {k : _} (ts : Row_of-Term k) → ArgumentsName ts (predicate n) → X
  row_names n end_of-Term h = absurd h
  row_names n (more_of-Term t ts) (inl h) = term_names n t h
  row_names n (more_of-Term t ts) (inr h) = row_names n ts h

terms_name : {X : Type 0} (n : Name) (ts : List Term) → TermsName ts (predicate n) → X
terms_name n [] h = absurd h
terms_name n (t ∷ ts) (inl h) = term_names n t h
terms_name n (t ∷ ts) (inr h) = terms_name n ts h

pub expr_names : {X : Type 0} (n : Name) (x : Expr) → ExprNames x (predicate n) → X
unfolding ExprNames
expr_names n (Number k) h = absurd h
expr_names n (Fluent f ts) (inl e) = never_function n f e
expr_names n (Fluent f ts) (inr h) = terms_name n ts h
expr_names n (sum a b) (inl h) = expr_names n a h
expr_names n (sum a b) (inr h) = expr_names n b h
expr_names n (difference a b) (inl h) = expr_names n a h
expr_names n (difference a b) (inr h) = expr_names n b h
expr_names n (product a b) (inl h) = expr_names n a h
expr_names n (product a b) (inr h) = expr_names n b h
expr_names n (quotient a b) (inl h) = expr_names n a h
expr_names n (quotient a b) (inr h) = expr_names n b h

-- ---- formulas and actions

module _ (p : Parts) (n : Name) where
  abbrev Declared : Type 0
  Declared = Member n (predicates_of p)

  atom_names : (objects scope : List Typed) (name : Name) (ts : List Term) → IsAtom p objects scope name ts → (predicate n ≡ predicate name) ⊎ TermsName ts (predicate n) → Declared
  atom_names objects scope name ts h (inl e) = subst (λ m. Member m (predicates_of p)) (sym (same_predicate n name e)) (found_among _ p.predicates name h)
  atom_names objects scope name ts h (inr k) = terms_name n ts k

  mutual
    unfolding IsFormula AreFormulas FormulaNames MembersName

    pub formula_names : (objects scope : List Typed) (f : Formula) → IsFormula p objects scope f → FormulaNames f (predicate n) → Declared
    formula_names objects scope (And' k fs) h m = members_name objects scope fs h m
    formula_names objects scope (Or' k fs) h m = members_name objects scope fs h m
    formula_names objects scope (not f) h m = formula_names objects scope f h m
    formula_names objects scope (imply f g) h (inl m) = formula_names objects scope f h.0 m
    formula_names objects scope (imply f g) h (inr m) = formula_names objects scope g h.1 m
    formula_names objects scope (exists vars f) h m = formula_names objects (vars ++ scope) f h.1 m
    formula_names objects scope (forall vars f) h m = formula_names objects (vars ++ scope) f h.1 m
    formula_names objects scope (Atom name ts) h m = atom_names objects scope name ts h m
    formula_names objects scope (Equal t u) h (inl m) = term_names n t m
    formula_names objects scope (Equal t u) h (inr m) = term_names n u m
    formula_names objects scope (Compare r a b) h (inl m) = expr_names n a m
    formula_names objects scope (Compare r a b) h (inr m) = expr_names n b m

    members_name : (objects scope : List Typed) {k : _} (fs : Row_of-Formula k) → AreFormulas p objects scope fs → MembersName fs (predicate n) → Declared
    members_name objects scope end_of-Formula h m = absurd m
    members_name objects scope (more_of-Formula f fs) h (inl m) = formula_names objects scope f h.0 m
    members_name objects scope (more_of-Formula f fs) h (inr m) = members_name objects scope fs h.1 m

  effect_names : (objects scope : List Typed) (x : Effect) → IsEffect p objects scope x → EffectNames x (predicate n) → Declared
  effect_names objects scope (effect.Add name ts) h m = atom_names objects scope name ts h m
  effect_names objects scope (effect.Delete name ts) h m = atom_names objects scope name ts h m
  effect_names objects scope (effect.Number change f ts x) h (inl e) = never_function n f e
  effect_names objects scope (effect.Number change f ts x) h (inr (inl m)) = terms_name n ts m
  effect_names objects scope (effect.Number change f ts x) h (inr (inr m)) = expr_names n x m
  effect_names objects scope (effect.Object f ts t) h (inl e) = never_function n f e
  effect_names objects scope (effect.Object f ts t) h (inr (inl m)) = terms_name n ts m
  effect_names objects scope (effect.Object f ts t) h (inr (inr m)) = term_names n t m
  effect_names objects scope (effect.Undefine f ts) h (inl e) = never_function n f e
  effect_names objects scope (effect.Undefine f ts) h (inr m) = terms_name n ts m

  rows_name : (objects scope : List Typed) (rows : List Row) → Every (IsRow p objects scope) rows → Somewhere (λ row. RowNames row (predicate n)) rows → Declared
  rows_name objects scope [] h m = absurd m
  rows_name objects scope (r ∷ rows) h (inl (inl m)) = formula_names objects (r.vars ++ scope) r.when h.0.when m
  rows_name objects scope (r ∷ rows) h (inl (inr m)) = effect_names objects (r.vars ++ scope) r.effect h.0.effect m
  rows_name objects scope (r ∷ rows) h (inr m) = rows_name objects scope rows h.1 m

  pub action_names : (a : Action) → IsAction p a → ActionNames a (predicate n) → Declared
  action_names a h (inl m) = formula_names _ a.params a.pre h.pre m
  action_names a h (inr m) = rows_name _ a.params a.rows h.rows m

-- What is well-formed in one problem is so in another that has its types, objects and functions, and in which each of its
-- predicates is found. More objects may be named there.
use Rattle.std.proofs.Common.{◌≡◌, ℕ, Bool, true, false, cond, List, [], ◌∷◌, ◌++◌, find, Option, Some, None, IsSome, IsSomeAnd, refl, sym, subst}
use Rattle.up_text.specs.declared.name.Name.{Name}
use Rattle.up_text.specs.Names.{same_name}
use Rattle.up_tree.specs.declared.term.Term.{Term, Var, Object, Fluent', Row_of-Term, end_of-Term, more_of-Term}
use Rattle.up_tree.specs.declared.term.Typed.{Typed}
use Rattle.up_tree.specs.declared.expr.Expr.{Expr, Number, Fluent}
use Rattle.up_tree.specs.declared.formula.Formula.{Formula, And', Or', Atom, Equal, Compare, Row_of-Formula, end_of-Formula, more_of-Formula}
use Rattle.up_tree.specs.declared.action.Effect.{Effect}
use Rattle.up_tree.specs.declared.action.Effect.TheVariants as effect
use Rattle.up_tree.specs.declared.action.Row.{Row}
use Rattle.up_tree.specs.declared.problem.Parts.{Parts}
use Rattle.up_tree.specs.declared.problem.Constraint.{Constraint}
use Rattle.up_tree.specs.declared.problem.Metric.{Metric}
use Rattle.up_tree.specs.declared.problem.Predicate.{Predicate}
use Rattle.up_tree.specs.declared.problem.Fact.{Fact}
use Rattle.up_tree.specs.declared.problem.NumberFact.{NumberFact}
use Rattle.up_tree.specs.declared.problem.ValueFact.{ValueFact}
use Rattle.up_tree.specs.declared.problem.Gives.{Gives}
use Rattle.up_tree.specs.declared.problem.Gives.TheVariants as gives
use Rattle.up_tree.specs.Nodes.{not, imply, exists, forall, sum, difference, product, quotient}
use Rattle.up_tree.specs.Objects.{named, predicate_named, function_named}
use Rattle.up_tree.specs.WellFormed.{IsBelow, AreVariables, gives_object, term_type, IsTerm, RowFits, TermFits, TermsFit, IsAtom, IsNumberTerm, IsExpr, IsFormula, AreFormulas, IsObjectTarget, IsEffect, IsRow, IsFact, ObjectsFit, IsNumberFact, IsValueFact, IsPlain, formulas_of, IsConstraint, OnMetric, OfGives}
use Rattle.semantics_laws.proofs.Lists.{each_as}

-- the same of a value, where there is one
there : {A : Type 0} (P Q : A → Type 0) → ((x : A) → P x → Q x) → (v : Option A) → IsSomeAnd v P → IsSomeAnd v Q
there P Q h (Some x) k = h x k
there P Q h None k = k

-- a predicate that is found among the first is found among the second
abbrev pub AreFound : List Predicate → List Predicate → Type 1
AreFound ds es = (name : Name) (P : Predicate → Type 0) → IsSomeAnd (find (λ d. same_name d.name name) ds) P → IsSomeAnd (find (λ d. same_name d.name name) es) P

-- what is found is found with more behind it
pub found_still : (more ds : List Predicate) → AreFound ds (ds ++ more)
found_still more [] name P h = absurd h
found_still more (d ∷ ds) name P h = by (same_name d.name name) h (found_still more ds name P)
  where
    by : (b : Bool) → IsSomeAnd (cond b (Some d) (find (λ d. same_name d.name name) ds)) P
        → (IsSomeAnd (find (λ d. same_name d.name name) ds) P → IsSomeAnd (find (λ d. same_name d.name name) (ds ++ more)) P)
        → IsSomeAnd (cond b (Some d) (find (λ d. same_name d.name name) (ds ++ more))) P
    by true h later = h
    by false h later = later h

-- what `p` declares, but for these constants and predicates, with all else of `q`
abbrev pub declaring : Parts → Parts → ℕ → List Predicate → Parts
declaring p q constants predicates =
    record q { types = p.types; constants = constants; objects = p.objects; predicates = predicates; functions = p.functions }

module _ (p q : Parts) (constants : ℕ) (predicates : List Predicate) (found : AreFound p.predicates predicates) where
  abbrev r : Parts
  r = declaring p q constants predicates

  type_widens : (scope : List Typed) (t : Term) → term_type r scope t ≡ term_type p scope t
  type_widens scope (Var v) = refl
  type_widens scope (Object o) = refl
  type_widens scope (Fluent' f n ts) = refl

  pub variables_widen : (scope vars : List Typed) → AreVariables p scope vars → AreVariables r scope vars
  variables_widen scope vars h = record { names_all = h.names_all; differ = h.differ; fresh = h.fresh; typed = h.typed }

  below_widens : (scope : List Typed) (t : Term) (of : Name) → IsSomeAnd (term_type p scope t) (λ u. IsBelow p u of) → IsSomeAnd (term_type r scope t) (λ u. IsBelow r u of)
  below_widens scope t of h = subst (λ v. IsSomeAnd v (λ u. IsBelow p u of)) (sym (type_widens scope t)) h

  module _ (objects wider : List Typed) (over : (o : Name) → IsSome (named objects o) → IsSome (named wider o)) where
    mutual
      unfolding IsTerm RowFits

      pub term_widens : (scope : List Typed) (t : Term) → IsTerm p objects scope t → IsTerm r wider scope t
      term_widens scope (Var v) h = h
      term_widens scope (Object o) h = over o h
      term_widens scope (Fluent' f n ts) h = there _ _ (λ d k. (k.0, row_widen scope ts d.args k.1)) (function_named p f) h

      row_widen : (scope : List Typed) {n : _} (ts : Row_of-Term n) (types : List Name) → RowFits p objects scope ts types → RowFits r wider scope ts types
      row_widen scope end_of-Term [] h = tt
      row_widen scope end_of-Term (of ∷ types) h = h
      row_widen scope (more_of-Term t ts) [] h = h
      row_widen scope (more_of-Term t ts) (of ∷ types) h = (term_widens scope t h.0, below_widens scope t of h.1, row_widen scope ts types h.2)

    pub fits_widen : (scope : List Typed) (t : Term) (of : Name) → TermFits p objects scope t of → TermFits r wider scope t of
    fits_widen scope t of h = (term_widens scope t h.0, below_widens scope t of h.1)

    pub terms_widen : (scope : List Typed) (ts : List Term) (types : List Name) → TermsFit p objects scope ts types → TermsFit r wider scope ts types
    terms_widen scope [] [] h = tt
    terms_widen scope [] (of ∷ types) h = h
    terms_widen scope (t ∷ ts) [] h = h
    terms_widen scope (t ∷ ts) (of ∷ types) h = (fits_widen scope t of h.0, terms_widen scope ts types h.1)

    pub atom_widens : (scope : List Typed) (name : Name) (ts : List Term) → IsAtom p objects scope name ts → IsAtom r wider scope name ts
    atom_widens scope name ts h = found name _ (there _ _ (λ d k. terms_widen scope ts d.args k) (predicate_named p name) h)

    number_widens : (scope : List Typed) (f : Name) (ts : List Term) → IsNumberTerm p objects scope f ts → IsNumberTerm r wider scope f ts
    number_widens scope f ts h = there _ _ (λ d k. (k.0, terms_widen scope ts d.args k.1)) (function_named p f) h

    pub expr_widens : (scope : List Typed) (x : Expr) → IsExpr p objects scope x → IsExpr r wider scope x
    unfolding IsExpr
    expr_widens scope (Number n) h = h
    expr_widens scope (Fluent f ts) h = number_widens scope f ts h
    expr_widens scope (sum a b) h = (expr_widens scope a h.0, expr_widens scope b h.1)
    expr_widens scope (difference a b) h = (expr_widens scope a h.0, expr_widens scope b h.1)
    expr_widens scope (product a b) h = (expr_widens scope a h.0, expr_widens scope b h.1)
    expr_widens scope (quotient a b) h = (expr_widens scope a h.0, expr_widens scope b h.1)

    mutual
      unfolding IsFormula AreFormulas

      pub formula_widens : (scope : List Typed) (f : Formula) → IsFormula p objects scope f → IsFormula r wider scope f
      formula_widens scope (And' n fs) h = formulas_widen scope fs h
      formula_widens scope (Or' n fs) h = formulas_widen scope fs h
      formula_widens scope (not f) h = formula_widens scope f h
      formula_widens scope (imply f g) h = (formula_widens scope f h.0, formula_widens scope g h.1)
      formula_widens scope (exists vars f) h = (variables_widen scope vars h.0, formula_widens (vars ++ scope) f h.1)
      formula_widens scope (forall vars f) h = (variables_widen scope vars h.0, formula_widens (vars ++ scope) f h.1)
      formula_widens scope (Atom name ts) h = atom_widens scope name ts h
      formula_widens scope (Equal t u) h = (term_widens scope t h.0, term_widens scope u h.1)
      formula_widens scope (Compare o a b) h = (expr_widens scope a h.0, expr_widens scope b h.1)

      formulas_widen : (scope : List Typed) {n : _} (fs : Row_of-Formula n) → AreFormulas p objects scope fs → AreFormulas r wider scope fs
      formulas_widen scope end_of-Formula h = tt
      formulas_widen scope (more_of-Formula f fs) h = (formula_widens scope f h.0, formulas_widen scope fs h.1)

    target_widens : (scope : List Typed) (f : Name) (ts : List Term) (P Q : Name → Type 0) → ((of : Name) → P of → Q of) →
        IsObjectTarget p objects scope f ts P → IsObjectTarget r wider scope f ts Q
    target_widens scope f ts P Q h k = there _ _ (λ d m. (terms_widen scope ts d.args m.0, there P Q h (gives_object d.gives) m.1)) (function_named p f) k

    pub effect_widens : (scope : List Typed) (e : Effect) → IsEffect p objects scope e → IsEffect r wider scope e
    effect_widens scope (effect.Add name ts) h = atom_widens scope name ts h
    effect_widens scope (effect.Delete name ts) h = atom_widens scope name ts h
    effect_widens scope (effect.Number change f ts x) h = (number_widens scope f ts h.0, expr_widens scope x h.1)
    effect_widens scope (effect.Object f ts t) h = target_widens scope f ts _ _ (λ of k. fits_widen scope t of k) h
    effect_widens scope (effect.Undefine f ts) h = target_widens scope f ts _ _ (λ of k. tt) h

    pub rule_widens : (scope : List Typed) (row : Row) → IsRow p objects scope row → IsRow r wider scope row
    rule_widens scope row h = record {
      vars = variables_widen scope row.vars h.vars;
      when = formula_widens (row.vars ++ scope) row.when h.when;
      effect = effect_widens (row.vars ++ scope) row.effect h.effect;
    }

  pub constraint_widens : (c : Constraint) → IsConstraint p c → IsConstraint r c
  constraint_widens c h = record {
    vars = variables_widen [] c.vars h.vars;
    formulas = each_as (λ f. IsFormula p p.objects c.vars f × IsPlain f) (λ f. IsFormula r p.objects c.vars f × IsPlain f) (λ f k. (formula_widens p.objects p.objects (λ o h. h) c.vars f k.0, k.1)) (formulas_of c.rule) h.formulas;
  }

  pub metric_widens : (m : Option Metric) → OnMetric p m → OnMetric r m
  metric_widens None h = tt
  metric_widens (Some m) h = (expr_widens p.objects p.objects (λ o h. h) [] m.value h.0, h.1)

  pub numbers_widen : (n : NumberFact) → IsNumberFact p n → IsNumberFact r n
  numbers_widen n h = record { literal = h.literal; typed = h.typed }

  pub values_widen : (v : ValueFact) → IsValueFact p v → IsValueFact r v
  values_widen v h = record { typed = h.typed }

  objects_widen : (objects types : List Name) → ObjectsFit p objects types → ObjectsFit r objects types
  objects_widen [] [] h = h
  objects_widen [] (of ∷ types) h = h
  objects_widen (o ∷ objects) [] h = h
  objects_widen (o ∷ objects) (of ∷ types) h = (h.0, objects_widen objects types h.1)

  pub fact_widens : (fact : Fact) → IsFact p fact → IsFact r fact
  fact_widens fact h = found fact.predicate _ (there _ _ (λ d k. objects_widen fact.args d.args k) (predicate_named p fact.predicate) h)

  pub gives_widen : (g : Gives) → OfGives p g → OfGives r g
  gives_widen gives.Number h = h
  gives_widen (gives.Object t) h = h

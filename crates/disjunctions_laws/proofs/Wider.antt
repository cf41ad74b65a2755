-- What is well-formed in a problem is so where further predicates stand behind the old ones, and more objects may be named.
use Rattle.std.proofs.Common.{◌≡◌, ℕ, zero, suc, Bool, true, false, cond, List, [], ◌∷◌, ◌++◌, map, take, find, Option, Some, None, IsSome, IsSomeAnd, refl, ap, sym, subst, inl, inr}
use Rattle.std.specs.Cmp.Lexicographic.{bytes_decides}
use Rattle.up_text.specs.declared.name.Name.{Name}
use Rattle.up_text.specs.Names.{same_name}
use Rattle.up_text.specs.Lists.{Member}
use Rattle.up_tree.specs.declared.term.Term.{Term, Var, Object, Fluent', Row_of-Term, end_of-Term, more_of-Term}
use Rattle.up_tree.specs.declared.term.Typed.{Typed}
use Rattle.up_tree.specs.declared.expr.Expr.{Expr, Number, Fluent}
use Rattle.up_tree.specs.declared.formula.Formula.{Formula, And', Or', Atom, Equal, Compare, Row_of-Formula, end_of-Formula, more_of-Formula}
use Rattle.up_tree.specs.declared.action.Effect.{Effect}
use Rattle.up_tree.specs.declared.action.Effect.TheVariants as effect
use Rattle.up_tree.specs.declared.action.Row.{Row}
use Rattle.up_tree.specs.declared.action.Action.{Action}
use Rattle.up_tree.specs.declared.problem.Parts.{Parts}
use Rattle.up_tree.specs.declared.problem.Constraint.{Constraint}
use Rattle.up_tree.specs.declared.problem.Metric.{Metric}
use Rattle.up_tree.specs.declared.problem.Predicate.{Predicate}
use Rattle.up_tree.specs.declared.problem.Fact.{Fact}
use Rattle.up_tree.specs.declared.problem.NumberFact.{NumberFact}
use Rattle.up_tree.specs.declared.problem.ValueFact.{ValueFact}
use Rattle.up_tree.specs.declared.problem.Gives.{Gives}
use Rattle.up_tree.specs.declared.problem.Gives.TheVariants as gives
use Rattle.up_tree.specs.Nodes.{not, imply, exists, forall, sum, difference, product, quotient}
use Rattle.up_tree.specs.Objects.{named, predicate_named, function_named}
use Rattle.up_tree.specs.WellFormed.{IsBelow, AreVariables, gives_object, term_type, IsTerm, RowFits, TermFits, TermsFit, IsAtom, IsNumberTerm, IsExpr, IsFormula, AreFormulas, IsObjectTarget, IsEffect, IsRow, IsFact, ObjectsFit, IsNumberFact, IsValueFact, IsPlain, formulas_of, IsConstraint, OnMetric, OfGives}
use Rattle.semantics_laws.proofs.Lists.{each_as}
use Rattle.compiling_laws.proofs.Lists.{false_true}

-- what is named among the first objects is named among all
pub named_more : (n : ℕ) (objects : List Typed) (o : Name) → IsSome (named (take n objects) o) → IsSome (named objects o)
named_more zero objects o h = false_true h
named_more (suc n) [] o h = h
named_more (suc n) (x ∷ objects) o h = by (same_name x.name o) h (named_more n objects o)
  where
    by : (b : Bool) → IsSome (cond b (Some x) (named (take n objects) o)) → (IsSome (named (take n objects) o) → IsSome (named objects o)) → IsSome (cond b (Some x) (named objects o))
    by true h later = h
    by false h later = later h

-- the last one is found where none before has its name
pub last_found : (ds : List Predicate) (d : Predicate) → (¬ Member d.name (map (λ (x : Predicate). x.name) ds)) → find (λ x. same_name x.name d.name) (ds ++ d ∷ []) ≡ Some d
last_found [] d new = ap (λ b. cond b (Some d) None) ((bytes_decides d.name d.name).1 refl)
last_found (x ∷ ds) d new = by (same_name x.name d.name) refl (last_found ds d (λ m. new (inr m)))
  where
    by : (b : Bool) → same_name x.name d.name ≡ b → find (λ x. same_name x.name d.name) (ds ++ d ∷ []) ≡ Some d
        → cond b (Some x) (find (λ x. same_name x.name d.name) (ds ++ d ∷ [])) ≡ Some d
    by true is later = absurd (new (inl (sym ((bytes_decides x.name d.name).0 is))))
    by false is later = later

-- the same of a value, where there is one
there : {A : Type 0} (P Q : A → Type 0) → ((x : A) → P x → Q x) → (v : Option A) → IsSomeAnd v P → IsSomeAnd v Q
there P Q h (Some x) k = h x k
there P Q h None k = k

-- what is found is found with more behind it
found_still : (more : List Predicate) (name : Name) (P : Predicate → Type 0) (ds : List Predicate) → IsSomeAnd (find (λ d. same_name d.name name) ds) P
    → IsSomeAnd (find (λ d. same_name d.name name) (ds ++ more)) P
found_still more name P [] h = absurd h
found_still more name P (d ∷ ds) h = by (same_name d.name name) h (found_still more name P ds)
  where
    by : (b : Bool) → IsSomeAnd (cond b (Some d) (find (λ d. same_name d.name name) ds)) P
        → (IsSomeAnd (find (λ d. same_name d.name name) ds) P → IsSomeAnd (find (λ d. same_name d.name name) (ds ++ more)) P)
        → IsSomeAnd (cond b (Some d) (find (λ d. same_name d.name name) (ds ++ more))) P
    by true h later = h
    by false h later = later h

-- `r` has further predicates, other actions and another goal
module _ (p : Parts) (constants : ℕ) (more : List Predicate) (actions : List Action) (goal : Formula) where
  abbrev pub r : Parts
  r = record p { constants = constants; predicates = p.predicates ++ more; actions = actions; goal = goal }

  still_there : (name : Name) (P : Predicate → Type 0) → IsSomeAnd (predicate_named p name) P → IsSomeAnd (predicate_named r name) P
  still_there name P h = found_still more name P p.predicates h

  type_stays : (scope : List Typed) (t : Term) → term_type r scope t ≡ term_type p scope t
  type_stays scope (Var v) = refl
  type_stays scope (Object o) = refl
  type_stays scope (Fluent' f n ts) = refl

  pub variables_stay : (scope vars : List Typed) → AreVariables p scope vars → AreVariables r scope vars
  variables_stay scope vars h = record { names_all = h.names_all; differ = h.differ; fresh = h.fresh; typed = h.typed }

  below_stays : (scope : List Typed) (t : Term) (of : Name) → IsSomeAnd (term_type p scope t) (λ u. IsBelow p u of) → IsSomeAnd (term_type r scope t) (λ u. IsBelow r u of)
  below_stays scope t of h = subst (λ v. IsSomeAnd v (λ u. IsBelow p u of)) (sym (type_stays scope t)) h

  module _ (objects wider : List Typed) (over : (o : Name) → IsSome (named objects o) → IsSome (named wider o)) where
    mutual
      unfolding IsTerm RowFits

      term_stays : (scope : List Typed) (t : Term) → IsTerm p objects scope t → IsTerm r wider scope t
      term_stays scope (Var v) h = h
      term_stays scope (Object o) h = over o h
      term_stays scope (Fluent' f n ts) h = there _ _ (λ d k. (k.0, row_stays scope ts d.args k.1)) (function_named p f) h

      row_stays : (scope : List Typed) {n : _} (ts : Row_of-Term n) (types : List Name) → RowFits p objects scope ts types → RowFits r wider scope ts types
      row_stays scope end_of-Term [] h = tt
      row_stays scope end_of-Term (of ∷ types) h = h
      row_stays scope (more_of-Term t ts) [] h = h
      row_stays scope (more_of-Term t ts) (of ∷ types) h = (term_stays scope t h.0, below_stays scope t of h.1, row_stays scope ts types h.2)

    fits_stay : (scope : List Typed) (t : Term) (of : Name) → TermFits p objects scope t of → TermFits r wider scope t of
    fits_stay scope t of h = (term_stays scope t h.0, below_stays scope t of h.1)

    terms_stay : (scope : List Typed) (ts : List Term) (types : List Name) → TermsFit p objects scope ts types → TermsFit r wider scope ts types
    terms_stay scope [] [] h = tt
    terms_stay scope [] (of ∷ types) h = h
    terms_stay scope (t ∷ ts) [] h = h
    terms_stay scope (t ∷ ts) (of ∷ types) h = (fits_stay scope t of h.0, terms_stay scope ts types h.1)

    pub atom_stays : (scope : List Typed) (name : Name) (ts : List Term) → IsAtom p objects scope name ts → IsAtom r wider scope name ts
    atom_stays scope name ts h = still_there name _ (there _ _ (λ d k. terms_stay scope ts d.args k) (predicate_named p name) h)

    number_stays : (scope : List Typed) (f : Name) (ts : List Term) → IsNumberTerm p objects scope f ts → IsNumberTerm r wider scope f ts
    number_stays scope f ts h = there _ _ (λ d k. (k.0, terms_stay scope ts d.args k.1)) (function_named p f) h

    expr_stays : (scope : List Typed) (x : Expr) → IsExpr p objects scope x → IsExpr r wider scope x
    unfolding IsExpr
    expr_stays scope (Number n) h = h
    expr_stays scope (Fluent f ts) h = number_stays scope f ts h
    expr_stays scope (sum a b) h = (expr_stays scope a h.0, expr_stays scope b h.1)
    expr_stays scope (difference a b) h = (expr_stays scope a h.0, expr_stays scope b h.1)
    expr_stays scope (product a b) h = (expr_stays scope a h.0, expr_stays scope b h.1)
    expr_stays scope (quotient a b) h = (expr_stays scope a h.0, expr_stays scope b h.1)

    mutual
      unfolding IsFormula AreFormulas

      pub formula_stays : (scope : List Typed) (f : Formula) → IsFormula p objects scope f → IsFormula r wider scope f
      formula_stays scope (And' n fs) h = formulas_stay scope fs h
      formula_stays scope (Or' n fs) h = formulas_stay scope fs h
      formula_stays scope (not f) h = formula_stays scope f h
      formula_stays scope (imply f g) h = (formula_stays scope f h.0, formula_stays scope g h.1)
      formula_stays scope (exists vars f) h = (variables_stay scope vars h.0, formula_stays (vars ++ scope) f h.1)
      formula_stays scope (forall vars f) h = (variables_stay scope vars h.0, formula_stays (vars ++ scope) f h.1)
      formula_stays scope (Atom name ts) h = atom_stays scope name ts h
      formula_stays scope (Equal t u) h = (term_stays scope t h.0, term_stays scope u h.1)
      formula_stays scope (Compare o a b) h = (expr_stays scope a h.0, expr_stays scope b h.1)

      formulas_stay : (scope : List Typed) {n : _} (fs : Row_of-Formula n) → AreFormulas p objects scope fs → AreFormulas r wider scope fs
      formulas_stay scope end_of-Formula h = tt
      formulas_stay scope (more_of-Formula f fs) h = (formula_stays scope f h.0, formulas_stay scope fs h.1)

    target_stays : (scope : List Typed) (f : Name) (ts : List Term) (P Q : Name → Type 0) → ((of : Name) → P of → Q of) →
        IsObjectTarget p objects scope f ts P → IsObjectTarget r wider scope f ts Q
    target_stays scope f ts P Q h k = there _ _ (λ d m. (terms_stay scope ts d.args m.0, there P Q h (gives_object d.gives) m.1)) (function_named p f) k

    pub effect_stays : (scope : List Typed) (e : Effect) → IsEffect p objects scope e → IsEffect r wider scope e
    effect_stays scope (effect.Add name ts) h = atom_stays scope name ts h
    effect_stays scope (effect.Delete name ts) h = atom_stays scope name ts h
    effect_stays scope (effect.Number change f ts x) h = (number_stays scope f ts h.0, expr_stays scope x h.1)
    effect_stays scope (effect.Object f ts t) h = target_stays scope f ts _ _ (λ of k. fits_stay scope t of k) h
    effect_stays scope (effect.Undefine f ts) h = target_stays scope f ts _ _ (λ of k. tt) h

    pub rule_stays : (scope : List Typed) (row : Row) → IsRow p objects scope row → IsRow r wider scope row
    rule_stays scope row h = record {
      vars = variables_stay scope row.vars h.vars;
      when = formula_stays (row.vars ++ scope) row.when h.when;
      effect = effect_stays (row.vars ++ scope) row.effect h.effect;
    }

  pub constraint_stays : (c : Constraint) → IsConstraint p c → IsConstraint r c
  constraint_stays c h = record {
    vars = variables_stay [] c.vars h.vars;
    formulas = each_as (λ f. IsFormula p p.objects c.vars f × IsPlain f) (λ f. IsFormula r p.objects c.vars f × IsPlain f) (λ f k. (formula_stays p.objects p.objects (λ o h. h) c.vars f k.0, k.1)) (formulas_of c.rule) h.formulas;
  }

  pub metric_stays : (m : Option Metric) → OnMetric p m → OnMetric r m
  metric_stays None h = tt
  metric_stays (Some m) h = (expr_stays p.objects p.objects (λ o h. h) [] m.value h.0, h.1)

  pub numbers_stay : (n : NumberFact) → IsNumberFact p n → IsNumberFact r n
  numbers_stay n h = record { literal = h.literal; typed = h.typed }

  pub values_stay : (v : ValueFact) → IsValueFact p v → IsValueFact r v
  values_stay v h = record { typed = h.typed }

  objects_stay : (objects types : List Name) → ObjectsFit p objects types → ObjectsFit r objects types
  objects_stay [] [] h = h
  objects_stay [] (of ∷ types) h = h
  objects_stay (o ∷ objects) [] h = h
  objects_stay (o ∷ objects) (of ∷ types) h = (h.0, objects_stay objects types h.1)

  pub fact_stays : (fact : Fact) → IsFact p fact → IsFact r fact
  fact_stays fact h = still_there fact.predicate _ (there _ _ (λ d k. objects_stay fact.args d.args k) (predicate_named p fact.predicate) h)

  pub gives_stay : (g : Gives) → OfGives p g → OfGives r g
  gives_stay gives.Number h = h
  gives_stay (gives.Object t) h = h

-- Where there are no object functions, well-formed terms stand for objects of their types.
use Rattle.std.proofs.Common.{◌≡◌, ◌⊎◌, false, List, [], ◌∷◌, ◌++◌, map, take, Option, Some, None, IsSome, IsSomeAnd, refl, ap, sym, ◌∙◌, subst, inl, inr}
use Rattle.std.specs.Prelude.{is_some}
use Rattle.std.specs.List.{list_any}
use Rattle.up_text.specs.declared.name.Name.{Name}
use Rattle.up_text.specs.Names.{same_name}
use Rattle.up_text.specs.Lists.{Every, Somewhere, Member}
use Rattle.up_tree.specs.declared.term.Term.{Term, Var, Object, Fluent', Row_of-Term, end_of-Term, more_of-Term}
use Rattle.up_tree.specs.declared.term.Typed.{Typed}
use Rattle.up_tree.specs.declared.expr.Expr.{Expr}
use Rattle.up_tree.specs.declared.expr.Expr as expr
use Rattle.step_laws.proofs.Splitting.{find_of}
use Rattle.up_tree.specs.declared.formula.Formula.{Formula, And', Or', Atom, Equal, Compare, Row_of-Formula, end_of-Formula, more_of-Formula}
use Rattle.up_tree.specs.declared.action.Effect.{Effect}
use Rattle.up_tree.specs.declared.action.Effect.TheVariants as effect
use Rattle.up_tree.specs.declared.action.Row.{Row}
use Rattle.up_tree.specs.declared.action.Action.{Action}
use Rattle.up_tree.specs.declared.problem.Function.{Function}
use Rattle.up_tree.specs.declared.problem.Predicate.{Predicate}
use Rattle.up_tree.specs.declared.problem.Parts.{Parts}
use Rattle.up_tree.specs.Nodes.{not, imply, exists, forall, sum, difference, product, quotient}
use Rattle.up_tree.specs.Objects.{Assignment, named, type_in, predicate_named, function_named}
use Rattle.up_tree.specs.State.{State}
use Rattle.up_tree.specs.Value.{with_both, term_value, values_of}
use Rattle.up_tree.specs.WellFormed.{IsWellFormed, IsBelow, IsTerm, RowFits, TermFits, TermsFit, IsFormula, AreFormulas, IsEffect, IsRow, IsAction, ObjectsFit, gives_object}
use Rattle.up_kind.specs.Carried.{gives_an_object}
use Rattle.up_eval.proofs.Types.{no_none, some_and, find_member, wider}
use Rattle.semantics_laws.specs.Symbols.{Symbol, predicate, TermNames, ArgumentsName, TermsName, ExprNames, FormulaNames, MembersName, EffectNames, RowNames, ActionNames}
use Rattle.expansion_forms.specs.Covered.{AreObjects, IsObjectOf, StandsFor, Covers}
use Rattle.expansion_forms.proofs.Covering.{some_named, named_some}
use Rattle.compiling_laws.proofs.Lists.{false_true, any_false, member_map}
use Rattle.negations_laws.specs.Related.{IsOld}

-- no function gives objects
abbrev pub NoObjectFunctions : Parts → Type 0
NoObjectFunctions p = list_any gives_an_object p.functions ≡ false

-- the term has an object of this kind
abbrev pub HasValue : Option Name → (Name → Type 0) → Type 0
HasValue v P = (o : Name) × (v ≡ Some o) × P o

module _ (p : Parts) (none : NoObjectFunctions p) where
  pub no_function : {A : Type 0} (f : Name) (P : Function → Type 0) → IsSomeAnd (function_named p f) (λ d. IsSome (gives_object d.gives) × P d) → A
  no_function f P h =
      some_and (function_named p f) (λ d. IsSome (gives_object d.gives) × P d) h
      (λ d found so. false_true (sym (any_false gives_an_object p.functions d none (find_member (λ (d : Function). same_name d.name f) p.functions d found)) ∙ so.0))

  pub no_target : {A : Type 0} (f : Name) (P : Name → Type 0) (Q : Function → Type 0) → IsSomeAnd (function_named p f) (λ d. Q d × IsSomeAnd (gives_object d.gives) P) → A
  no_target f P Q h =
      some_and (function_named p f) (λ d. Q d × IsSomeAnd (gives_object d.gives) P) h
      (λ d found so. some_and (gives_object d.gives) P so.1 (λ of is m.
      false_true (sym (any_false gives_an_object p.functions d none (find_member (λ (d : Function). same_name d.name f) p.functions d found)) ∙ ap is_some is)))

module _ (p : Parts) (well : IsWellFormed p) (none : NoObjectFunctions p) (objects scope : List Typed) (are : AreObjects p objects)
    (e : Assignment) (covers : Covers p e scope []) (s : State) where
  variable : (v of : Name) → type_in scope v ≡ Some of → HasValue (e v) (λ o. IsObjectOf p o of)
  variable v of typed = by (e v) refl (covers.covered v of typed)
    where
      by : (o : Option Name) → e v ≡ o → StandsFor p None of o → HasValue (e v) (λ o. IsObjectOf p o of)
      by None is stands = no_none of stands
      by (Some o) is stands = (o, is, stands)

  there : (o of : Name) → IsObjectOf p o of → IsSome (named p.objects o)
  there o of h = some_and (type_in p.objects o) (λ u. IsBelow p u of) h (λ u typed under. named_some p.objects o u typed)

  -- a term's object is there
  pub term_there : (u : Term) → IsTerm p objects scope u → HasValue (term_value s e u) (λ o. IsSome (named p.objects o))
  unfolding IsTerm term_value
  term_there (Var v) is =
      let typed : (of : Name) × (type_in scope v ≡ Some of) = some_named scope v is in
      let k : HasValue (e v) (λ o. IsObjectOf p o typed.0) = variable v typed.0 typed.1 in
      (k.0, k.1, there k.0 typed.0 k.2)
  term_there (Object o) is = (o, refl, are o is)
  term_there (Fluent' f n ts) is = no_function p none f (λ d. RowFits p objects scope ts d.args) is

  -- and of the type at its place
  pub term_typed : (u : Term) (of : Name) → TermFits p objects scope u of → HasValue (term_value s e u) (λ o. IsObjectOf p o of)
  unfolding IsTerm term_value
  term_typed (Var v) of fit =
      some_and (type_in scope v) (λ u. IsBelow p u of) fit.1 (λ u typed under.
      let k : HasValue (e v) (λ o. IsObjectOf p o u) = variable v u typed in
      (k.0, k.1, wider p well k.0 u of k.2 under))
  term_typed (Object o) of fit = (o, refl, fit.1)
  term_typed (Fluent' f n ts) of fit = no_function p none f (λ d. RowFits p objects scope ts d.args) fit.0

  pub terms_typed : (ts : List Term) (types : List Name) → TermsFit p objects scope ts types → (os : List Name) × (values_of s e ts ≡ Some os) × ObjectsFit p os types
  terms_typed [] [] fit = ([], refl, tt)
  terms_typed [] (of ∷ types) fit = absurd fit
  terms_typed (t ∷ ts) [] fit = absurd fit
  terms_typed (t ∷ ts) (of ∷ types) fit =
      let one : HasValue (term_value s e t) (λ o. IsObjectOf p o of) = term_typed t of fit.0 in
      let more : (os : List Name) × (values_of s e ts ≡ Some os) × ObjectsFit p os types = terms_typed ts types fit.1 in
      (one.0 ∷ more.0, (λ i. with_both (λ o os. Some (o ∷ os)) (one.1 i) (more.1 i)), (one.2, more.2))

-- ---- what is well-formed names old predicates alone

module _ (p : Parts) where
  mutual
    unfolding TermNames ArgumentsName

    in_term : (t : Term) (x : Symbol) → TermNames t x → IsOld p x
    in_term (Var v) x h = absurd h
    in_term (Object o) x h = absurd h
    in_term (Fluent' f n ts) x (inl e) = subst (IsOld p) (sym e) tt
    in_term (Fluent' f n ts) x (inr h) = in_arguments ts x h

    in_arguments : {n : _} (ts : Row_of-Term n) (x : Symbol) → ArgumentsName ts x → IsOld p x
    in_arguments end_of-Term x h = absurd h
    in_arguments (more_of-Term t ts) x (inl h) = in_term t x h
    in_arguments (more_of-Term t ts) x (inr h) = in_arguments ts x h

  in_terms : (ts : List Term) (x : Symbol) → TermsName ts x → IsOld p x
  in_terms [] x h = absurd h
  in_terms (t ∷ ts) x (inl h) = in_term t x h
  in_terms (t ∷ ts) x (inr h) = in_terms ts x h

  pub expr_names : (y : Expr) (x : Symbol) → ExprNames y x → IsOld p x
  unfolding ExprNames
  expr_names (expr.Number n) x h = absurd h
  expr_names (expr.Fluent f ts) x (inl e) = subst (IsOld p) (sym e) tt
  expr_names (expr.Fluent f ts) x (inr h) = in_terms ts x h
  expr_names (sum a b) x (inl h) = expr_names a x h
  expr_names (sum a b) x (inr h) = expr_names b x h
  expr_names (difference a b) x (inl h) = expr_names a x h
  expr_names (difference a b) x (inr h) = expr_names b x h
  expr_names (product a b) x (inl h) = expr_names a x h
  expr_names (product a b) x (inr h) = expr_names b x h
  expr_names (quotient a b) x (inl h) = expr_names a x h
  expr_names (quotient a b) x (inr h) = expr_names b x h

  -- a predicate that is found is one of the problem's
  pub found_old : (name : Name) (P : Predicate → Type 0) → IsSomeAnd (predicate_named p name) P → Member name (map (λ (d : Predicate). d.name) p.predicates)
  found_old name P h = some_and (predicate_named p name) P h (λ d found so.
      let at : Member d p.predicates × (d.name ≡ name) = find_of (λ (d : Predicate). d.name) name p.predicates d found in
      subst (λ n. Member n (map (λ (d : Predicate). d.name) p.predicates)) at.1 (member_map (λ (d : Predicate). d.name) p.predicates d at.0))

  in_atom : (name : Name) (ts : List Term) (P : Predicate → Type 0) → IsSomeAnd (predicate_named p name) P → (x : Symbol) → (x ≡ predicate name) ⊎ TermsName ts x → IsOld p x
  in_atom name ts P is x (inl e) = subst (IsOld p) (sym e) (found_old name P is)
  in_atom name ts P is x (inr h) = in_terms ts x h

  mutual
    unfolding IsFormula AreFormulas FormulaNames MembersName

    pub formula_names : (objects scope : List Typed) (f : Formula) → IsFormula p objects scope f → (x : Symbol) → FormulaNames f x → IsOld p x
    formula_names objects scope (And' n fs) is x h = members_name objects scope fs is x h
    formula_names objects scope (Or' n fs) is x h = members_name objects scope fs is x h
    formula_names objects scope (not f) is x h = formula_names objects scope f is x h
    formula_names objects scope (imply f g) is x (inl h) = formula_names objects scope f is.0 x h
    formula_names objects scope (imply f g) is x (inr h) = formula_names objects scope g is.1 x h
    formula_names objects scope (exists vars f) is x h = formula_names objects (vars ++ scope) f is.1 x h
    formula_names objects scope (forall vars f) is x h = formula_names objects (vars ++ scope) f is.1 x h
    formula_names objects scope (Atom name ts) is x h = in_atom name ts (λ d. TermsFit p objects scope ts d.args) is x h
    formula_names objects scope (Equal t u) is x (inl h) = in_term t x h
    formula_names objects scope (Equal t u) is x (inr h) = in_term u x h
    formula_names objects scope (Compare r a b) is x (inl h) = expr_names a x h
    formula_names objects scope (Compare r a b) is x (inr h) = expr_names b x h

    members_name : (objects scope : List Typed) {n : _} (fs : Row_of-Formula n) → AreFormulas p objects scope fs → (x : Symbol) → MembersName fs x → IsOld p x
    members_name objects scope end_of-Formula is x h = absurd h
    members_name objects scope (more_of-Formula f fs) is x (inl h) = formula_names objects scope f is.0 x h
    members_name objects scope (more_of-Formula f fs) is x (inr h) = members_name objects scope fs is.1 x h

  effect_names : (objects scope : List Typed) (f : Effect) → IsEffect p objects scope f → (x : Symbol) → EffectNames f x → IsOld p x
  effect_names objects scope (effect.Add name ts) is x h = in_atom name ts (λ d. TermsFit p objects scope ts d.args) is x h
  effect_names objects scope (effect.Delete name ts) is x h = in_atom name ts (λ d. TermsFit p objects scope ts d.args) is x h
  effect_names objects scope (effect.Number change f ts y) is x (inl e) = subst (IsOld p) (sym e) tt
  effect_names objects scope (effect.Number change f ts y) is x (inr (inl h)) = in_terms ts x h
  effect_names objects scope (effect.Number change f ts y) is x (inr (inr h)) = expr_names y x h
  effect_names objects scope (effect.Object f ts t) is x (inl e) = subst (IsOld p) (sym e) tt
  effect_names objects scope (effect.Object f ts t) is x (inr (inl h)) = in_terms ts x h
  effect_names objects scope (effect.Object f ts t) is x (inr (inr h)) = in_term t x h
  effect_names objects scope (effect.Undefine f ts) is x (inl e) = subst (IsOld p) (sym e) tt
  effect_names objects scope (effect.Undefine f ts) is x (inr h) = in_terms ts x h

  rows_name : (objects scope : List Typed) (rows : List Row) → Every (IsRow p objects scope) rows → (x : Symbol) → Somewhere (λ row. RowNames row x) rows → IsOld p x
  rows_name objects scope [] is x h = absurd h
  rows_name objects scope (r ∷ rows) is x (inl (inl h)) = formula_names objects (r.vars ++ scope) r.when is.0.when x h
  rows_name objects scope (r ∷ rows) is x (inl (inr h)) = effect_names objects (r.vars ++ scope) r.effect is.0.effect x h
  rows_name objects scope (r ∷ rows) is x (inr h) = rows_name objects scope rows is.1 x h

  pub action_names : (a : Action) → IsAction p a → (x : Symbol) → ActionNames a x → IsOld p x
  action_names a is x (inl h) = formula_names (take p.constants p.objects) a.params a.pre is.pre x h
  action_names a is x (inr h) = rows_name (take p.constants p.objects) a.params a.rows is.rows x h

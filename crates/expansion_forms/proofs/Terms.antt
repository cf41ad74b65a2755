-- Terms, expressions and effects whose scope is covered.
use Rattle.std.proofs.Common.{◌≡◌, List, [], ◌∷◌, map, Option, Some, None, IsSome, IsSomeAnd, refl, sym, subst}
use Rattle.up_text.specs.declared.name.Name.{Name}
use Rattle.up_tree.specs.declared.term.Typed.{Typed}
use Rattle.up_tree.specs.declared.term.Term.{Term, Var, Object, Fluent', Row_of-Term, end_of-Term, more_of-Term}
use Rattle.up_tree.specs.declared.expr.Expr.{Expr, Number, Fluent}
use Rattle.up_tree.specs.declared.action.Effect.{Effect}
use Rattle.up_tree.specs.declared.action.Effect.TheVariants as effect
use Rattle.up_tree.specs.declared.problem.Function.{Function}
use Rattle.up_tree.specs.declared.problem.Predicate.{Predicate}
use Rattle.up_tree.specs.declared.problem.Parts.{Parts}
use Rattle.up_tree.specs.Nodes.{sum, difference, product, quotient}
use Rattle.up_tree.specs.Objects.{Assignment, named, type_in, predicate_named, function_named}
use Rattle.up_tree.specs.WellFormed.{IsWellFormed, IsBelow, IsTerm, RowFits, TermFits, TermsFit, IsAtom, IsNumberTerm, IsExpr, IsObjectTarget, IsEffect, GivesNumber, term_type, gives_object}
use Rattle.semantics_laws.specs.Replaced.{in_place, replaced_term, replaced_row, replaced_expr}
use Rattle.up_eval.proofs.Types.{some_and, at_some, wider}
use Rattle.expansion_laws.specs.Substituted.{replaced_effect}
use Rattle.expansion_forms.specs.Covered.{Declares, AreObjects, IsObjectOf, StandsFor, Covers}
use Rattle.expansion_forms.proofs.Covering.{some_named, named_some}

-- the type of what a function gives, where it is there and gives objects
abbrev gives_of : Option Function → Option Name
gives_of None = None
gives_of (Some d) = gives_object d.gives

some_as : {X : Type 0} (o : Option X) (P Q : X → Type 0) → ((x : X) → P x → Q x) → IsSomeAnd o P → IsSomeAnd o Q
some_as None P Q h is = is
some_as (Some x) P Q h is = h x is

module _ (p q : Parts) (well : IsWellFormed p) (declares : Declares p q) where
  declared_function : (f : Name) (P Q : Function → Type 0) → ((d : Function) → P d → Q d) → IsSomeAnd (function_named p f) P → IsSomeAnd (function_named q f) Q
  declared_function f P Q h is = some_and (function_named p f) P is (λ d found so. at_some (function_named q f) d Q (declares.functions f d found) (h d so))

  declared_predicate : (name : Name) (P Q : Predicate → Type 0) → ((d : Predicate) → P d → Q d) → IsSomeAnd (predicate_named p name) P → IsSomeAnd (predicate_named q name) Q
  declared_predicate name P Q h is = some_and (predicate_named p name) P is (λ d found so. at_some (predicate_named q name) d Q (declares.predicates name d found) (h d so))

  object_below : (o of : Name) → IsObjectOf p o of → IsObjectOf q o of
  object_below o of is =
      some_and (type_in p.objects o) (λ u. IsBelow p u of) is (λ u at under. at_some (type_in q.objects o) u (λ u. IsBelow q u of) (declares.objects o u at) (declares.below u of under))

  function_below : (f of : Name) → IsSomeAnd (gives_of (function_named p f)) (λ u. IsBelow p u of) → IsSomeAnd (gives_of (function_named q f)) (λ u. IsBelow q u of)
  function_below f of is = by (function_named p f) refl is
    where
      by : (found : Option Function) → function_named p f ≡ found → IsSomeAnd (gives_of found) (λ u. IsBelow p u of) → IsSomeAnd (gives_of (function_named q f)) (λ u. IsBelow q u of)
      by None at h = absurd h
      by (Some d) at h =
          subst (λ found. IsSomeAnd (gives_of found) (λ u. IsBelow q u of)) (sym (declares.functions f d at))
          (some_as (gives_object d.gives) (λ u. IsBelow p u of) (λ u. IsBelow q u of) (λ u under. declares.below u of under) h)

  object_there : (o of : Name) → IsObjectOf p o of → IsSome (named q.objects o)
  object_there o of is = some_and (type_in p.objects o) (λ u. IsBelow p u of) is (λ u at under. named_some q.objects o u (declares.objects o u at))

  named_there : (objects : List Typed) → AreObjects p objects → (o : Name) → IsSome (named objects o) → IsSome (named q.objects o)
  named_there objects are o some =
      let typed : (of : Name) × (type_in p.objects o ≡ Some of) = some_named p.objects o (are o some) in
      named_some q.objects o typed.0 (declares.objects o typed.0 typed.1)

  module _ (objects scope outer : List Typed) (are : AreObjects p objects) (e : Assignment) (covers : Covers p e scope outer) where
    variable_there : (v : Name) → IsSome (named scope v) → IsTerm q q.objects outer (in_place v (e v))
    unfolding IsTerm
    variable_there v some =
        let typed : (of : Name) × (type_in scope v ≡ Some of) = some_named scope v some in
        by typed.0 (e v) (covers.covered v typed.0 typed.1)
      where
        by : (of : Name) (o : Option Name) → StandsFor p (type_in outer v) of o → IsTerm q q.objects outer (in_place v o)
        by of None stands = named_some outer v of stands
        by of (Some o) stands = object_there o of stands

    variable_below : (v of : Name) → IsSomeAnd (type_in scope v) (λ u. IsBelow p u of) → IsSomeAnd (term_type q outer (in_place v (e v))) (λ u. IsBelow q u of)
    variable_below v of is = some_and (type_in scope v) (λ u. IsBelow p u of) is (λ u typed under. by u under (e v) (covers.covered v u typed))
      where
        by : (u : Name) → IsBelow p u of → (o : Option Name) → StandsFor p (type_in outer v) u o → IsSomeAnd (term_type q outer (in_place v o)) (λ u. IsBelow q u of)
        by u under None stands = at_some (type_in outer v) u (λ u. IsBelow q u of) stands (declares.below u of under)
        by u under (Some o) stands = object_below o of (wider p well o u of stands under)

    below_well : (t : Term) (of : Name) → IsSomeAnd (term_type p scope t) (λ u. IsBelow p u of) → IsSomeAnd (term_type q outer (replaced_term e t)) (λ u. IsBelow q u of)
    unfolding replaced_term
    below_well (Var v) of is = variable_below v of is
    below_well (Object o) of is = object_below o of is
    below_well (Fluent' f n ts) of is = function_below f of is

    mutual
      unfolding IsTerm RowFits replaced_term replaced_row

      pub term_well : (t : Term) → IsTerm p objects scope t → IsTerm q q.objects outer (replaced_term e t)
      term_well (Var v) is = variable_there v is
      term_well (Object o) is = named_there objects are o is
      term_well (Fluent' f n ts) is =
          declared_function f (λ d. IsSome (gives_object d.gives) × RowFits p objects scope ts d.args)
          (λ d. IsSome (gives_object d.gives) × RowFits q q.objects outer (replaced_row e ts) d.args) (λ d so. (so.0, row_well ts d.args so.1)) is

      row_well : {n : _} (ts : Row_of-Term n) (types : List Name) → RowFits p objects scope ts types → RowFits q q.objects outer (replaced_row e ts) types
      row_well end_of-Term [] fit = tt
      row_well end_of-Term (of ∷ types) fit = fit
      row_well (more_of-Term t ts) [] fit = fit
      row_well (more_of-Term t ts) (of ∷ types) fit = (term_well t fit.0, below_well t of fit.1, row_well ts types fit.2)

    term_fits : (t : Term) (of : Name) → TermFits p objects scope t of → TermFits q q.objects outer (replaced_term e t) of
    term_fits t of fit = (term_well t fit.0, below_well t of fit.1)

    terms_fit : (ts : List Term) (types : List Name) → TermsFit p objects scope ts types → TermsFit q q.objects outer (map (replaced_term e) ts) types
    terms_fit [] [] fit = tt
    terms_fit [] (of ∷ types) fit = fit
    terms_fit (t ∷ ts) [] fit = fit
    terms_fit (t ∷ ts) (of ∷ types) fit = (term_fits t of fit.0, terms_fit ts types fit.1)

    pub atom_well : (name : Name) (ts : List Term) → IsAtom p objects scope name ts → IsAtom q q.objects outer name (map (replaced_term e) ts)
    atom_well name ts is =
        declared_predicate name (λ d. TermsFit p objects scope ts d.args) (λ d. TermsFit q q.objects outer (map (replaced_term e) ts) d.args) (λ d fit. terms_fit ts d.args fit) is

    number_well : (f : Name) (ts : List Term) → IsNumberTerm p objects scope f ts → IsNumberTerm q q.objects outer f (map (replaced_term e) ts)
    number_well f ts is =
        declared_function f (λ d. GivesNumber d.gives × TermsFit p objects scope ts d.args) (λ d. GivesNumber d.gives × TermsFit q q.objects outer (map (replaced_term e) ts) d.args)
        (λ d so. (so.0, terms_fit ts d.args so.1)) is

    pub expr_well : (x : Expr) → IsExpr p objects scope x → IsExpr q q.objects outer (replaced_expr e x)
    unfolding IsExpr replaced_expr
    expr_well (Number n) is = is
    expr_well (Fluent f ts) is = number_well f ts is
    expr_well (sum a b) is = (expr_well a is.0, expr_well b is.1)
    expr_well (difference a b) is = (expr_well a is.0, expr_well b is.1)
    expr_well (product a b) is = (expr_well a is.0, expr_well b is.1)
    expr_well (quotient a b) is = (expr_well a is.0, expr_well b is.1)

    target_well : (f : Name) (ts : List Term) (P Q : Name → Type 0) → ((of : Name) → P of → Q of) →
        IsObjectTarget p objects scope f ts P → IsObjectTarget q q.objects outer f (map (replaced_term e) ts) Q
    target_well f ts P Q h is =
        declared_function f (λ d. TermsFit p objects scope ts d.args × IsSomeAnd (gives_object d.gives) P)
        (λ d. TermsFit q q.objects outer (map (replaced_term e) ts) d.args × IsSomeAnd (gives_object d.gives) Q)
        (λ d so. (terms_fit ts d.args so.0, some_as (gives_object d.gives) P Q h so.1)) is

    pub effect_well : (x : Effect) → IsEffect p objects scope x → IsEffect q q.objects outer (replaced_effect e x)
    effect_well (effect.Add name ts) is = atom_well name ts is
    effect_well (effect.Delete name ts) is = atom_well name ts is
    effect_well (effect.Number change f ts x) is = (number_well f ts is.0, expr_well x is.1)
    effect_well (effect.Object f ts t) is =
        target_well f ts (λ of. TermFits p objects scope t of) (λ of. TermFits q q.objects outer (replaced_term e t) of) (λ of fit. term_fits t of fit) is
    effect_well (effect.Undefine f ts) is = target_well f ts _ _ (λ of h. h) is

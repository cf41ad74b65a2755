-- A condition stays one where more variables are in scope, none of which it binds.
use Rattle.std.proofs.Common.{◌≡◌, Bool, true, false, true≢false, cond, List, [], ◌∷◌, ◌++◌, Option, Some, None, option_map, IsSomeAnd, refl, ap, sym, subst, inl, inr}
use Rattle.std.specs.Prelude.{IsSome}
use Rattle.std.proofs.lemmas.List.{map-append}
use Rattle.up_text.specs.declared.name.Name.{Name}
use Rattle.up_text.specs.Names.{same_name}
use Rattle.up_text.specs.Lists.{Every, Member}
use Rattle.up_tree.specs.declared.expr.Expr.{Expr, Number, Fluent}
use Rattle.up_tree.specs.declared.formula.Formula.{Formula, And', Or', Atom, Equal, Compare, Row_of-Formula, end_of-Formula, more_of-Formula}
use Rattle.up_tree.specs.declared.problem.Parts.{Parts}
use Rattle.up_tree.specs.declared.term.Term.{Term, Var, Object, Fluent', Row_of-Term, end_of-Term, more_of-Term}
use Rattle.up_tree.specs.declared.term.Typed.{Typed}
use Rattle.up_tree.specs.Nodes.{not, imply, exists, forall, sum, difference, product, quotient}
use Rattle.up_tree.specs.Objects.{named, type_in, predicate_named, function_named}
use Rattle.up_tree.specs.WellFormed.{IsBelow, IsTerm, RowFits, TermsFit, IsAtom, IsNumberTerm, IsExpr, IsFormula, AreFormulas, AreVariables, term_type, gives_object, GivesNumber}
use Rattle.up_phrase.specs.Barred.{names_of, binds, all_bind}
use Rattle.wellformed_phrases.proofs.Tables.{is_there}
use Rattle.wellformed_phrases.proofs.Members.{member_front, member_back, every_as, every_append}

abbrev pub IsFresh : List Typed → Name → Type 0
IsFresh scope n = ¬ Member n (names_of scope)

-- what is in the one scope is so in the other
abbrev pub Wider : List Typed → List Typed → Type 0
Wider scope wide = (v of : Name) → type_in scope v ≡ Some of → type_in wide v ≡ Some of

some_as : {X : Type 0} (o : Option X) (P Q : X → Type 0) → ((x : X) → P x → Q x) → IsSomeAnd o P → IsSomeAnd o Q
some_as None P Q h is = is
some_as (Some x) P Q h is = h x is

pub every_front : {X : Type 0} (P : X → Type 0) (xs ys : List X) → Every P (xs ++ ys) → Every P xs
every_front P [] ys all = tt
every_front P (x ∷ xs) ys all = (all.0, every_front P xs ys all.1)

pub every_back : {X : Type 0} (P : X → Type 0) (xs ys : List X) → Every P (xs ++ ys) → Every P ys
every_back P [] ys all = all
every_back P (x ∷ xs) ys all = every_back P xs ys all.1

every_both : {X : Type 0} (P Q R : X → Type 0) (xs : List X) → ((x : X) → P x → Q x → R x) → Every P xs → Every Q xs → Every R xs
every_both P Q R [] h ps qs = tt
every_both P Q R (x ∷ xs) h ps qs = (h x ps.0 qs.0, every_both P Q R xs h ps.1 qs.1)

under_names : (P : Name → Type 0) (vars : List Typed) → Every P (names_of vars) → Every (λ v. P v.name) vars
under_names P [] all = tt
under_names P (v ∷ vars) all = (all.0, under_names P vars all.1)

over_names : (P : Name → Type 0) (vars : List Typed) → Every (λ v. P v.name) vars → Every P (names_of vars)
over_names P [] all = tt
over_names P (v ∷ vars) all = (all.0, over_names P vars all.1)

not_front : (n : Name) (vars scope : List Typed) → IsFresh (vars ++ scope) n → IsFresh vars n
not_front n vars scope fresh m = fresh (subst (Member n) (sym (map-append (λ (v : Typed). v.name) vars scope)) (member_front n (names_of vars) (names_of scope) m))

not_back : (n : Name) (vars scope : List Typed) → IsFresh (vars ++ scope) n → IsFresh scope n
not_back n vars scope fresh m = fresh (subst (Member n) (sym (map-append (λ (v : Typed). v.name) vars scope)) (member_back n (names_of vars) (names_of scope) m))

not_either : (n : Name) (vars scope : List Typed) → IsFresh vars n → IsFresh scope n → IsFresh (vars ++ scope) n
not_either n [] scope one two m = two m
not_either n (v ∷ vars) scope one two (inl e) = one (inl e)
not_either n (v ∷ vars) scope one two (inr m) = not_either n vars scope (λ in_vars. one (inr in_vars)) two m

wider_inside : (vars scope wide : List Typed) → Wider scope wide → Wider (vars ++ scope) (vars ++ wide)
wider_inside [] scope wide wider v of is = wider v of is
wider_inside (w ∷ vars) scope wide wider v of is = by (same_name w.name v) is (wider_inside vars scope wide wider v of)
  where
    by : (b : Bool) → option_map (λ entry. entry.of) (cond b (Some w) (named (vars ++ scope) v)) ≡ Some of
        → (type_in (vars ++ scope) v ≡ Some of → type_in (vars ++ wide) v ≡ Some of)
        → option_map (λ entry. entry.of) (cond b (Some w) (named (vars ++ wide) v)) ≡ Some of
    by true here rest = here
    by false here rest = rest here

module _ (p : Parts) (objects : List Typed) where
  -- ---- what a condition binds isn't in scope

  mutual
    unfolding IsFormula AreFormulas binds all_bind

    pub binds_fresh : (scope : List Typed) (f : Formula) → IsFormula p objects scope f → Every (IsFresh scope) (binds f)
    binds_fresh scope (And' n fs) is = all_fresh scope fs is
    binds_fresh scope (Or' n fs) is = all_fresh scope fs is
    binds_fresh scope (not f) is = binds_fresh scope f is
    binds_fresh scope (imply f g) is = every_append (IsFresh scope) (binds f) (binds g) (binds_fresh scope f is.0) (binds_fresh scope g is.1)
    binds_fresh scope (exists vars f) is =
        every_append (IsFresh scope) (names_of vars) (binds f) (over_names (IsFresh scope) vars is.0.fresh)
        (every_as (IsFresh (vars ++ scope)) (IsFresh scope) (binds f) (λ n fresh. not_back n vars scope fresh) (binds_fresh (vars ++ scope) f is.1))
    binds_fresh scope (forall vars f) is =
        every_append (IsFresh scope) (names_of vars) (binds f) (over_names (IsFresh scope) vars is.0.fresh)
        (every_as (IsFresh (vars ++ scope)) (IsFresh scope) (binds f) (λ n fresh. not_back n vars scope fresh) (binds_fresh (vars ++ scope) f is.1))
    binds_fresh scope (Atom name ts) is = tt
    binds_fresh scope (Equal t u) is = tt
    binds_fresh scope (Compare r a b) is = tt

    all_fresh : (scope : List Typed) {n : _} (fs : Row_of-Formula n) → AreFormulas p objects scope fs → Every (IsFresh scope) (all_bind fs)
    all_fresh scope end_of-Formula are = tt
    all_fresh scope (more_of-Formula f fs) are = every_append (IsFresh scope) (binds f) (all_bind fs) (binds_fresh scope f are.0) (all_fresh scope fs are.1)

  -- ---- terms and expressions

  module _ (scope wide : List Typed) (wider : Wider scope wide) where
    var_stays : (v : Name) → IsSome (named scope v) → IsSome (named wide v)
    var_stays v some = by (named scope v) refl some
      where
        by : (o : Option Typed) → named scope v ≡ o → IsSome o → IsSome (named wide v)
        by None is e = absurd (true≢false (sym e))
        by (Some entry) is e = is_there (λ (entry : Typed). entry.of) (named wide v) entry.of (wider v entry.of (ap (option_map (λ entry. entry.of)) is))

    below_stays : (t : Term) (of : Name) → IsSomeAnd (term_type p scope t) (λ u. IsBelow p u of) → IsSomeAnd (term_type p wide t) (λ u. IsBelow p u of)
    below_stays (Var v) of is = by (type_in scope v) refl is
      where
        by : (o : Option Name) → type_in scope v ≡ o → IsSomeAnd o (λ u. IsBelow p u of) → IsSomeAnd (type_in wide v) (λ u. IsBelow p u of)
        by None found h = absurd h
        by (Some u) found h = rw (wider v u found) h
    below_stays (Object o) of is = is
    below_stays (Fluent' f n ts) of is = is

    mutual
      unfolding IsTerm RowFits

      term_stays : (t : Term) → IsTerm p objects scope t → IsTerm p objects wide t
      term_stays (Var v) is = var_stays v is
      term_stays (Object o) is = is
      term_stays (Fluent' f n ts) is =
          some_as (function_named p f) (λ d. IsSome (gives_object d.gives) × RowFits p objects scope ts d.args)
          (λ d. IsSome (gives_object d.gives) × RowFits p objects wide ts d.args) (λ d so. (so.0, row_stays ts d.args so.1)) is

      row_stays : {n : _} (ts : Row_of-Term n) (types : List Name) → RowFits p objects scope ts types → RowFits p objects wide ts types
      row_stays end_of-Term [] fit = tt
      row_stays end_of-Term (of ∷ types) fit = fit
      row_stays (more_of-Term t ts) [] fit = fit
      row_stays (more_of-Term t ts) (of ∷ types) fit = (term_stays t fit.0, below_stays t of fit.1, row_stays ts types fit.2)

    terms_stay : (ts : List Term) (types : List Name) → TermsFit p objects scope ts types → TermsFit p objects wide ts types
    terms_stay [] [] fit = tt
    terms_stay [] (of ∷ types) fit = fit
    terms_stay (t ∷ ts) [] fit = fit
    terms_stay (t ∷ ts) (of ∷ types) fit = ((term_stays t fit.0.0, below_stays t of fit.0.1), terms_stay ts types fit.1)

    atom_stays : (name : Name) (ts : List Term) → IsAtom p objects scope name ts → IsAtom p objects wide name ts
    atom_stays name ts is =
        some_as (predicate_named p name) (λ d. TermsFit p objects scope ts d.args) (λ d. TermsFit p objects wide ts d.args) (λ d fit. terms_stay ts d.args fit) is

    number_stays : (f : Name) (ts : List Term) → IsNumberTerm p objects scope f ts → IsNumberTerm p objects wide f ts
    number_stays f ts is =
        some_as (function_named p f) (λ d. GivesNumber d.gives × TermsFit p objects scope ts d.args) (λ d. GivesNumber d.gives × TermsFit p objects wide ts d.args)
        (λ d so. (so.0, terms_stay ts d.args so.1)) is

    expr_stays : (x : Expr) → IsExpr p objects scope x → IsExpr p objects wide x
    unfolding IsExpr
    expr_stays (Number n) is = is
    expr_stays (Fluent f ts) is = number_stays f ts is
    expr_stays (sum a b) is = (expr_stays a is.0, expr_stays b is.1)
    expr_stays (difference a b) is = (expr_stays a is.0, expr_stays b is.1)
    expr_stays (product a b) is = (expr_stays a is.0, expr_stays b is.1)
    expr_stays (quotient a b) is = (expr_stays a is.0, expr_stays b is.1)

  -- ---- conditions

  variables_stay : (scope wide vars : List Typed) → Every (IsFresh wide) (names_of vars) → AreVariables p scope vars → AreVariables p wide vars
  variables_stay scope wide vars fresh are =
      record { names_all = are.names_all; differ = are.differ; fresh = under_names (IsFresh wide) vars fresh; typed = are.typed }

  -- what a quantifier binds further in is new there too
  inner_fresh : (scope wide vars : List Typed) (f : Formula) → IsFormula p objects (vars ++ scope) f → Every (IsFresh wide) (binds f) → Every (IsFresh (vars ++ wide)) (binds f)
  inner_fresh scope wide vars f is fresh =
      every_both (IsFresh (vars ++ scope)) (IsFresh wide) (IsFresh (vars ++ wide)) (binds f)
      (λ n inside outside. not_either n vars wide (not_front n vars scope inside) outside) (binds_fresh (vars ++ scope) f is) fresh

  mutual
    unfolding IsFormula AreFormulas binds all_bind

    pub formula_stays : (scope wide : List Typed) → Wider scope wide → (f : Formula) → Every (IsFresh wide) (binds f) → IsFormula p objects scope f → IsFormula p objects wide f
    formula_stays scope wide wider (And' n fs) fresh is = formulas_stay scope wide wider fs fresh is
    formula_stays scope wide wider (Or' n fs) fresh is = formulas_stay scope wide wider fs fresh is
    formula_stays scope wide wider (not f) fresh is = formula_stays scope wide wider f fresh is
    formula_stays scope wide wider (imply f g) fresh is = (
      formula_stays scope wide wider f (every_front (IsFresh wide) (binds f) (binds g) fresh) is.0,
      formula_stays scope wide wider g (every_back (IsFresh wide) (binds f) (binds g) fresh) is.1,
    )
    formula_stays scope wide wider (exists vars f) fresh is = (
      variables_stay scope wide vars (every_front (IsFresh wide) (names_of vars) (binds f) fresh) is.0,
      formula_stays (vars ++ scope) (vars ++ wide) (wider_inside vars scope wide wider) f
          (inner_fresh scope wide vars f is.1 (every_back (IsFresh wide) (names_of vars) (binds f) fresh)) is.1,
    )
    formula_stays scope wide wider (forall vars f) fresh is = (
      variables_stay scope wide vars (every_front (IsFresh wide) (names_of vars) (binds f) fresh) is.0,
      formula_stays (vars ++ scope) (vars ++ wide) (wider_inside vars scope wide wider) f
          (inner_fresh scope wide vars f is.1 (every_back (IsFresh wide) (names_of vars) (binds f) fresh)) is.1,
    )
    formula_stays scope wide wider (Atom name ts) fresh is = atom_stays scope wide wider name ts is
    formula_stays scope wide wider (Equal t u) fresh is = (term_stays scope wide wider t is.0, term_stays scope wide wider u is.1)
    formula_stays scope wide wider (Compare r a b) fresh is = (expr_stays scope wide wider a is.0, expr_stays scope wide wider b is.1)

    formulas_stay : (scope wide : List Typed) → Wider scope wide → {n : _} (fs : Row_of-Formula n) → Every (IsFresh wide) (all_bind fs)
        → AreFormulas p objects scope fs → AreFormulas p objects wide fs
    formulas_stay scope wide wider end_of-Formula fresh are = tt
    formulas_stay scope wide wider (more_of-Formula f fs) fresh are = (
      formula_stays scope wide wider f (every_front (IsFresh wide) (binds f) (all_bind fs) fresh) are.0,
      formulas_stay scope wide wider fs (every_back (IsFresh wide) (binds f) (all_bind fs) fresh) are.1,
    )

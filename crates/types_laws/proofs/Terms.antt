-- Terms, expressions and effects stay well-formed where all types give way to `object`.
use Rattle.std.proofs.Common.{◌≡◌, Bool, true, false, cond, List, [], ◌∷◌, map, is_some, option_map, Option, Some, None, IsSome, IsSomeAnd, refl, sym, ◌∙◌, subst, inl}
use Rattle.std.specs.Prelude.{⊤}
use Rattle.up_text.specs.declared.name.Name.{Name}
use Rattle.up_text.specs.Names.{same_name}
use Rattle.up_text.specs.Lists.{Every, Member, Differ}
use Rattle.up_tree.specs.declared.term.Term.{Term, Var, Object, Fluent'}
use Rattle.up_tree.specs.declared.term.Typed.{Typed}
use Rattle.up_tree.specs.declared.expr.Expr.{Expr, Number, Fluent}
use Rattle.up_tree.specs.declared.action.Effect.{Effect}
use Rattle.up_tree.specs.declared.action.Effect.TheVariants as effect
use Rattle.up_tree.specs.declared.problem.Function.{Function}
use Rattle.up_tree.specs.declared.problem.Predicate.{Predicate}
use Rattle.up_tree.specs.declared.problem.Gives.{Gives}
use Rattle.up_tree.specs.declared.problem.Gives.TheVariants as gives
use Rattle.up_tree.specs.declared.problem.Parts.{Parts}
use Rattle.up_tree.specs.Nodes.{sum, difference, product, quotient}
use Rattle.up_tree.specs.Objects.{named, type_in, predicate_named, function_named}
use Rattle.up_tree.specs.WellFormed.{IsWellFormed, top_type, IsBelow, gives_object, OfGives, IsTerm, RowFits, TermFits, TermsFit, IsAtom, IsNumberTerm, IsExpr, IsEffect, AreVariables, ObjectsFit}
use Rattle.semantics_laws.proofs.Lists.{each_as, each_map}
use Rattle.step_laws.proofs.Splitting.{find_of, find_member}
use Rattle.compiling_laws.proofs.Lists.{false_true, member_left, member_right, member_map}
use Rattle.types_laws.specs.Guards.{Guard, guards, of_top}
use Rattle.types_laws.specs.Types.{top_predicate, top_function, guard_predicate, untyped}
use Rattle.types_laws.proofs.Fitting.{names_top}
use Rattle.types_laws.proofs.Declared.{predicates_differ, functions_differ}
use Rattle.types_laws.proofs.Plans.{NoObjectFunction}

-- ---- entries with the type `object`

pub named_top : (es : List Typed) (n : Name) → IsSome (named es n) → IsSome (named (map of_top es) n)
named_top [] n h = h
named_top (x ∷ es) n h = by (same_name x.name n) h (named_top es n)
  where
    by : (b : Bool) → IsSome (cond b (Some x) (named es n)) → (IsSome (named es n) → IsSome (named (map of_top es) n)) → IsSome (cond b (Some (of_top x)) (named (map of_top es) n))
    by true h more = refl
    by false h more = more h

pub typed_named : (es : List Typed) (n : Name) (P : Name → Type 0) → IsSomeAnd (type_in es n) P → IsSome (named es n)
typed_named [] n P h = absurd h
typed_named (x ∷ es) n P h = by (same_name x.name n) h (typed_named es n P)
  where
    by : (b : Bool) → IsSomeAnd (option_map (λ (y : Typed). y.of) (cond b (Some x) (named es n))) P → (IsSomeAnd (type_in es n) P → IsSome (named es n)) → IsSome (cond b (Some x) (named es n))
    by true h more = refl
    by false h more = more h

module _ (p : Parts) (well : IsWellFormed p) (plain : NoObjectFunction p) where
  abbrev pub q : Parts
  q = untyped p

  -- ---- what is declared

  pub predicate_there : (n : Name) (P Q : Predicate → Type 0) → ((d : Predicate) → P d → Q (top_predicate d)) → IsSomeAnd (predicate_named p n) P → IsSomeAnd (predicate_named q n) Q
  predicate_there n P Q h is = by (predicate_named p n) refl is
    where
      by : (o : Option Predicate) → predicate_named p n ≡ o → IsSomeAnd o P → IsSomeAnd (predicate_named q n) Q
      by None e is = absurd is
      by (Some d) e is =
          let at : Member d p.predicates × (d.name ≡ n) = find_of (λ (d : Predicate). d.name) n p.predicates d e in
          subst (λ n. IsSomeAnd (predicate_named q n) Q) at.1
          (subst (λ o. IsSomeAnd o Q)
          (sym (find_member (λ (d : Predicate). d.name) q.predicates (top_predicate d) (predicates_differ p well)
          (member_left (top_predicate d) (map top_predicate p.predicates) (map guard_predicate (guards p)) (member_map top_predicate p.predicates d at.0)))) (h d is))

  pub guard_there : (g : Guard) → Member g (guards p) → predicate_named q g.predicate ≡ Some (guard_predicate g)
  guard_there g m =
      find_member (λ (d : Predicate). d.name) q.predicates (guard_predicate g) (predicates_differ p well)
      (member_right (guard_predicate g) (map top_predicate p.predicates) (map guard_predicate (guards p)) (member_map guard_predicate (guards p) g m))

  pub function_there : (n : Name) (P Q : Function → Type 0) → ((d : Function) → P d → Q (top_function d)) → IsSomeAnd (function_named p n) P → IsSomeAnd (function_named q n) Q
  function_there n P Q h is = by (function_named p n) refl is
    where
      by : (o : Option Function) → function_named p n ≡ o → IsSomeAnd o P → IsSomeAnd (function_named q n) Q
      by None e is = absurd is
      by (Some d) e is =
          let at : Member d p.functions × (d.name ≡ n) = find_of (λ (d : Function). d.name) n p.functions d e in
          subst (λ n. IsSomeAnd (function_named q n) Q) at.1
          (subst (λ o. IsSomeAnd o Q) (sym (find_member (λ (d : Function). d.name) q.functions (top_function d) (functions_differ p well) (member_map top_function p.functions d at.0))) (h d is))

  -- no function gives objects
  pub no_object : {A : Type 0} (n : Name) (P : Function → Type 0) (Q : Function → Name → Type 0) → IsSomeAnd (function_named p n) (λ d. P d × IsSomeAnd (gives_object d.gives) (Q d)) → A
  no_object n P Q is = by (function_named p n) refl is
    where
      at_gives : (g : Gives) (R : Name → Type 0) → is_some (gives_object g) ≡ false → ¬ IsSomeAnd (gives_object g) R
      at_gives gives.Number R e h = h
      at_gives (gives.Object t) R e h = false_true (sym e)

      by : {A : Type 0} (o : Option Function) → function_named p n ≡ o → IsSomeAnd o (λ d. P d × IsSomeAnd (gives_object d.gives) (Q d)) → A
      by None e is = absurd is
      by (Some d) e is =
          let at : Member d p.functions × (d.name ≡ n) = find_of (λ (d : Function). d.name) n p.functions d e in
          absurd (at_gives d.gives (Q d) (plain d at.0) is.1)

  pub no_fluent : {A : Type 0} (n : Name) (P : Function → Type 0) → IsSomeAnd (function_named p n) (λ d. IsSome (gives_object d.gives) × P d) → A
  no_fluent n P is = by (function_named p n) refl is
    where
      by : {A : Type 0} (o : Option Function) → function_named p n ≡ o → IsSomeAnd o (λ d. IsSome (gives_object d.gives) × P d) → A
      by None e is = absurd is
      by (Some d) e is =
          let at : Member d p.functions × (d.name ≡ n) = find_of (λ (d : Function). d.name) n p.functions d e in
          false_true (sym (plain d at.0) ∙ is.0)

  pub gives_well : (d : Function) → Member d p.functions → OfGives q d.gives
  gives_well d m = by d.gives (plain d m)
    where
      by : (g : Gives) → is_some (gives_object g) ≡ false → OfGives q g
      by gives.Number e = tt
      by (gives.Object t) e = false_true (sym e)

  -- ---- terms

  pub top_itself : IsBelow q top_type top_type
  top_itself = inl refl

  typed_top : (es : List Typed) (n : Name) → IsSome (named es n) → IsSomeAnd (type_in (map of_top es) n) (λ u. IsBelow q u top_type)
  typed_top [] n h = false_true h
  typed_top (x ∷ es) n h = by (same_name x.name n) h (typed_top es n)
    where
      by : (b : Bool) → IsSome (cond b (Some x) (named es n)) → (IsSome (named es n) → IsSomeAnd (type_in (map of_top es) n) (λ u. IsBelow q u top_type)) →
          IsSomeAnd (option_map (λ (y : Typed). y.of) (cond b (Some (of_top x)) (named (map of_top es) n))) (λ u. IsBelow q u top_type)
      by true h more = top_itself
      by false h more = more h

  -- an object of any type is one of the type `object`
  pub object_top : (o : Name) → IsSome (named p.objects o) → IsSomeAnd (type_in q.objects o) (λ u. IsBelow q u top_type)
  object_top o h = typed_top p.objects o h

  pub variables_top : (scope vars : List Typed) → AreVariables p scope vars → AreVariables q (map of_top scope) (map of_top vars)
  variables_top scope vars is = record {
    names_all = each_map _ of_top vars is.names_all;
    differ = subst Differ (sym (names_top vars)) is.differ;
    fresh = each_map _ of_top vars (subst (λ l. Every (λ (x : Typed). ¬ Member x.name l) vars) (sym (names_top scope)) is.fresh);
    typed = each_map _ of_top vars (each_as _ _ (λ x h. inl refl) vars is.typed);
  }

  module _ (objects scope : List Typed) where
    pub var_top : (v : Name) → IsSome (named scope v) → TermFits q (map of_top objects) (map of_top scope) (Var v) top_type
    unfolding IsTerm
    var_top v h = (named_top scope v h, typed_top scope v h)

    pub term_top : (t : Term) → IsTerm p objects scope t → IsTerm q (map of_top objects) (map of_top scope) t
    unfolding IsTerm
    term_top (Var v) is = named_top scope v is
    term_top (Object o) is = named_top objects o is
    term_top (Fluent' f n ts) is = no_fluent f (λ d. RowFits p objects scope ts d.args) is

    fits_top : (t : Term) (of : Name) → TermFits p objects scope t of → TermFits q (map of_top objects) (map of_top scope) t top_type
    unfolding IsTerm
    fits_top (Var v) of is = var_top v is.0
    fits_top (Object o) of is = (named_top objects o is.0, object_top o (typed_named p.objects o _ is.1))
    fits_top (Fluent' f n ts) of is = no_fluent f (λ d. RowFits p objects scope ts d.args) is.0

    terms_top : (ts : List Term) (types : List Name) → TermsFit p objects scope ts types → TermsFit q (map of_top objects) (map of_top scope) ts (map (λ t. top_type) types)
    terms_top [] [] is = tt
    terms_top [] (of ∷ types) is = is
    terms_top (t ∷ ts) [] is = is
    terms_top (t ∷ ts) (of ∷ types) is = (fits_top t of is.0, terms_top ts types is.1)

    pub atom_top : (name : Name) (ts : List Term) → IsAtom p objects scope name ts → IsAtom q (map of_top objects) (map of_top scope) name ts
    atom_top name ts is = predicate_there name _ _ (λ d h. terms_top ts d.args h) is

    number_top : (f : Name) (ts : List Term) → IsNumberTerm p objects scope f ts → IsNumberTerm q (map of_top objects) (map of_top scope) f ts
    number_top f ts is = function_there f _ _ (λ d h. (h.0, terms_top ts d.args h.1)) is

    pub expr_top : (x : Expr) → IsExpr p objects scope x → IsExpr q (map of_top objects) (map of_top scope) x
    unfolding IsExpr
    expr_top (Number n) is = is
    expr_top (Fluent f ts) is = number_top f ts is
    expr_top (sum a b) is = (expr_top a is.0, expr_top b is.1)
    expr_top (difference a b) is = (expr_top a is.0, expr_top b is.1)
    expr_top (product a b) is = (expr_top a is.0, expr_top b is.1)
    expr_top (quotient a b) is = (expr_top a is.0, expr_top b is.1)

    pub effect_top : (e : Effect) → IsEffect p objects scope e → IsEffect q (map of_top objects) (map of_top scope) e
    effect_top (effect.Add name ts) is = atom_top name ts is
    effect_top (effect.Delete name ts) is = atom_top name ts is
    effect_top (effect.Number change f ts x) is = (number_top f ts is.0, expr_top x is.1)
    effect_top (effect.Object f ts t) is = no_object f (λ d. TermsFit p objects scope ts d.args) (λ d of. TermFits p objects scope t of) is
    effect_top (effect.Undefine f ts) is = no_object f (λ d. TermsFit p objects scope ts d.args) (λ d of. ⊤) is

  pub objects_top : (objects types : List Name) → ObjectsFit p objects types → ObjectsFit q objects (map (λ t. top_type) types)
  objects_top [] [] is = tt
  objects_top [] (of ∷ types) is = is
  objects_top (o ∷ objects) [] is = is
  objects_top (o ∷ objects) (of ∷ types) is = (object_top o (typed_named p.objects o _ is.0), objects_top objects types is.1)

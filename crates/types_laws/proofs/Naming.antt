-- The predicates that stand for types are new: nothing in the source names them.
use Rattle.std.proofs.Common.{◌≡◌, ◌⊎◌, List, [], ◌∷◌, ◌++◌, map, Option, Some, None, IsSomeAnd, refl, ap, sym, ◌∙◌, subst, inl, inr}
use Rattle.up_text.specs.declared.name.Name.{Name}
use Rattle.up_text.specs.Fresh.{fresh_name}
use Rattle.up_text.specs.Lists.{Every, Somewhere, Member, Differ}
use Rattle.up_tree.specs.declared.term.Term.{Term, Var, Object, Fluent', Row_of-Term, end_of-Term, more_of-Term}
use Rattle.up_tree.specs.declared.term.Typed.{Typed}
use Rattle.up_tree.specs.declared.expr.Expr.{Expr, Number, Fluent}
use Rattle.up_tree.specs.declared.formula.Formula.{Formula, And', Or', Atom, Equal, Compare, Row_of-Formula, end_of-Formula, more_of-Formula}
use Rattle.up_tree.specs.declared.action.Effect.{Effect}
use Rattle.up_tree.specs.declared.action.Effect.TheVariants as effect
use Rattle.up_tree.specs.declared.action.Row.{Row}
use Rattle.up_tree.specs.declared.action.Action.{Action}
use Rattle.up_tree.specs.declared.problem.Parts.{Parts}
use Rattle.up_tree.specs.declared.problem.Predicate.{Predicate}
use Rattle.up_tree.specs.declared.problem.Function.{Function}
use Rattle.up_tree.specs.Nodes.{not, imply, exists, forall, sum, difference, product, quotient}
use Rattle.up_tree.specs.Objects.{predicate_named}
use Rattle.up_tree.specs.WellFormed.{IsAtom, IsFormula, AreFormulas, IsEffect, IsRow, IsAction}
use Rattle.semantics_laws.specs.Symbols.{Symbol, predicate, function, TermNames, ArgumentsName, TermsName, ExprNames, FormulaNames, MembersName, EffectNames, RowNames, ActionNames}
use Rattle.step_laws.proofs.Splitting.{find_of}
use Rattle.compiling_laws.proofs.Lists.{member_left, member_map, of_map}
use Rattle.compiling_laws.proofs.Names.{fresh_is_new}
use Rattle.compiling_laws.specs.Forms.{symbols}
use Rattle.types_laws.specs.Guards.{Guard, guard_base, guards_from, guards}
use Rattle.types_laws.specs.Related.{IsGuard}

-- ---- the guards' predicates

abbrev pub guard_names : List Guard → List Name
guard_names gs = map (λ (g : Guard). g.predicate) gs

-- none is among the names that were in use
pub guards_new : (used : List Name) (types : List Typed) → (g : Guard) → Member g (guards_from used types) → ¬ Member g.predicate used
guards_new used [] g m = absurd m
guards_new used (t ∷ types) g (inl e) =
    λ there. fresh_is_new (guard_base t.name) used (subst (λ (n : Name). Member n used) (ap (λ (g : Guard). g.predicate) e) there)
guards_new used (t ∷ types) g (inr m) =
    λ there. guards_new (fresh_name (guard_base t.name) used ∷ used) types g m (inr there)

pub guards_differ : (used : List Name) (types : List Typed) → Differ (guard_names (guards_from used types))
guards_differ used [] = tt
guards_differ used (t ∷ types) = (
  (λ m. let g = of_map (λ (g : Guard). g.predicate) (guards_from (fresh_name (guard_base t.name) used ∷ used) types) (fresh_name (guard_base t.name) used) m in
      guards_new (fresh_name (guard_base t.name) used ∷ used) types g.0 g.1 (inl (sym g.2))),
  guards_differ (fresh_name (guard_base t.name) used ∷ used) types,
)

-- guards of one predicate are one
pub same_guard : (gs : List Guard) → Differ (guard_names gs) → (g h : Guard) → Member g gs → Member h gs → g.predicate ≡ h.predicate → g ≡ h
same_guard [] differ g h m k e = absurd m
same_guard (x ∷ gs) differ g h (inl a) (inl b) e = a ∙ sym b
same_guard (x ∷ gs) differ g h (inl a) (inr k) e =
    absurd (differ.0 (subst (λ (n : Name). Member n (guard_names gs)) (sym e ∙ ap (λ (g : Guard). g.predicate) a) (member_map (λ (g : Guard). g.predicate) gs h k)))
same_guard (x ∷ gs) differ g h (inr m) (inl b) e =
    absurd (differ.0 (subst (λ (n : Name). Member n (guard_names gs)) (e ∙ ap (λ (g : Guard). g.predicate) b) (member_map (λ (g : Guard). g.predicate) gs g m)))
same_guard (x ∷ gs) differ g h (inr m) (inr k) e = same_guard gs differ.1 g h m k e

-- ---- what trees name

no_function : {A : Type 0} (n f : Name) → predicate n ≡ function f → A
no_function n f e = cc

abbrev symbol_name : Symbol → Name
symbol_name (predicate n) = n
symbol_name (function f) = f

same_predicate : (n m : Name) → predicate n ≡ predicate m → n ≡ m
same_predicate n m e = ap symbol_name e

mutual
  unfolding TermNames ArgumentsName

  pub term_no : (t : Term) (n : Name) → ¬ TermNames t (predicate n)
  term_no (Var v) n h = h
  term_no (Object o) n h = h
  term_no (Fluent' f k ts) n (inl e) = no_function n f e
  term_no (Fluent' f k ts) n (inr h) = arguments_no ts n h

  arguments_no : {k : _} (ts : Row_of-Term k) (n : Name) → ¬ ArgumentsName ts (predicate n)
  arguments_no end_of-Term n h = h
  arguments_no (more_of-Term t ts) n (inl h) = term_no t n h
  arguments_no (more_of-Term t ts) n (inr h) = arguments_no ts n h

pub terms_no : (ts : List Term) (n : Name) → ¬ TermsName ts (predicate n)
terms_no [] n h = h
terms_no (t ∷ ts) n (inl h) = term_no t n h
terms_no (t ∷ ts) n (inr h) = terms_no ts n h

pub expr_no : (x : Expr) (n : Name) → ¬ ExprNames x (predicate n)
unfolding ExprNames
expr_no (Number k) n h = h
expr_no (Fluent f ts) n (inl e) = no_function n f e
expr_no (Fluent f ts) n (inr h) = terms_no ts n h
expr_no (sum a b) n (inl h) = expr_no a n h
expr_no (sum a b) n (inr h) = expr_no b n h
expr_no (difference a b) n (inl h) = expr_no a n h
expr_no (difference a b) n (inr h) = expr_no b n h
expr_no (product a b) n (inl h) = expr_no a n h
expr_no (product a b) n (inr h) = expr_no b n h
expr_no (quotient a b) n (inl h) = expr_no a n h
expr_no (quotient a b) n (inr h) = expr_no b n h

module _ (p : Parts) where
  some_declared : (n : Name) (P : Predicate → Type 0) → IsSomeAnd (predicate_named p n) P → Member n (symbols p)
  some_declared n P h = by (predicate_named p n) refl h
    where
      by : (o : Option Predicate) → predicate_named p n ≡ o → IsSomeAnd o P → Member n (symbols p)
      by None is h = absurd h
      by (Some d) is h =
          let at : Member d p.predicates × (d.name ≡ n) = find_of (λ (d : Predicate). d.name) n p.predicates d is in
          member_left n (map (λ (d : Predicate). d.name) p.predicates) (map (λ (d : Function). d.name) p.functions)
          (subst (λ (m : Name). Member m (map (λ (d : Predicate). d.name) p.predicates)) at.1 (member_map (λ (d : Predicate). d.name) p.predicates d at.0))

  pub fact_declared : (n : Name) (P : Predicate → Type 0) → IsSomeAnd (predicate_named p n) P → Member n (symbols p)
  fact_declared n P h = some_declared n P h

  atom_declared : (objects scope : List Typed) (name : Name) (ts : List Term) (n : Name) → IsAtom p objects scope name ts → (predicate n ≡ predicate name) ⊎ TermsName ts (predicate n) → Member n (symbols p)
  atom_declared objects scope name ts n is (inl e) = subst (λ (m : Name). Member m (symbols p)) (sym (same_predicate n name e)) (some_declared name _ is)
  atom_declared objects scope name ts n is (inr h) = absurd (terms_no ts n h)

  mutual
    unfolding IsFormula AreFormulas FormulaNames MembersName

    pub formula_declared : (objects scope : List Typed) (f : Formula) (n : Name) → IsFormula p objects scope f → FormulaNames f (predicate n) → Member n (symbols p)
    formula_declared objects scope (And' k fs) n is h = members_declared objects scope fs n is h
    formula_declared objects scope (Or' k fs) n is h = members_declared objects scope fs n is h
    formula_declared objects scope (not f) n is h = formula_declared objects scope f n is h
    formula_declared objects scope (imply f g) n is (inl h) = formula_declared objects scope f n is.0 h
    formula_declared objects scope (imply f g) n is (inr h) = formula_declared objects scope g n is.1 h
    formula_declared objects scope (exists vars f) n is h = formula_declared objects (vars ++ scope) f n is.1 h
    formula_declared objects scope (forall vars f) n is h = formula_declared objects (vars ++ scope) f n is.1 h
    formula_declared objects scope (Atom name ts) n is h = atom_declared objects scope name ts n is h
    formula_declared objects scope (Equal t u) n is (inl h) = absurd (term_no t n h)
    formula_declared objects scope (Equal t u) n is (inr h) = absurd (term_no u n h)
    formula_declared objects scope (Compare r a b) n is (inl h) = absurd (expr_no a n h)
    formula_declared objects scope (Compare r a b) n is (inr h) = absurd (expr_no b n h)

    members_declared : (objects scope : List Typed) {k : _} (fs : Row_of-Formula k) (n : Name) → AreFormulas p objects scope fs → MembersName fs (predicate n) → Member n (symbols p)
    members_declared objects scope end_of-Formula n is h = absurd h
    members_declared objects scope (more_of-Formula f fs) n is (inl h) = formula_declared objects scope f n is.0 h
    members_declared objects scope (more_of-Formula f fs) n is (inr h) = members_declared objects scope fs n is.1 h

  effect_declared : (objects scope : List Typed) (e : Effect) (n : Name) → IsEffect p objects scope e → EffectNames e (predicate n) → Member n (symbols p)
  effect_declared objects scope (effect.Add name ts) n is h = atom_declared objects scope name ts n is h
  effect_declared objects scope (effect.Delete name ts) n is h = atom_declared objects scope name ts n is h
  effect_declared objects scope (effect.Number change f ts x) n is (inl e) = no_function n f e
  effect_declared objects scope (effect.Number change f ts x) n is (inr (inl h)) = absurd (terms_no ts n h)
  effect_declared objects scope (effect.Number change f ts x) n is (inr (inr h)) = absurd (expr_no x n h)
  effect_declared objects scope (effect.Object f ts t) n is (inl e) = no_function n f e
  effect_declared objects scope (effect.Object f ts t) n is (inr (inl h)) = absurd (terms_no ts n h)
  effect_declared objects scope (effect.Object f ts t) n is (inr (inr h)) = absurd (term_no t n h)
  effect_declared objects scope (effect.Undefine f ts) n is (inl e) = no_function n f e
  effect_declared objects scope (effect.Undefine f ts) n is (inr h) = absurd (terms_no ts n h)

  rows_declared : (objects scope : List Typed) (rows : List Row) (n : Name) → Every (IsRow p objects scope) rows → Somewhere (λ row. RowNames row (predicate n)) rows → Member n (symbols p)
  rows_declared objects scope [] n each h = absurd h
  rows_declared objects scope (r ∷ rows) n each (inl (inl h)) = formula_declared objects (r.vars ++ scope) r.when n each.0.when h
  rows_declared objects scope (r ∷ rows) n each (inl (inr h)) = effect_declared objects (r.vars ++ scope) r.effect n each.0.effect h
  rows_declared objects scope (r ∷ rows) n each (inr h) = rows_declared objects scope rows n each.1 h

  pub action_declared : (a : Action) (n : Name) → IsAction p a → ActionNames a (predicate n) → Member n (symbols p)
  action_declared a n is (inl h) = formula_declared _ a.params a.pre n is.pre h
  action_declared a n is (inr h) = rows_declared _ a.params a.rows n is.rows h

  -- ---- so no guard is named

  guard_in : (gs : List Guard) (x : Symbol) → Somewhere (λ (g : Guard). x ≡ predicate g.predicate) gs → (g : Guard) × Member g gs × (x ≡ predicate g.predicate)
  guard_in [] x h = absurd h
  guard_in (g ∷ gs) x (inl e) = (g, inl refl, e)
  guard_in (g ∷ gs) x (inr h) = let more : (k : Guard) × Member k gs × (x ≡ predicate k.predicate) = guard_in gs x h in (more.0, inr more.1, more.2)

  pub guard_is : (x : Symbol) → IsGuard p x → (g : Guard) × Member g (guards p) × (x ≡ predicate g.predicate)
  guard_is x h = guard_in (guards p) x h

  guard_from : (gs : List Guard) (g : Guard) → Member g gs → Somewhere (λ (h : Guard). predicate g.predicate ≡ predicate h.predicate) gs
  guard_from [] g m = absurd m
  guard_from (h ∷ gs) g (inl e) = inl (ap (λ (k : Guard). predicate k.predicate) e)
  guard_from (h ∷ gs) g (inr m) = inr (guard_from gs g m)

  pub is_guard : (g : Guard) → Member g (guards p) → IsGuard p (predicate g.predicate)
  is_guard g m = guard_from (guards p) g m

  pub undeclared : (g : Guard) → Member g (guards p) → ¬ Member g.predicate (symbols p)
  undeclared g m = guards_new (symbols p) p.types g m

  pub one_guard : (g h : Guard) → Member g (guards p) → Member h (guards p) → g.predicate ≡ h.predicate → g ≡ h
  one_guard = same_guard (guards p) (guards_differ (symbols p) p.types)

  -- of what names declared predicates alone
  pub names_none : (Names : Symbol → Type 0) → ((n : Name) → Names (predicate n) → Member n (symbols p)) → (x : Symbol) → Names x → ¬ IsGuard p x
  names_none Names declared x h is =
      let g : (g : Guard) × Member g (guards p) × (x ≡ predicate g.predicate) = guard_is x is in
      undeclared g.0 g.1 (declared g.0.predicate (subst Names g.2 h))

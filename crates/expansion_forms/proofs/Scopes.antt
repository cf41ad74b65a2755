-- What stands in a scope depends on what is assigned to the scope's variables alone.
use Rattle.std.proofs.Common.{◌≡◌, Bool, true, false, true≢false, cond, List, [], ◌∷◌, ◌++◌, map, Option, Some, None, option_map, option_and_then, IsSome, IsSomeAnd, refl, ap, sym, ◌∙◌, subst}
use Rattle.std.specs.Prelude.{is_some, ◌||◌}
use Rattle.std.specs.Option.{option_or}
use Rattle.up_frac.specs.Arithmetic as fraction
use Rattle.up_text.specs.declared.name.Name.{Name}
use Rattle.up_text.specs.Names.{same_name}
use Rattle.up_tree.specs.declared.term.Typed.{Typed}
use Rattle.up_tree.specs.declared.term.Term.{Term, Var, Object, Fluent', Row_of-Term, end_of-Term, more_of-Term}
use Rattle.up_tree.specs.declared.expr.Expr.{Expr, Number, Fluent}
use Rattle.up_tree.specs.declared.formula.Formula.{Formula, And', Or', Atom, Equal, Compare, Row_of-Formula, end_of-Formula, more_of-Formula}
use Rattle.up_tree.specs.declared.problem.Parts.{Parts}
use Rattle.up_tree.specs.declared.problem.Function.{Function}
use Rattle.up_tree.specs.declared.problem.Predicate.{Predicate}
use Rattle.up_tree.specs.Nodes.{sum, difference, product, quotient, not, imply, exists, forall}
use Rattle.up_tree.specs.Objects.{World, Assignment, named, assign, tuples, predicate_named, function_named}
use Rattle.up_tree.specs.State.{State, ground, number_at, object_at}
use Rattle.up_tree.specs.Value.{with_both, term_value, row_values, values_of, ground_at, number}
use Rattle.up_tree.specs.Judged.{opposite, either, all_of, any_of, atom_truth, equal_truth, compare_truth, truth_of, truths_of}
use Rattle.up_tree.specs.WellFormed.{IsTerm, RowFits, TermsFit, IsAtom, IsNumberTerm, IsExpr, IsFormula, AreFormulas, GivesNumber, gives_object}
use Rattle.semantics_laws.proofs.Lists.{each_as, same_map}
use Rattle.semantics_laws.specs.Replaced.{replacement, binds}
use Rattle.semantics_laws.proofs.Replacing.{Fits, all_fit, assign-is, binds-is}
use Rattle.expansion_laws.proofs.Truths.{true_together, false_together}
use Rattle.expansion_forms.specs.Scope.{SameInScope}

-- the assignments agree on the scope
abbrev pub Agree : Assignment → Assignment → List Typed → Type 0
Agree d e scope = (v : Name) → IsSome (named scope v) → d v ≡ e v

-- a fact of what is there, if any, whatever is there
pub if_any : {X : Type 0} {A : Type 0} (o : Option X) (P : X → Type 0) → IsSomeAnd o P → ((x : X) → P x → A) → A
if_any None P h f = absurd h
if_any (Some x) P h f = f x h

named_behind : (vars scope : List Typed) (v : Name) → binds vars v ≡ false → named (vars ++ scope) v ≡ named scope v
named_behind [] scope v out = refl
named_behind (x ∷ vars) scope v out = by (same_name x.name v) out (named_behind vars scope v)
  where
    by : (b : Bool) → (b || binds vars v) ≡ false → (binds vars v ≡ false → named (vars ++ scope) v ≡ named scope v) → cond b (Some x) (named (vars ++ scope) v) ≡ named scope v
    by true out more = absurd (true≢false out)
    by false out more = more out

-- they still do where a tuple is assigned over both
pub agree_inside : (vars : List Typed) (tuple : List Name) (d e : Assignment) (scope : List Typed) → Fits vars tuple → Agree d e scope → Agree (assign vars tuple d) (assign vars tuple e) (vars ++ scope)
agree_inside vars tuple d e scope fits agree v some = assign-is vars tuple d v ∙ by (replacement vars tuple v) refl ∙ sym (assign-is vars tuple e v)
  where
    by : (o : Option Name) → replacement vars tuple v ≡ o → option_or o (d v) ≡ option_or o (e v)
    by (Some o) is = refl
    by None is = agree v (subst IsSome (named_behind vars scope v (binds-is vars tuple v fits ∙ ap is_some is)) some)

module _ (s : State) (p : Parts) (objects : List Typed) where
  mutual
    unfolding term_value row_values IsTerm RowFits

    pub same_term : (scope : List Typed) (d e : Assignment) → Agree d e scope → (t : Term) → IsTerm p objects scope t → term_value s d t ≡ term_value s e t
    same_term scope d e agree (Var v) is = agree v is
    same_term scope d e agree (Object o) is = refl
    same_term scope d e agree (Fluent' f n ts) is =
        ap (option_and_then (λ os. object_at s (ground f os)))
        (if_any (function_named p f) (λ (x : Function). IsSome (gives_object x.gives) × RowFits p objects scope ts x.args) is (λ x so. same_row scope d e agree ts x.args so.1))

    same_row : (scope : List Typed) (d e : Assignment) → Agree d e scope → {n : _} (ts : Row_of-Term n) (types : List Name) → RowFits p objects scope ts types → row_values s d ts ≡ row_values s e ts
    same_row scope d e agree end_of-Term types fit = refl
    same_row scope d e agree (more_of-Term t ts) [] fit = absurd fit
    same_row scope d e agree (more_of-Term t ts) (of ∷ types) fit =
        λ i. with_both (λ o os. Some (o ∷ os)) (same_term scope d e agree t fit.0 i) (same_row scope d e agree ts types fit.2 i)

  pub same_terms : (scope : List Typed) (d e : Assignment) → Agree d e scope → (ts : List Term) (types : List Name) → TermsFit p objects scope ts types → values_of s d ts ≡ values_of s e ts
  same_terms scope d e agree [] types fit = refl
  same_terms scope d e agree (t ∷ ts) [] fit = absurd fit
  same_terms scope d e agree (t ∷ ts) (of ∷ types) fit =
      λ i. with_both (λ o os. Some (o ∷ os)) (same_term scope d e agree t fit.0.0 i) (same_terms scope d e agree ts types fit.1 i)

  same_atom : (scope : List Typed) (d e : Assignment) → Agree d e scope → (name : Name) (ts : List Term) → IsAtom p objects scope name ts → ground_at s d name ts ≡ ground_at s e name ts
  same_atom scope d e agree name ts is =
      ap (option_map (ground name)) (if_any (predicate_named p name) (λ (x : Predicate). TermsFit p objects scope ts x.args) is (λ x fit. same_terms scope d e agree ts x.args fit))

  same_number_term : (scope : List Typed) (d e : Assignment) → Agree d e scope → (f : Name) (ts : List Term) → IsNumberTerm p objects scope f ts → ground_at s d f ts ≡ ground_at s e f ts
  same_number_term scope d e agree f ts is =
      ap (option_map (ground f))
      (if_any (function_named p f) (λ (x : Function). GivesNumber x.gives × TermsFit p objects scope ts x.args) is (λ x so. same_terms scope d e agree ts x.args so.1))

  pub same_number : (scope : List Typed) (d e : Assignment) → Agree d e scope → (x : Expr) → IsExpr p objects scope x → number s d x ≡ number s e x
  unfolding number IsExpr
  same_number scope d e agree (Number n) is = refl
  same_number scope d e agree (Fluent f ts) is = ap (option_and_then (number_at s)) (same_number_term scope d e agree f ts is)
  same_number scope d e agree (sum a b) is = λ i. with_both (λ x y. Some (fraction.sum x y)) (same_number scope d e agree a is.0 i) (same_number scope d e agree b is.1 i)
  same_number scope d e agree (difference a b) is = λ i. with_both (λ x y. Some (fraction.difference x y)) (same_number scope d e agree a is.0 i) (same_number scope d e agree b is.1 i)
  same_number scope d e agree (product a b) is = λ i. with_both (λ x y. Some (fraction.product x y)) (same_number scope d e agree a is.0 i) (same_number scope d e agree b is.1 i)
  same_number scope d e agree (quotient a b) is = λ i. with_both fraction.quotient (same_number scope d e agree a is.0 i) (same_number scope d e agree b is.1 i)

  module _ (w : World) where
    at_tuples : (scope : List Typed) (d e : Assignment) → Agree d e scope → (vars : List Typed) (f : Formula) →
        ((c b : Assignment) → Agree c b (vars ++ scope) → truth_of w s c f ≡ truth_of w s b f) →
        map (λ tuple. truth_of w s (assign vars tuple d) f) (tuples w vars) ≡ map (λ tuple. truth_of w s (assign vars tuple e) f) (tuples w vars)
    at_tuples scope d e agree vars f same =
        same_map (λ tuple. truth_of w s (assign vars tuple d) f) (λ tuple. truth_of w s (assign vars tuple e) f) (tuples w vars)
        (each_as (Fits vars) _ (λ tuple fits. same (assign vars tuple d) (assign vars tuple e) (agree_inside vars tuple d e scope fits agree)) (tuples w vars) (all_fit w vars))

    mutual
      unfolding truth_of truths_of IsFormula AreFormulas

      pub same_truth : (scope : List Typed) (d e : Assignment) → Agree d e scope → (f : Formula) → IsFormula p objects scope f → truth_of w s d f ≡ truth_of w s e f
      same_truth scope d e agree (And' n fs) is = ap all_of (same_truths scope d e agree fs is)
      same_truth scope d e agree (Or' n fs) is = ap any_of (same_truths scope d e agree fs is)
      same_truth scope d e agree (not f) is = ap opposite (same_truth scope d e agree f is)
      same_truth scope d e agree (imply f g) is = λ i. either (opposite (same_truth scope d e agree f is.0 i)) (same_truth scope d e agree g is.1 i)
      same_truth scope d e agree (exists vars f) is = ap any_of (at_tuples scope d e agree vars f (λ c b inside. same_truth (vars ++ scope) c b inside f is.1))
      same_truth scope d e agree (forall vars f) is = ap all_of (at_tuples scope d e agree vars f (λ c b inside. same_truth (vars ++ scope) c b inside f is.1))
      same_truth scope d e agree (Atom name ts) is = ap (atom_truth s) (same_atom scope d e agree name ts is)
      same_truth scope d e agree (Equal t u) is = λ i. equal_truth (same_term scope d e agree t is.0 i) (same_term scope d e agree u is.1 i)
      same_truth scope d e agree (Compare r a b) is = λ i. compare_truth r (same_number scope d e agree a is.0 i) (same_number scope d e agree b is.1 i)

      same_truths : (scope : List Typed) (d e : Assignment) → Agree d e scope → {n : _} (fs : Row_of-Formula n) → AreFormulas p objects scope fs → truths_of w s d fs ≡ truths_of w s e fs
      same_truths scope d e agree end_of-Formula is = refl
      same_truths scope d e agree (more_of-Formula f fs) is = λ i. same_truth scope d e agree f is.0 i ∷ same_truths scope d e agree fs is.1 i

pub scope_decides : (s : State) (d e : Assignment) (p : Parts) (objects scope : List Typed) →
    ((v : Name) → IsSome (named scope v) → d v ≡ e v) → SameInScope s d e p objects scope
scope_decides s d e p objects scope agree = record {
  terms = same_term s p objects scope d e agree;
  exprs = same_number s p objects scope d e agree;
  true_where = λ w f is. true_together w d f w e f s (same_truth s p objects w scope d e agree f is);
  false_where = λ w f is. false_together w d f w e f s (same_truth s p objects w scope d e agree f is);
}

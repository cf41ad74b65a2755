-- Formulas without comparisons and fluents are true or false, and without free variables they are so wherever they stand.
use Rattle.std.proofs.Common.{◌≡◌, ◌≢◌, ◌↔◌, Bool, true, false, List, [], ◌∷◌, ◌++◌, map, Option, Some, None, IsSome, IsSomeAnd, option_map, refl, sym, subst, inl, inr, true≢false}
use Rattle.up_text.specs.declared.name.Name.{Name}
use Rattle.up_text.specs.Lists.{Every, Member}
use Rattle.up_tree.specs.declared.term.Term.{Term, Var, Object, Fluent'}
use Rattle.up_tree.specs.declared.term.Typed.{Typed}
use Rattle.up_tree.specs.declared.formula.Formula.{Formula, And', Or', Atom, Equal, Compare, Row_of-Formula, end_of-Formula, more_of-Formula}
use Rattle.up_tree.specs.declared.problem.Parts.{Parts}
use Rattle.up_tree.specs.declared.problem.Predicate.{Predicate}
use Rattle.up_tree.specs.declared.truth.Truth.{Truth}
use Rattle.up_tree.specs.declared.truth.Truth.TheVariants.{True, False, Undefined}
use Rattle.up_tree.specs.Nodes.{not, imply, exists, forall}
use Rattle.up_tree.specs.Objects.{World, Assignment, assign, tuples, predicate_named}
use Rattle.up_tree.specs.State.{State, ground}
use Rattle.up_tree.specs.Value.{with_both, term_value, values_of, ground_at}
use Rattle.up_tree.specs.Truth.{True as IsTrueIn, False as IsFalseIn, IsUndefined}
use Rattle.up_tree.specs.Judged.{Judges, opposite, either, both, all_of, any_of, atom_truth, equal_truth, of_test, truth_of, truths_of}
use Rattle.up_tree.specs.WellFormed.{IsTerm, TermsFit, HasNoFluent, IsPlain, ArePlain, IsFormula, AreFormulas}
use Rattle.up_tree.proofs.Judging.{judged}
use Rattle.semantics_laws.proofs.Same.{computed}
use Rattle.expansion_forms.specs.Scope.{SameInScope}
use Rattle.expansion_forms.proofs.Scopes.{scope_decides}
use Rattle.condition_laws.specs.Assigned.{IsOfScope}
use Rattle.condition_laws.proofs.Assigning.{of_tuple}

-- ---- values that are there

abbrev pub Sure : Truth → Type 0
Sure t = t ≢ Undefined

pub true_sure : Sure True
true_sure e = apart e
  where
    apart : True ≡ Undefined → ⊥
    apart e = cc

pub false_sure : Sure False
false_sure e = apart e
  where
    apart : False ≡ Undefined → ⊥
    apart e = cc

pub test_sure : (b : Bool) → Sure (of_test b)
test_sure true = true_sure
test_sure false = false_sure

pub opposite_sure : (t : Truth) → Sure t → Sure (opposite t)
opposite_sure True h = false_sure
opposite_sure False h = true_sure
opposite_sure Undefined h = absurd (h refl)

pub either_sure : (t u : Truth) → Sure t → Sure u → Sure (either t u)
either_sure True u h k = true_sure
either_sure False u h k = k
either_sure Undefined u h k = absurd (h refl)

pub both_sure : (t u : Truth) → Sure t → Sure u → Sure (both t u)
both_sure True u h k = k
both_sure False u h k = false_sure
both_sure Undefined u h k = absurd (h refl)

all_sure : (ts : List Truth) → Every Sure ts → Sure (all_of ts)
all_sure [] h = true_sure
all_sure (t ∷ ts) h = both_sure t (all_of ts) h.0 (all_sure ts h.1)

any_sure : (ts : List Truth) → Every Sure ts → Sure (any_of ts)
any_sure [] h = false_sure
any_sure (t ∷ ts) h = either_sure t (any_of ts) h.0 (any_sure ts h.1)

each_sure : {X : Type 0} (f : X → Truth) (xs : List X) → ((x : X) → Member x xs → Sure (f x)) → Every Sure (map f xs)
each_sure f [] h = tt
each_sure f (x ∷ xs) h = (h x (inl refl), each_sure f xs (λ y m. h y (inr m)))

-- an object that is there
abbrev There : Option Name → Type 0
There o = (x : Name) × (o ≡ Some x)

some_there : (o : Option Name) → IsSome o → There o
some_there (Some x) h = (x, refl)
some_there None h = absurd (true≢false (sym h))

equal_sure : (o q : Option Name) → There o → There q → Sure (equal_truth o q)
equal_sure o q h k = subst (λ x. Sure (equal_truth x q)) (sym h.1) (subst (λ y. Sure (equal_truth (Some h.0) y)) (sym k.1) (test_sure _))

pub no_fluent_first : (t : Term) (ts : List Term) → HasNoFluent (t ∷ ts) → HasNoFluent (t ∷ []) × HasNoFluent ts
no_fluent_first (Var v) ts h = (tt, h)
no_fluent_first (Object o) ts h = (tt, h)
no_fluent_first (Fluent' f n us) ts h = absurd h

module _ (p : Parts) (objects : List Typed) (s : State) where
  term_there : (scope : List Typed) (e : Assignment) → IsOfScope scope e → (t : Term) → IsTerm p objects scope t → HasNoFluent (t ∷ []) → There (term_value s e t)
  unfolding IsTerm term_value
  term_there scope e assigned (Var v) is plain = some_there (e v) (assigned v is)
  term_there scope e assigned (Object o) is plain = (o, refl)
  term_there scope e assigned (Fluent' f n ts) is plain = absurd plain

  values_there : (scope : List Typed) (e : Assignment) → IsOfScope scope e → (ts : List Term) (types : List Name) → TermsFit p objects scope ts types → HasNoFluent ts →
      (os : List Name) × (values_of s e ts ≡ Some os)
  values_there scope e assigned [] types fit plain = ([], refl)
  values_there scope e assigned (t ∷ ts) [] fit plain = absurd fit
  values_there scope e assigned (t ∷ ts) (of ∷ types) fit plain =
      let first : There (term_value s e t) = term_there scope e assigned t fit.0.0 (no_fluent_first t ts plain).0 in
      let more : (os : List Name) × (values_of s e ts ≡ Some os) = values_there scope e assigned ts types fit.1 (no_fluent_first t ts plain).1 in
      (first.0 ∷ more.0, joined (term_value s e t) (values_of s e ts) first.0 more.0 first.1 more.1)
    where
      joined : (o : Option Name) (rest : Option (List Name)) (x : Name) (os : List Name) → o ≡ Some x → rest ≡ Some os →
          with_both (λ o os. Some (o ∷ os)) o rest ≡ Some (x ∷ os)
      joined o rest x os h k = λ i. with_both (λ o os. Some (o ∷ os)) (h i) (k i)

  mutual
    unfolding IsFormula AreFormulas IsPlain ArePlain truth_of truths_of

    pub plain_sure : (w : World) (scope : List Typed) (f : Formula) → IsFormula p objects scope f → IsPlain f → (e : Assignment) → IsOfScope scope e → Sure (truth_of w s e f)
    plain_sure w scope (And' n fs) is plain e assigned = all_sure _ (plain_all w scope fs is plain e assigned)
    plain_sure w scope (Or' n fs) is plain e assigned = any_sure _ (plain_all w scope fs is plain e assigned)
    plain_sure w scope (not f) is plain e assigned = opposite_sure _ (plain_sure w scope f is plain e assigned)
    plain_sure w scope (imply f g) is plain e assigned =
        either_sure _ _ (opposite_sure _ (plain_sure w scope f is.0 plain.0 e assigned)) (plain_sure w scope g is.1 plain.1 e assigned)
    plain_sure w scope (exists vars f) is plain e assigned =
        any_sure _ (each_sure (λ tuple. truth_of w s (assign vars tuple e) f) (tuples w vars) (λ tuple m.
        plain_sure w (vars ++ scope) f is.1 plain (assign vars tuple e) (of_tuple w vars scope e assigned tuple m)))
    plain_sure w scope (forall vars f) is plain e assigned =
        all_sure _ (each_sure (λ tuple. truth_of w s (assign vars tuple e) f) (tuples w vars) (λ tuple m.
        plain_sure w (vars ++ scope) f is.1 plain (assign vars tuple e) (of_tuple w vars scope e assigned tuple m)))
    plain_sure w scope (Atom name ts) is plain e assigned = atom_sure (predicate_named p name) is
      where
        atom_sure : (found : Option Predicate) → IsSomeAnd found (λ d. TermsFit p objects scope ts d.args) → Sure (atom_truth s (ground_at s e name ts))
        atom_sure None h = absurd h
        atom_sure (Some d) h =
            let there : (os : List Name) × (values_of s e ts ≡ Some os) = values_there scope e assigned ts d.args h plain in
            subst (λ v. Sure (atom_truth s (option_map (ground name) v))) (sym there.1) (test_sure _)
    plain_sure w scope (Equal t u) is plain e assigned =
        equal_sure (term_value s e t) (term_value s e u) (term_there scope e assigned t is.0 (no_fluent_first t (u ∷ []) plain).0)
        (term_there scope e assigned u is.1 (no_fluent_first t (u ∷ []) plain).1)
    plain_sure w scope (Compare r a b) is plain e assigned = absurd plain

    plain_all : (w : World) (scope : List Typed) {n : _} (fs : Row_of-Formula n) → AreFormulas p objects scope fs → ArePlain fs → (e : Assignment) → IsOfScope scope e →
        Every Sure (truths_of w s e fs)
    plain_all w scope end_of-Formula is plain e assigned = tt
    plain_all w scope (more_of-Formula f fs) is plain e assigned = (plain_sure w scope f is.0 plain.0 e assigned, plain_all w scope fs is.1 plain.1 e assigned)

-- nothing is in scope
pub no_scope : (e : Assignment) → IsOfScope [] e
no_scope e v h = absurd (true≢false (sym h))

-- ---- one truth wherever it stands

pub same_computed : (w : World) (s : State) (d e : Assignment) (f : Formula) → IsTrueIn w s d f ↔ IsTrueIn w s e f → IsFalseIn w s d f ↔ IsFalseIn w s e f →
    truth_of w s d f ≡ truth_of w s e f
same_computed w s d e f right wrong = by (truth_of w s d f) (judged w s d f (truth_of w s d f) refl)
  where
    by : (t : Truth) → Judges w s d f t → t ≡ truth_of w s e f
    by True h = computed w s e f True (right.0 h)
    by False h = computed w s e f False (wrong.0 h)
    by Undefined h = computed w s e f Undefined (λ k. h.0 (right.1 k), λ k. h.1 (wrong.1 k))

pub closed_same : (p : Parts) (objects : List Typed) (w : World) (s : State) (d e : Assignment) (f : Formula) → IsFormula p objects [] f → truth_of w s d f ≡ truth_of w s e f
closed_same p objects w s d e f is =
    let same : SameInScope s d e p objects [] = scope_decides s d e p objects [] (λ v h. absurd (true≢false (sym h))) in
    same_computed w s d e f (same.true_where w f is) (same.false_where w f is)

-- the one truth of a formula that isn't undefined
pub sure_false : (w : World) (s : State) (e : Assignment) (f : Formula) → Sure (truth_of w s e f) → (¬ IsTrueIn w s e f) → IsFalseIn w s e f
sure_false w s e f sure n = by (truth_of w s e f) (judged w s e f (truth_of w s e f) refl) sure
  where
    by : (t : Truth) → Judges w s e f t → Sure t → IsFalseIn w s e f
    by True h sure = absurd (n h)
    by False h sure = h
    by Undefined h sure = absurd (sure refl)

pub not_undefined : (w : World) (s : State) (e : Assignment) (f : Formula) → Sure (truth_of w s e f) → ¬ IsUndefined w s e f
not_undefined w s e f sure h = sure (sym (computed w s e f Undefined h))

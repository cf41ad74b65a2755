-- A plain formula is well-formed with further variables in scope that it doesn't bind.
use Rattle.std.proofs.Common.{◌≡◌, Bool, true, false, cond, true≢false, List, [], ◌∷◌, ◌++◌, map, Option, Some, None, option_map, IsSome, IsSomeAnd, refl, ap, sym, subst, inl, inr}
use Rattle.std.proofs.lemmas.List.{append_assoc}
use Rattle.up_text.specs.declared.name.Name.{Name}
use Rattle.up_text.specs.Names.{same_name}
use Rattle.up_text.specs.Lists.{Every, Member}
use Rattle.up_tree.specs.declared.term.Term.{Term, Var, Object, Fluent'}
use Rattle.up_tree.specs.declared.term.Typed.{Typed}
use Rattle.up_tree.specs.declared.formula.Formula.{Formula, And', Or', Atom, Equal, Compare, Row_of-Formula, end_of-Formula, more_of-Formula}
use Rattle.up_tree.specs.declared.problem.Parts.{Parts}
use Rattle.up_tree.specs.declared.problem.Predicate.{Predicate}
use Rattle.up_tree.specs.Nodes.{not, imply, exists, forall}
use Rattle.up_tree.specs.Objects.{named, predicate_named}
use Rattle.up_tree.specs.WellFormed.{IsBelow, AreVariables, term_type, IsTerm, TermsFit, HasNoFluent, IsPlain, ArePlain, IsFormula, AreFormulas}
use Rattle.compiling_laws.proofs.Lists.{member_left, member_right, member_either}
use Rattle.trajectory_laws.specs.Variables.{names, bound, all_bound}
use Rattle.trajectory_laws.proofs.Told.{no_fluent_first}
use Rattle.trajectory_laws.proofs.Renamed.{map-append, Lacking}

-- ---- further variables in scope

module _ (q : Parts) (objects more : List Typed) where
  first_named : (scope : List Typed) (v : Name) → IsSome (named scope v) → named (scope ++ more) v ≡ named scope v
  first_named [] v h = absurd (true≢false (sym h))
  first_named (x ∷ scope) v h = by (same_name x.name v) (first_named scope v) h
    where
      by : (b : Bool) → (IsSome (named scope v) → named (scope ++ more) v ≡ named scope v) → IsSome (cond b (Some x) (named scope v)) →
          cond b (Some x) (named (scope ++ more) v) ≡ cond b (Some x) (named scope v)
      by true later h = refl
      by false later h = later h

  wider_term : (scope : List Typed) (t : Term) → IsTerm q objects scope t → HasNoFluent (t ∷ []) → IsTerm q objects (scope ++ more) t × (term_type q (scope ++ more) t ≡ term_type q scope t)
  unfolding IsTerm
  wider_term scope (Var v) is plain = (subst IsSome (sym (first_named scope v is)) is, ap (option_map (λ (y : Typed). y.of)) (first_named scope v is))
  wider_term scope (Object o) is plain = (is, refl)
  wider_term scope (Fluent' f n ts) is plain = absurd plain

  wider_terms : (scope : List Typed) (ts : List Term) (types : List Name) → TermsFit q objects scope ts types → HasNoFluent ts → TermsFit q objects (scope ++ more) ts types
  wider_terms scope [] [] fit plain = tt
  wider_terms scope [] (of ∷ types) fit plain = fit
  wider_terms scope (t ∷ ts) [] fit plain = fit
  wider_terms scope (t ∷ ts) (of ∷ types) fit plain =
      let one : IsTerm q objects (scope ++ more) t × (term_type q (scope ++ more) t ≡ term_type q scope t) = wider_term scope t fit.0.0 (no_fluent_first t ts plain).0 in
      ((one.0, subst (λ o. IsSomeAnd o (λ u. IsBelow q u of)) (sym one.1) fit.0.1), wider_terms scope ts types fit.1 (no_fluent_first t ts plain).1)

  wider_atom : (scope : List Typed) (ts : List Term) → HasNoFluent ts → (found : Option Predicate) → IsSomeAnd found (λ d. TermsFit q objects scope ts d.args) →
      IsSomeAnd found (λ d. TermsFit q objects (scope ++ more) ts d.args)
  wider_atom scope ts plain None h = h
  wider_atom scope ts plain (Some d) h = wider_terms scope ts d.args h plain

  abbrev Outside : List Name → Type 0
  Outside vs = (v : Name) → Member v (names more) → Lacking v vs

  names_append : (vars scope : List Typed) → names (vars ++ scope) ≡ names vars ++ names scope
  names_append vars scope = map-append (λ (v : Typed). v.name) vars scope

  wider_variables : (scope vars : List Typed) → Outside (names vars) → AreVariables q scope vars → AreVariables q (scope ++ more) vars
  wider_variables scope vars out are = record {
    names_all = are.names_all;
    differ = are.differ;
    fresh = all_fresh vars out are.fresh;
    typed = are.typed;
  }
    where
      all_fresh : (vars : List Typed) → Outside (names vars) → Every (λ (v : Typed). ¬ Member v.name (map (λ (x : Typed). x.name) scope)) vars →
          Every (λ (v : Typed). ¬ Member v.name (map (λ (x : Typed). x.name) (scope ++ more))) vars
      all_fresh [] out h = tt
      all_fresh (v ∷ vars) out h = (
        λ m. elim (member_either v.name (names scope) (names more) (subst (Member v.name) (names_append scope more) m)) [
          | inl k ↦ h.0 k
          | inr k ↦ out v.name k (inl refl)
        ],
        all_fresh vars (λ x k m. out x k (inr m)) h.1,
      )

  mutual
    unfolding IsFormula AreFormulas IsPlain ArePlain bound all_bound

    pub wider_formula : (scope : List Typed) (f : Formula) → IsFormula q objects scope f → IsPlain f → Outside (bound f) → IsFormula q objects (scope ++ more) f
    wider_formula scope (And' n fs) is plain out = wider_formulas scope fs is plain out
    wider_formula scope (Or' n fs) is plain out = wider_formulas scope fs is plain out
    wider_formula scope (not f) is plain out = wider_formula scope f is plain out
    wider_formula scope (imply f g) is plain out =
        (wider_formula scope f is.0 plain.0 (λ v k m. out v k (member_left v (bound f) (bound g) m)), wider_formula scope g is.1 plain.1 (λ v k m. out v k (member_right v (bound f) (bound g) m)))
    wider_formula scope (exists vars f) is plain out = (
      wider_variables scope vars (λ v k m. out v k (member_left v (names vars) (bound f) m)) is.0,
      subst (λ inside. IsFormula q objects inside f) (append_assoc vars scope more) (wider_formula (vars ++ scope) f is.1 plain (λ v k m. out v k (member_right v (names vars) (bound f) m))),
    )
    wider_formula scope (forall vars f) is plain out = (
      wider_variables scope vars (λ v k m. out v k (member_left v (names vars) (bound f) m)) is.0,
      subst (λ inside. IsFormula q objects inside f) (append_assoc vars scope more) (wider_formula (vars ++ scope) f is.1 plain (λ v k m. out v k (member_right v (names vars) (bound f) m))),
    )
    wider_formula scope (Atom name ts) is plain out = wider_atom scope ts plain (predicate_named q name) is
    wider_formula scope (Equal t u) is plain out =
        ((wider_term scope t is.0 (no_fluent_first t (u ∷ []) plain).0).0, (wider_term scope u is.1 (no_fluent_first t (u ∷ []) plain).1).0)
    wider_formula scope (Compare r a b) is plain out = absurd plain

    wider_formulas : (scope : List Typed) {n : _} (fs : Row_of-Formula n) → AreFormulas q objects scope fs → ArePlain fs → Outside (all_bound fs) → AreFormulas q objects (scope ++ more) fs
    wider_formulas scope end_of-Formula is plain out = tt
    wider_formulas scope (more_of-Formula f fs) is plain out =
        (wider_formula scope f is.0 plain.0 (λ v k m. out v k (member_left v (bound f) (all_bound fs) m)), wider_formulas scope fs is.1 plain.1 (λ v k m. out v k (member_right v (bound f) (all_bound fs) m)))

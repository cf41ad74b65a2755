-- A plain formula with a new name for a bound variable: what it binds, and its form.
use Rattle.std.proofs.Common.{◌≡◌, Bool, true, false, cond, true≢false, List, [], ◌∷◌, ◌++◌, map, Option, Some, None, option_map, IsSome, IsSomeAnd, refl, ap, sym, ◌∙◌, subst, inl, inr}
use Rattle.std.specs.Prelude.{if◌then◌else◌}
use Rattle.std.specs.Cmp.Lexicographic.{bytes_decides}
use Rattle.up_text.specs.declared.name.Name.{Name}
use Rattle.up_text.specs.Names.{same_name, IsName}
use Rattle.up_text.specs.Lists.{Every, Member, Differ}
use Rattle.up_tree.specs.declared.term.Term.{Term, Var, Object, Fluent'}
use Rattle.up_tree.specs.declared.term.Typed.{Typed}
use Rattle.up_tree.specs.declared.formula.Formula.{Formula, And', Or', Atom, Equal, Compare, Row_of-Formula, end_of-Formula, more_of-Formula}
use Rattle.up_tree.specs.declared.problem.Parts.{Parts}
use Rattle.up_tree.specs.declared.problem.Predicate.{Predicate}
use Rattle.up_tree.specs.Nodes.{not, imply, exists, forall}
use Rattle.up_tree.specs.Objects.{named, type_in, predicate_named}
use Rattle.up_tree.specs.WellFormed.{IsType, IsBelow, AreVariables, term_type, IsTerm, TermsFit, HasNoFluent, IsPlain, ArePlain, IsFormula, AreFormulas}
use Rattle.semantics_laws.specs.Replaced.{Replacement, under, replaced, replaced_members}
use Rattle.expansion_laws.specs.Renamed.{new_name, renamed_variables, renamed_term, renamed, renamed_members, TermLacks, Lacks, AllLack}
use Rattle.expansion_laws.proofs.Renaming.{test_of, differ_as}
use Rattle.compiling_laws.proofs.Lists.{member_left, member_right}
use Rattle.trajectory_laws.specs.Variables.{names, bound, all_bound}
use Rattle.trajectory_laws.proofs.Told.{no_fluent_first}

pub map-append : {X Y : Type 0} (f : X → Y) (xs ys : List X) → map f (xs ++ ys) ≡ map f xs ++ map f ys
map-append f [] ys = refl
map-append f (x ∷ xs) ys = ap (λ l. f x ∷ l) (map-append f xs ys)

-- ---- what is bound

renamed_names : (from to : Name) (vars : List Typed) → names (renamed_variables from to vars) ≡ map (new_name from to) (names vars)
renamed_names from to [] = refl
renamed_names from to (v ∷ vars) = ap (λ l. new_name from to v.name ∷ l) (renamed_names from to vars)

mutual
  unfolding bound all_bound renamed renamed_members

  pub bound-renamed : (from to : Name) (f : Formula) → bound (renamed from to f) ≡ map (new_name from to) (bound f)
  bound-renamed from to (And' n fs) = all_bound-renamed from to fs
  bound-renamed from to (Or' n fs) = all_bound-renamed from to fs
  bound-renamed from to (not f) = bound-renamed from to f
  bound-renamed from to (imply f g) =
      (λ i. bound-renamed from to f i ++ bound-renamed from to g i) ∙ sym (map-append (new_name from to) (bound f) (bound g))
  bound-renamed from to (exists vars f) =
      (λ i. renamed_names from to vars i ++ bound-renamed from to f i) ∙ sym (map-append (new_name from to) (names vars) (bound f))
  bound-renamed from to (forall vars f) =
      (λ i. renamed_names from to vars i ++ bound-renamed from to f i) ∙ sym (map-append (new_name from to) (names vars) (bound f))
  bound-renamed from to (Atom name ts) = refl
  bound-renamed from to (Equal t u) = refl
  bound-renamed from to (Compare r a b) = refl

  all_bound-renamed : (from to : Name) {n : _} (fs : Row_of-Formula n) → all_bound (renamed_members from to fs) ≡ map (new_name from to) (all_bound fs)
  all_bound-renamed from to end_of-Formula = refl
  all_bound-renamed from to (more_of-Formula f fs) =
      (λ i. bound-renamed from to f i ++ all_bound-renamed from to fs i) ∙ sym (map-append (new_name from to) (bound f) (all_bound fs))

mutual
  unfolding bound all_bound replaced replaced_members

  pub bound-replaced : (r : Replacement) (f : Formula) → bound (replaced r f) ≡ bound f
  bound-replaced r (And' n fs) = all_bound-replaced r fs
  bound-replaced r (Or' n fs) = all_bound-replaced r fs
  bound-replaced r (not f) = bound-replaced r f
  bound-replaced r (imply f g) = λ i. bound-replaced r f i ++ bound-replaced r g i
  bound-replaced r (exists vars f) = ap (λ l. names vars ++ l) (bound-replaced (under vars r) f)
  bound-replaced r (forall vars f) = ap (λ l. names vars ++ l) (bound-replaced (under vars r) f)
  bound-replaced r (Atom name ts) = refl
  bound-replaced r (Equal t u) = refl
  bound-replaced r (Compare relation a b) = refl

  all_bound-replaced : (r : Replacement) {n : _} (fs : Row_of-Formula n) → all_bound (replaced_members r fs) ≡ all_bound fs
  all_bound-replaced r end_of-Formula = refl
  all_bound-replaced r (more_of-Formula f fs) = λ i. bound-replaced r f i ++ all_bound-replaced r fs i

-- ---- what a formula lacks

abbrev pub Lacking : Name → List Name → Type 0
Lacking v vs = ¬ Member v vs

none_named : (scope : List Typed) (v : Name) → Lacking v (names scope) → ¬ IsSome (named scope v)
none_named [] v n h = true≢false (sym h)
none_named (x ∷ scope) v n h = by (same_name x.name v) refl (none_named scope v (λ m. n (inr m))) h
  where
    by : (b : Bool) → same_name x.name v ≡ b → (¬ IsSome (named scope v)) → ¬ IsSome (cond b (Some x) (named scope v))
    by true is more h = n (inl (sym ((bytes_decides x.name v).0 is)))
    by false is more h = more h

module _ (p : Parts) (objects : List Typed) (v : Name) where
  term_lacks : (scope : List Typed) → Lacking v (names scope) → (t : Term) → IsTerm p objects scope t → HasNoFluent (t ∷ []) → TermLacks v t
  unfolding IsTerm TermLacks
  term_lacks scope out (Var x) is plain = λ e. none_named scope v out (subst (λ y. IsSome (named scope y)) e is)
  term_lacks scope out (Object o) is plain = tt
  term_lacks scope out (Fluent' f n ts) is plain = absurd plain

  terms_lack : (scope : List Typed) → Lacking v (names scope) → (ts : List Term) (types : List Name) → TermsFit p objects scope ts types → HasNoFluent ts → Every (TermLacks v) ts
  terms_lack scope out [] types fit plain = tt
  terms_lack scope out (t ∷ ts) [] fit plain = absurd fit
  terms_lack scope out (t ∷ ts) (of ∷ types) fit plain =
      (term_lacks scope out t fit.0.0 (no_fluent_first t ts plain).0, terms_lack scope out ts types fit.1 (no_fluent_first t ts plain).1)

  atom_lacks : (scope : List Typed) → Lacking v (names scope) → (ts : List Term) → HasNoFluent ts → (found : Option Predicate) → IsSomeAnd found (λ d. TermsFit p objects scope ts d.args) →
      Every (TermLacks v) ts
  atom_lacks scope out ts plain None h = absurd h
  atom_lacks scope out ts plain (Some d) h = terms_lack scope out ts d.args h plain

  vars_lack : (vars : List Typed) → Lacking v (names vars) → Every (λ (x : Typed). ¬ (x.name ≡ v)) vars
  vars_lack [] out = tt
  vars_lack (x ∷ vars) out = (λ e. out (inl (sym e)), vars_lack vars (λ m. out (inr m)))

  in_neither : (vars scope : List Typed) → Lacking v (names vars) → Lacking v (names scope) → Lacking v (names (vars ++ scope))
  in_neither [] scope a b m = b m
  in_neither (x ∷ vars) scope a b (inl e) = a (inl e)
  in_neither (x ∷ vars) scope a b (inr m) = in_neither vars scope (λ k. a (inr k)) b m

  mutual
    unfolding IsFormula AreFormulas IsPlain ArePlain bound all_bound Lacks AllLack

    pub unbound_lacks : (scope : List Typed) → Lacking v (names scope) → (f : Formula) → IsFormula p objects scope f → IsPlain f → Lacking v (bound f) → Lacks v f
    unbound_lacks scope out (And' n fs) is plain free = all_unbound_lack scope out fs is plain free
    unbound_lacks scope out (Or' n fs) is plain free = all_unbound_lack scope out fs is plain free
    unbound_lacks scope out (not f) is plain free = unbound_lacks scope out f is plain free
    unbound_lacks scope out (imply f g) is plain free =
        (unbound_lacks scope out f is.0 plain.0 (λ m. free (member_left v (bound f) (bound g) m)), unbound_lacks scope out g is.1 plain.1 (λ m. free (member_right v (bound f) (bound g) m)))
    unbound_lacks scope out (exists vars f) is plain free =
        let here : Lacking v (names vars) = λ m. free (member_left v (names vars) (bound f) m) in
        (vars_lack vars here, unbound_lacks (vars ++ scope) (in_neither vars scope here out) f is.1 plain (λ m. free (member_right v (names vars) (bound f) m)))
    unbound_lacks scope out (forall vars f) is plain free =
        let here : Lacking v (names vars) = λ m. free (member_left v (names vars) (bound f) m) in
        (vars_lack vars here, unbound_lacks (vars ++ scope) (in_neither vars scope here out) f is.1 plain (λ m. free (member_right v (names vars) (bound f) m)))
    unbound_lacks scope out (Atom name ts) is plain free = atom_lacks scope out ts plain (predicate_named p name) is
    unbound_lacks scope out (Equal t u) is plain free =
        (term_lacks scope out t is.0 (no_fluent_first t (u ∷ []) plain).0, term_lacks scope out u is.1 (no_fluent_first t (u ∷ []) plain).1)
    unbound_lacks scope out (Compare r a b) is plain free = absurd plain

    all_unbound_lack : (scope : List Typed) → Lacking v (names scope) → {n : _} (fs : Row_of-Formula n) → AreFormulas p objects scope fs → ArePlain fs → Lacking v (all_bound fs) → AllLack v fs
    all_unbound_lack scope out end_of-Formula is plain free = tt
    all_unbound_lack scope out (more_of-Formula f fs) is plain free =
        (unbound_lacks scope out f is.0 plain.0 (λ m. free (member_left v (bound f) (all_bound fs) m)), all_unbound_lack scope out fs is.1 plain.1 (λ m. free (member_right v (bound f) (all_bound fs) m)))

-- ---- a renamed formula is plain and well-formed

module _ (from to : Name) where
  no_fluent_renamed : (ts : List Term) → HasNoFluent ts → HasNoFluent (map (renamed_term from to) ts)
  unfolding renamed_term
  no_fluent_renamed [] h = tt
  no_fluent_renamed (Var v ∷ ts) h = no_fluent_renamed ts h
  no_fluent_renamed (Object o ∷ ts) h = no_fluent_renamed ts h
  no_fluent_renamed (Fluent' f n us ∷ ts) h = absurd h

  mutual
    unfolding IsPlain ArePlain renamed renamed_members

    pub renamed_plain : (f : Formula) → IsPlain f → IsPlain (renamed from to f)
    renamed_plain (And' n fs) h = all_renamed_plain fs h
    renamed_plain (Or' n fs) h = all_renamed_plain fs h
    renamed_plain (not f) h = renamed_plain f h
    renamed_plain (imply f g) h = (renamed_plain f h.0, renamed_plain g h.1)
    renamed_plain (exists vars f) h = renamed_plain f h
    renamed_plain (forall vars f) h = renamed_plain f h
    renamed_plain (Atom name ts) h = no_fluent_renamed ts h
    renamed_plain (Equal t u) h = no_fluent_renamed (t ∷ u ∷ []) h
    renamed_plain (Compare r a b) h = h

    all_renamed_plain : {n : _} (fs : Row_of-Formula n) → ArePlain fs → ArePlain (renamed_members from to fs)
    all_renamed_plain end_of-Formula h = h
    all_renamed_plain (more_of-Formula f fs) h = (renamed_plain f h.0, all_renamed_plain fs h.1)

  module _ (q : Parts) (objects : List Typed) (is_name : IsName to) where
    -- the entry of a variable is that of its new name
    other_name : (x v : Name) → (x ≡ to → ⊥) → (v ≡ to → ⊥) → same_name (new_name from to x) (new_name from to v) ≡ same_name x v
    other_name x v not_x not_v = by (same_name x from) refl (same_name v from) refl
      where
        by : (a : Bool) → same_name x from ≡ a → (b : Bool) → same_name v from ≡ b → same_name (if a then to else x) (if b then to else v) ≡ same_name x v
        by true is true at = (bytes_decides to to).1 refl ∙ sym ((bytes_decides x v).1 ((bytes_decides x from).0 is ∙ sym ((bytes_decides v from).0 at)))
        by true is false at =
            test_of to v (λ e. not_v (sym e)) ∙ sym (test_of x v (λ e. differ_as v from at (sym e ∙ (bytes_decides x from).0 is)))
        by false is true at = test_of x to not_x ∙ sym (test_of x v (λ e. differ_as x from is (e ∙ (bytes_decides v from).0 at)))
        by false is false at = refl

    type_renamed : (scope : List Typed) → Lacking to (names scope) → (v : Name) → (v ≡ to → ⊥) → type_in (renamed_variables from to scope) (new_name from to v) ≡ type_in scope v
    type_renamed [] out v n = refl
    type_renamed (x ∷ scope) out v n =
        (λ i. option_map (λ (y : Typed). y.of) (cond (other_name x.name v (λ e. out (inl (sym e))) n i) (Some (let y : Typed = record { name = new_name from to x.name; of = x.of } in y)) (named (renamed_variables from to scope) (new_name from to v))))
        ∙ by (same_name x.name v) (type_renamed scope (λ m. out (inr m)) v n)
      where
        by : (b : Bool) → type_in (renamed_variables from to scope) (new_name from to v) ≡ type_in scope v →
            option_map (λ (y : Typed). y.of) (cond b (Some (let y : Typed = record { name = new_name from to x.name; of = x.of } in y)) (named (renamed_variables from to scope) (new_name from to v)))
            ≡ option_map (λ (y : Typed). y.of) (cond b (Some x) (named scope v))
        by true more = refl
        by false more = more

    some_typed : (scope : List Typed) (v : Name) → IsSome (named scope v) → IsSome (type_in scope v)
    some_typed scope v = by (named scope v)
      where
        by : (o : Option Typed) → IsSome o → IsSome (option_map (λ (y : Typed). y.of) o)
        by None h = absurd (true≢false (sym h))
        by (Some x) h = refl

    typed_some : (scope : List Typed) (v : Name) → IsSome (type_in scope v) → IsSome (named scope v)
    typed_some scope v = by (named scope v)
      where
        by : (o : Option Typed) → IsSome (option_map (λ (y : Typed). y.of) o) → IsSome o
        by None h = absurd (true≢false (sym h))
        by (Some x) h = refl

    in_scope : (scope : List Typed) → Lacking to (names scope) → (v : Name) → IsSome (named scope v) → v ≡ to → ⊥
    in_scope scope out v h e = none_named scope to out (subst (λ y. IsSome (named scope y)) e h)

    term_formed : (scope : List Typed) → Lacking to (names scope) → (t : Term) → IsTerm q objects scope t → HasNoFluent (t ∷ []) → IsTerm q objects (renamed_variables from to scope) (renamed_term from to t)
    unfolding IsTerm renamed_term
    term_formed scope out (Var v) is plain =
        typed_some (renamed_variables from to scope) (new_name from to v)
        (subst IsSome (sym (type_renamed scope out v (in_scope scope out v is))) (some_typed scope v is))
    term_formed scope out (Object o) is plain = is
    term_formed scope out (Fluent' f n ts) is plain = absurd plain

    term_typed : (scope : List Typed) → Lacking to (names scope) → (t : Term) → IsTerm q objects scope t → HasNoFluent (t ∷ []) →
        term_type q (renamed_variables from to scope) (renamed_term from to t) ≡ term_type q scope t
    unfolding IsTerm renamed_term
    term_typed scope out (Var v) is plain = type_renamed scope out v (in_scope scope out v is)
    term_typed scope out (Object o) is plain = refl
    term_typed scope out (Fluent' f n ts) is plain = absurd plain

    terms_formed : (scope : List Typed) → Lacking to (names scope) → (ts : List Term) (types : List Name) → TermsFit q objects scope ts types → HasNoFluent ts →
        TermsFit q objects (renamed_variables from to scope) (map (renamed_term from to) ts) types
    terms_formed scope out [] [] fit plain = tt
    terms_formed scope out [] (of ∷ types) fit plain = fit
    terms_formed scope out (t ∷ ts) [] fit plain = fit
    terms_formed scope out (t ∷ ts) (of ∷ types) fit plain =
        let one : HasNoFluent (t ∷ []) = (no_fluent_first t ts plain).0 in (
          (term_formed scope out t fit.0.0 one, subst (λ o. IsSomeAnd o (λ u. IsBelow q u of)) (sym (term_typed scope out t fit.0.0 one)) fit.0.1),
          terms_formed scope out ts types fit.1 (no_fluent_first t ts plain).1,
        )

    atom_formed : (scope : List Typed) → Lacking to (names scope) → (ts : List Term) → HasNoFluent ts → (found : Option Predicate) → IsSomeAnd found (λ d. TermsFit q objects scope ts d.args) →
        IsSomeAnd found (λ d. TermsFit q objects (renamed_variables from to scope) (map (renamed_term from to) ts) d.args)
    atom_formed scope out ts plain None h = h
    atom_formed scope out ts plain (Some d) h = terms_formed scope out ts d.args h plain

    -- two names are one where their new ones are
    told_apart : (x v : Name) → (x ≡ to → ⊥) → (v ≡ to → ⊥) → new_name from to x ≡ new_name from to v → x ≡ v
    told_apart x v not_x not_v e = (bytes_decides x v).0 (sym (other_name x v not_x not_v) ∙ (bytes_decides (new_name from to x) (new_name from to v)).1 e)

    still_out : (x : Name) → (x ≡ to → ⊥) → (scope : List Typed) → Lacking to (names scope) → Lacking x (names scope) → Lacking (new_name from to x) (names (renamed_variables from to scope))
    still_out x not_x [] out n m = m
    still_out x not_x (y ∷ scope) out n (inl e) = n (inl (told_apart x y.name not_x (λ k. out (inl (sym k))) e))
    still_out x not_x (y ∷ scope) out n (inr m) = still_out x not_x scope (λ k. out (inr k)) (λ k. n (inr k)) m

    variables_formed : (scope vars : List Typed) → Lacking to (names scope) → Lacking to (names vars) → AreVariables q scope vars → AreVariables q (renamed_variables from to scope) (renamed_variables from to vars)
    variables_formed scope vars out other are = record {
      names_all = all_names vars are.names_all;
      differ = all_differ vars other are.differ;
      fresh = all_fresh vars other are.fresh;
      typed = all_typed vars are.typed;
    }
      where
        new_is_name : (x : Name) → IsName x → IsName (new_name from to x)
        new_is_name x h = by (same_name x from)
          where
            by : (b : Bool) → IsName (if b then to else x)
            by true = is_name
            by false = h

        all_names : (vars : List Typed) → Every (λ (v : Typed). IsName v.name) vars → Every (λ (v : Typed). IsName v.name) (renamed_variables from to vars)
        all_names [] h = tt
        all_names (v ∷ vars) h = (new_is_name v.name h.0, all_names vars h.1)

        all_differ : (vars : List Typed) → Lacking to (names vars) → Differ (map (λ (v : Typed). v.name) vars) → Differ (map (λ (v : Typed). v.name) (renamed_variables from to vars))
        all_differ [] other h = tt
        all_differ (v ∷ vars) other h = (still_out v.name (λ e. other (inl (sym e))) vars (λ m. other (inr m)) h.0, all_differ vars (λ m. other (inr m)) h.1)

        all_fresh : (vars : List Typed) → Lacking to (names vars) → Every (λ (v : Typed). ¬ Member v.name (map (λ (x : Typed). x.name) scope)) vars →
            Every (λ (v : Typed). ¬ Member v.name (map (λ (x : Typed). x.name) (renamed_variables from to scope))) (renamed_variables from to vars)
        all_fresh [] other h = tt
        all_fresh (v ∷ vars) other h = (still_out v.name (λ e. other (inl (sym e))) scope out h.0, all_fresh vars (λ m. other (inr m)) h.1)

        all_typed : (vars : List Typed) → Every (λ (v : Typed). IsType q v.of) vars → Every (λ (v : Typed). IsType q v.of) (renamed_variables from to vars)
        all_typed [] h = tt
        all_typed (v ∷ vars) h = (h.0, all_typed vars h.1)

    scope_append : (vars scope : List Typed) → renamed_variables from to (vars ++ scope) ≡ renamed_variables from to vars ++ renamed_variables from to scope
    scope_append vars scope = map-append (λ (x : Typed). let y : Typed = record { name = new_name from to x.name; of = x.of } in y) vars scope

    mutual
      unfolding IsFormula AreFormulas IsPlain ArePlain bound all_bound renamed renamed_members

      pub renamed_formed : (scope : List Typed) → Lacking to (names scope) → (f : Formula) → IsFormula q objects scope f → IsPlain f → Lacking to (bound f) →
          IsFormula q objects (renamed_variables from to scope) (renamed from to f)
      renamed_formed scope out (And' n fs) is plain free = all_renamed_formed scope out fs is plain free
      renamed_formed scope out (Or' n fs) is plain free = all_renamed_formed scope out fs is plain free
      renamed_formed scope out (not f) is plain free = renamed_formed scope out f is plain free
      renamed_formed scope out (imply f g) is plain free =
          (renamed_formed scope out f is.0 plain.0 (λ m. free (member_left to (bound f) (bound g) m)), renamed_formed scope out g is.1 plain.1 (λ m. free (member_right to (bound f) (bound g) m)))
      renamed_formed scope out (exists vars f) is plain free =
          let here : Lacking to (names vars) = λ m. free (member_left to (names vars) (bound f) m) in (
            variables_formed scope vars out here is.0,
            subst (λ inside. IsFormula q objects inside (renamed from to f)) (scope_append vars scope)
                (renamed_formed (vars ++ scope) (in_neither q objects to vars scope here out) f is.1 plain (λ m. free (member_right to (names vars) (bound f) m))),
          )
      renamed_formed scope out (forall vars f) is plain free =
          let here : Lacking to (names vars) = λ m. free (member_left to (names vars) (bound f) m) in (
            variables_formed scope vars out here is.0,
            subst (λ inside. IsFormula q objects inside (renamed from to f)) (scope_append vars scope)
                (renamed_formed (vars ++ scope) (in_neither q objects to vars scope here out) f is.1 plain (λ m. free (member_right to (names vars) (bound f) m))),
          )
      renamed_formed scope out (Atom name ts) is plain free = atom_formed scope out ts plain (predicate_named q name) is
      renamed_formed scope out (Equal t u) is plain free =
          (term_formed scope out t is.0 (no_fluent_first t (u ∷ []) plain).0, term_formed scope out u is.1 (no_fluent_first t (u ∷ []) plain).1)
      renamed_formed scope out (Compare r a b) is plain free = absurd plain

      all_renamed_formed : (scope : List Typed) → Lacking to (names scope) → {n : _} (fs : Row_of-Formula n) → AreFormulas q objects scope fs → ArePlain fs → Lacking to (all_bound fs) →
          AreFormulas q objects (renamed_variables from to scope) (renamed_members from to fs)
      all_renamed_formed scope out end_of-Formula is plain free = tt
      all_renamed_formed scope out (more_of-Formula f fs) is plain free =
          (renamed_formed scope out f is.0 plain.0 (λ m. free (member_left to (bound f) (all_bound fs) m)), all_renamed_formed scope out fs is.1 plain.1 (λ m. free (member_right to (bound f) (all_bound fs) m)))

-- What stands in a guarded formula stands in the formula, but for what a `forall` gets.
use Rattle.std.proofs.Common.{◌≡◌, ◌⊎◌, Bool, true, false, ◌||◌, List, [], ◌∷◌, ◌++◌, map, Option, Some, None, option_map, refl, ap, sym, ◌∙◌, subst, inl, inr, ⊎_elim}
use Rattle.std.specs.List.{list_any, cons_option}
use Rattle.std.proofs.lemmas.List.Folds.{list_any-append}
use Rattle.up_text.specs.declared.name.Name.{Name}
use Rattle.up_text.specs.Lists.{Every}
use Rattle.up_tree.specs.declared.expr.Expr.{Expr}
use Rattle.up_tree.specs.declared.term.Term.{Term, Var}
use Rattle.up_tree.specs.declared.term.Typed.{Typed}
use Rattle.up_tree.specs.declared.formula.Relation.{Relation}
use Rattle.up_tree.specs.declared.formula.Formula.{Formula, And, And', Or, Or', Atom, Equal, Compare, Row_of-Formula, end_of-Formula, more_of-Formula, items-the_row-Formula, items_hidden-the_row-Formula-0}
use Rattle.up_tree.specs.Nodes.{not, imply, exists, forall}
use Rattle.up_tree.specs.Simplify.{is_empty, is_true_formula}
use Rattle.up_kind.specs.Carried.{anywhere, in_row, is_not, is_disjunctive, is_equal, is_exists, is_forall, is_compare}
use Rattle.condition_laws.proofs.Holding.{anywhere-And, anywhere-Or}
use Rattle.expansion_kinds.proofs.Tests.{never, or_cases, or_first, or_second}
use Rattle.types_laws.specs.Guards.{Guard, guard_of, guard_atoms, of_top, and_guarded, guarded_condition, or_unguarded, guarded, all_guarded}

-- ---- the atoms of guards

abbrev pub AreAtoms : List Formula → Type 0
AreAtoms fs = Every (λ f. (name : Name) × (ts : List Term) × (f ≡ Atom name ts)) fs

pub guards_are_atoms : (gs : List Guard) (vars : List Typed) → AreAtoms (guard_atoms gs vars)
guards_are_atoms gs [] = tt
guards_are_atoms gs (x ∷ vars) = by (guard_of gs x.of) (guards_are_atoms gs vars)
  where
    by : (g : Option Guard) → AreAtoms (guard_atoms gs vars) → AreAtoms (cons_option (option_map (λ (g : Guard). Atom g.predicate (Var x.name ∷ [])) g) (guard_atoms gs vars))
    by None more = more
    by (Some g) more = ((g.predicate, Var x.name ∷ [], refl), more)

-- ---- one test of a guarded formula, and one of the formula

abbrev is_or : Formula → Bool
is_or (Or' n fs) = true
is_or f = false

pub record Passes (t u : Formula → Bool) : Type 0 where
  pub of_and : (fs : List Formula) → t (And fs) ≡ false
  pub of_or : (fs : List Formula) (g : Formula) → is_or g ≡ true → t (Or fs) ≡ true → u g ≡ true
  pub of_not : (gs : List Guard) (f : Formula) → t (not (guarded gs f)) ≡ true → u (not f) ≡ true
  pub of_imply : (f g h k : Formula) → t (imply h k) ≡ true → u (imply f g) ≡ true
  pub of_exists : (vars wide : List Typed) (f g : Formula) → t (exists wide g) ≡ true → u (exists vars f) ≡ true
  pub of_forall : (vars wide : List Typed) (f g : Formula) → t (forall wide g) ≡ true → u (forall vars f) ≡ true
  pub or_in_forall : (fs : List Formula) (vars : List Typed) (f : Formula) → t (Or fs) ≡ true → u (forall vars f) ≡ true
  pub not_in_forall : (name : Name) (ts : List Term) (vars : List Typed) (f : Formula) → t (not (Atom name ts)) ≡ true → u (forall vars f) ≡ true
  pub of_atom : (name : Name) (ts : List Term) → t (Atom name ts) ≡ false
  pub of_equal : (a b : Term) → t (Equal a b) ≡ true → u (Equal a b) ≡ true
  pub of_compare : (r : Relation) (a b : Expr) → t (Compare r a b) ≡ true → u (Compare r a b) ≡ true

module _ (t u : Formula → Bool) (passes : Passes t u) where
  no_atom : (f : Formula) → ((name : Name) × (ts : List Term) × (f ≡ Atom name ts)) → anywhere t f ≡ true → ⊥
  unfolding anywhere
  no_atom f is h = never (sym (passes.of_atom is.0 is.1) ∙ subst (λ (f : Formula). anywhere t f ≡ true) is.2 h)

  no_atoms : (fs : List Formula) → AreAtoms fs → list_any (anywhere t) fs ≡ true → ⊥
  no_atoms [] are h = never h
  no_atoms (f ∷ fs) are h = ⊎_elim (no_atom f are.0) (no_atoms fs are.1) (or_cases (anywhere t f) (list_any (anywhere t) fs) h)

  -- behind the atoms the formula alone counts
  last_counts : (fs : List Formula) (f : Formula) → AreAtoms fs → list_any (anywhere t) (fs ++ f ∷ []) ≡ true → anywhere t f ≡ true
  last_counts fs f are h =
      ⊎_elim (λ k. absurd (no_atoms fs are k))
      (λ k. ⊎_elim (λ e. e) (λ e. never e) (or_cases (anywhere t f) false k))
      (or_cases (list_any (anywhere t) fs) (list_any (anywhere t) (f ∷ [])) (sym (list_any-append (anywhere t) fs (f ∷ [])) ∙ h))

  pub in_guarded : (fs : List Formula) (f : Formula) → AreAtoms fs → anywhere t (and_guarded fs f) ≡ true → anywhere t f ≡ true
  in_guarded fs f are h =
      ⊎_elim (λ e. never (sym (passes.of_and (fs ++ f ∷ [])) ∙ e)) (last_counts fs f are)
      (or_cases (t (And (fs ++ f ∷ []))) (list_any (anywhere t) (fs ++ f ∷ [])) (sym (anywhere-And t (fs ++ f ∷ [])) ∙ h))

  pub in_condition : (fs : List Formula) (f : Formula) → AreAtoms fs → anywhere t (guarded_condition fs f) ≡ true → anywhere t f ≡ true
  in_condition [] f are h = h
  in_condition (g ∷ fs) f are h = in_guarded (g ∷ fs) f are h

  negated_atom : (f : Formula) → ((name : Name) × (ts : List Term) × (f ≡ Atom name ts)) → anywhere t (not f) ≡ true → (name : Name) × (ts : List Term) × (t (not (Atom name ts)) ≡ true)
  unfolding anywhere
  negated_atom f is h = (
    is.0,
    is.1,
    ⊎_elim (λ e. e) (λ e. never (sym (passes.of_atom is.0 is.1) ∙ e))
        (or_cases (t (not (Atom is.0 is.1))) (t (Atom is.0 is.1)) (subst (λ (f : Formula). anywhere t (not f) ≡ true) is.2 h)),
  )

  negated_atoms : (fs : List Formula) → AreAtoms fs → list_any (anywhere t) (map (λ b. not b) fs) ≡ true → (name : Name) × (ts : List Term) × (t (not (Atom name ts)) ≡ true)
  negated_atoms [] are h = never h
  negated_atoms (f ∷ fs) are h =
      ⊎_elim (negated_atom f are.0) (negated_atoms fs are.1) (or_cases (anywhere t (not f)) (list_any (anywhere t) (map (λ b. not b) fs)) h)

  in_unguarded : (fs : List Formula) (vars : List Typed) (f g : Formula) → AreAtoms fs → anywhere t (or_unguarded fs g) ≡ true → (u (forall vars f) ≡ true) ⊎ (anywhere t g ≡ true)
  in_unguarded [] vars f g are h = inr h
  in_unguarded (a ∷ fs) vars f g are h =
      ⊎_elim (λ e. inl (passes.or_in_forall all vars f e))
      (λ e. ⊎_elim
      (λ k. let atom : (name : Name) × (ts : List Term) × (t (not (Atom name ts)) ≡ true) = negated_atoms (a ∷ fs) are k in inl (passes.not_in_forall atom.0 atom.1 vars f atom.2))
      (λ k. inr (⊎_elim (λ x. x) (λ x. never x) (or_cases (anywhere t g) false k)))
      (or_cases (list_any (anywhere t) (map (λ b. not b) (a ∷ fs))) (list_any (anywhere t) (g ∷ [])) (sym (list_any-append (anywhere t) (map (λ b. not b) (a ∷ fs)) (g ∷ [])) ∙ e)))
      (or_cases (t (Or all)) (list_any (anywhere t) all) (sym (anywhere-Or t all) ∙ h))
    where
      all : List Formula
      all = map (λ b. not b) (a ∷ fs) ++ g ∷ []

  mutual
    unfolding anywhere in_row guarded all_guarded

    pub passed : (gs : List Guard) (f : Formula) → anywhere t (guarded gs f) ≡ true → anywhere u f ≡ true
    passed gs (And' n fs) h =
        ⊎_elim (λ e. never (sym (passes.of_and (all_guarded gs fs)) ∙ e)) (λ e. or_second (u (And' n fs)) (in_row u fs) (all_passed gs fs e))
        (or_cases (t (And (all_guarded gs fs))) (list_any (anywhere t) (all_guarded gs fs)) (sym (anywhere-And t (all_guarded gs fs)) ∙ h))
    passed gs (Or' n fs) h =
        ⊎_elim (λ e. or_first (u (Or' n fs)) (in_row u fs) (passes.of_or (all_guarded gs fs) (Or' n fs) refl e)) (λ e. or_second (u (Or' n fs)) (in_row u fs) (all_passed gs fs e))
        (or_cases (t (Or (all_guarded gs fs))) (list_any (anywhere t) (all_guarded gs fs)) (sym (anywhere-Or t (all_guarded gs fs)) ∙ h))
    passed gs (not f) h =
        ⊎_elim (λ e. or_first (u (not f)) (anywhere u f) (passes.of_not gs f e)) (λ e. or_second (u (not f)) (anywhere u f) (passed gs f e))
        (or_cases (t (not (guarded gs f))) (anywhere t (guarded gs f)) h)
    passed gs (imply f g) h =
        ⊎_elim (λ e. or_first (u (imply f g)) (anywhere u f || anywhere u g) (passes.of_imply f g (guarded gs f) (guarded gs g) e))
        (λ e. or_second (u (imply f g)) (anywhere u f || anywhere u g)
        (⊎_elim (λ k. or_first (anywhere u f) (anywhere u g) (passed gs f k)) (λ k. or_second (anywhere u f) (anywhere u g) (passed gs g k))
        (or_cases (anywhere t (guarded gs f)) (anywhere t (guarded gs g)) e)))
        (or_cases (t (imply (guarded gs f) (guarded gs g))) (anywhere t (guarded gs f) || anywhere t (guarded gs g)) h)
    passed gs (exists vars f) h =
        ⊎_elim (λ e. or_first (u (exists vars f)) (anywhere u f) (passes.of_exists vars (map of_top vars) f (and_guarded (guard_atoms gs vars) (guarded gs f)) e))
        (λ e. or_second (u (exists vars f)) (anywhere u f) (passed gs f (in_guarded (guard_atoms gs vars) (guarded gs f) (guards_are_atoms gs vars) e)))
        (or_cases (t (exists (map of_top vars) (and_guarded (guard_atoms gs vars) (guarded gs f)))) (anywhere t (and_guarded (guard_atoms gs vars) (guarded gs f))) h)
    passed gs (forall vars f) h =
        ⊎_elim (λ e. or_first (u (forall vars f)) (anywhere u f) (passes.of_forall vars (map of_top vars) f (or_unguarded (guard_atoms gs vars) (guarded gs f)) e))
        (λ e. ⊎_elim (λ k. or_first (u (forall vars f)) (anywhere u f) k) (λ k. or_second (u (forall vars f)) (anywhere u f) (passed gs f k))
        (in_unguarded (guard_atoms gs vars) vars f (guarded gs f) (guards_are_atoms gs vars) e))
        (or_cases (t (forall (map of_top vars) (or_unguarded (guard_atoms gs vars) (guarded gs f)))) (anywhere t (or_unguarded (guard_atoms gs vars) (guarded gs f))) h)
    passed gs (Atom name ts) h = never (sym (passes.of_atom name ts) ∙ h)
    passed gs (Equal a b) h = passes.of_equal a b h
    passed gs (Compare r a b) h = passes.of_compare r a b h

    all_passed : (gs : List Guard) {n : _} (fs : Row_of-Formula n) → list_any (anywhere t) (all_guarded gs fs) ≡ true → in_row u fs ≡ true
    all_passed gs end_of-Formula h = never h
    all_passed gs (more_of-Formula f fs) h =
        ⊎_elim (λ e. or_first (anywhere u f) (in_row u fs) (passed gs f e)) (λ e. or_second (anywhere u f) (in_row u fs) (all_passed gs fs e))
        (or_cases (anywhere t (guarded gs f)) (list_any (anywhere t) (all_guarded gs fs)) h)

-- ---- the six tests

pub equal_passes : Passes is_equal is_equal
equal_passes = record {
  of_and = λ fs. refl;
  of_or = λ fs g is e. never e;
  of_not = λ gs f e. e;
  of_imply = λ f g h k e. e;
  of_exists = λ vars wide f g e. e;
  of_forall = λ vars wide f g e. e;
  or_in_forall = λ fs vars f e. e;
  not_in_forall = λ name ts vars f e. e;
  of_atom = λ name ts. refl;
  of_equal = λ a b e. e;
  of_compare = λ r a b e. e;
}

pub exists_passes : Passes is_exists is_exists
exists_passes = record {
  of_and = λ fs. refl;
  of_or = λ fs g is e. never e;
  of_not = λ gs f e. e;
  of_imply = λ f g h k e. e;
  of_exists = λ vars wide f g e. e;
  of_forall = λ vars wide f g e. e;
  or_in_forall = λ fs vars f e. e;
  not_in_forall = λ name ts vars f e. e;
  of_atom = λ name ts. refl;
  of_equal = λ a b e. e;
  of_compare = λ r a b e. e;
}

pub forall_passes : Passes is_forall is_forall
forall_passes = record {
  of_and = λ fs. refl;
  of_or = λ fs g is e. never e;
  of_not = λ gs f e. e;
  of_imply = λ f g h k e. e;
  of_exists = λ vars wide f g e. e;
  of_forall = λ vars wide f g e. e;
  or_in_forall = λ fs vars f e. refl;
  not_in_forall = λ name ts vars f e. refl;
  of_atom = λ name ts. refl;
  of_equal = λ a b e. e;
  of_compare = λ r a b e. e;
}

pub compare_passes : Passes is_compare is_compare
compare_passes = record {
  of_and = λ fs. refl;
  of_or = λ fs g is e. never e;
  of_not = λ gs f e. e;
  of_imply = λ f g h k e. e;
  of_exists = λ vars wide f g e. e;
  of_forall = λ vars wide f g e. e;
  or_in_forall = λ fs vars f e. e;
  not_in_forall = λ name ts vars f e. e;
  of_atom = λ name ts. refl;
  of_equal = λ a b e. e;
  of_compare = λ r a b e. e;
}

-- a `not`, or a `forall` that gets some
abbrev pub not_or_forall : Formula → Bool
not_or_forall f = is_not f || is_forall f

pub not_passes : Passes is_not not_or_forall
not_passes = record {
  of_and = λ fs. refl;
  of_or = λ fs g is e. never e;
  of_not = λ gs f e. refl;
  of_imply = λ f g h k e. e;
  of_exists = λ vars wide f g e. e;
  of_forall = λ vars wide f g e. refl;
  or_in_forall = λ fs vars f e. refl;
  not_in_forall = λ name ts vars f e. refl;
  of_atom = λ name ts. refl;
  of_equal = λ a b e. e;
  of_compare = λ r a b e. e;
}

-- a disjunction, or a `forall` that gets one
abbrev pub split_or_forall : Formula → Bool
split_or_forall f = is_disjunctive f || is_forall f

split_or : (g : Formula) → is_or g ≡ true → split_or_forall g ≡ true
split_or (And' n fs) h = never h
split_or (Or' n fs) h = refl
split_or (not f) h = never h
split_or (imply f g) h = never h
split_or (exists vars f) h = never h
split_or (forall vars f) h = never h
split_or (Atom name ts) h = never h
split_or (Equal a b) h = never h
split_or (Compare r a b) h = never h

-- a `not` over an atom or an equality stays one
split_not : (gs : List Guard) (f : Formula) → is_disjunctive (not (guarded gs f)) ≡ true → split_or_forall (not f) ≡ true
unfolding guarded
split_not gs (And' n fs) h = refl
split_not gs (Or' n fs) h = refl
split_not gs (not f) h = refl
split_not gs (imply f g) h = refl
split_not gs (exists vars f) h = refl
split_not gs (forall vars f) h = refl
split_not gs (Atom name ts) h = never h
split_not gs (Equal a b) h = never h
split_not gs (Compare r a b) h = refl

pub disjunctive_passes : Passes is_disjunctive split_or_forall
disjunctive_passes = record {
  of_and = λ fs. refl;
  of_or = λ fs g is e. split_or g is;
  of_not = split_not;
  of_imply = λ f g h k e. refl;
  of_exists = λ vars wide f g e. e;
  of_forall = λ vars wide f g e. refl;
  or_in_forall = λ fs vars f e. refl;
  not_in_forall = λ name ts vars f e. refl;
  of_atom = λ name ts. refl;
  of_equal = λ a b e. e;
  of_compare = λ r a b e. e;
}

-- ---- the empty `and`

pub same_always : (gs : List Guard) (f : Formula) → is_true_formula (guarded gs f) ≡ is_true_formula f
unfolding guarded all_guarded
same_always gs (And' n fs) = ap is_empty (items_hidden-the_row-Formula-0 (all_guarded gs fs)) ∙ by fs
  where
    by : {n : _} (fs : Row_of-Formula n) → is_empty (all_guarded gs fs) ≡ is_empty (items-the_row-Formula _ fs)
    by end_of-Formula = refl
    by (more_of-Formula f fs) = refl
same_always gs (Or' n fs) = refl
same_always gs (not f) = refl
same_always gs (imply f g) = refl
same_always gs (exists vars f) = refl
same_always gs (forall vars f) = refl
same_always gs (Atom name ts) = refl
same_always gs (Equal a b) = refl
same_always gs (Compare r a b) = refl

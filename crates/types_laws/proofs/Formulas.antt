-- Guarded formulas, rows and actions are well-formed.
use Rattle.std.proofs.Common.{◌≡◌, Bool, true, false, cond, List, [], ◌∷◌, ◌++◌, map, take, is_some, Option, Some, None, option_map, IsSome, refl, ap, sym, subst, inl, inr}
use Rattle.std.proofs.lemmas.List.{map-append, take-map}
use Rattle.std.specs.List.{cons_option}
use Rattle.std.specs.Cmp.Lexicographic.{bytes_decides}
use Rattle.up_text.specs.declared.name.Name.{Name}
use Rattle.up_text.specs.Names.{same_name}
use Rattle.up_text.specs.Lists.{Every, Member}
use Rattle.up_tree.specs.declared.term.Term.{Var}
use Rattle.up_tree.specs.declared.term.Typed.{Typed}
use Rattle.up_tree.specs.declared.formula.Formula.{Formula, And', Or', Atom, Equal, Compare, Row_of-Formula, end_of-Formula, more_of-Formula}
use Rattle.up_tree.specs.declared.action.Row.{Row}
use Rattle.up_tree.specs.declared.action.Action.{Action}
use Rattle.up_tree.specs.declared.problem.Predicate.{Predicate}
use Rattle.up_tree.specs.declared.problem.Parts.{Parts}
use Rattle.up_tree.specs.Nodes.{not, imply, exists, forall}
use Rattle.up_tree.specs.Objects.{named}
use Rattle.up_tree.specs.WellFormed.{IsWellFormed, TermsFit, IsFormula, AreFormulas, IsEffect, IsRow, IsAction}
use Rattle.semantics_laws.proofs.Lists.{each_map, each_as}
use Rattle.up_eval.proofs.Types.{at_some}
use Rattle.expansion_forms.proofs.Formulas.{IsFormula-And, IsFormula-Or}
use Rattle.types_laws.specs.Guards.{Guard, guards, guard_of, guard_atoms, of_top, and_guarded, guarded_condition, or_unguarded, guarded, all_guarded}
use Rattle.types_laws.specs.Types.{guard_predicate, guarded_row, guarded_action, untyped}
use Rattle.types_laws.proofs.Lookup.{guard_found}
use Rattle.types_laws.proofs.Plans.{NoObjectFunction}
use Rattle.types_laws.proofs.Terms.{guard_there, variables_top, var_top, term_top, atom_top, expr_top, effect_top}

-- the first of the variables is in scope, and the others are
named_first : (vars scope : List Typed) (x : Typed) → IsSome (named (x ∷ vars ++ scope) x.name)
named_first vars scope x = ap (λ b. is_some (cond b (Some x) (named (vars ++ scope) x.name))) ((bytes_decides x.name x.name).1 refl)

named_later : (scope : List Typed) (x : Typed) (n : Name) → IsSome (named scope n) → IsSome (named (x ∷ scope) n)
named_later scope x n h = by (same_name x.name n)
  where
    by : (b : Bool) → IsSome (cond b (Some x) (named scope n))
    by true = refl
    by false = h

module _ (q : Parts) (objects scope : List Typed) where
  abbrev Well : Formula → Type 0
  Well = IsFormula q objects scope

  every_last : (fs : List Formula) (f : Formula) → Every Well fs → Well f → Every Well (fs ++ f ∷ [])
  every_last [] f each h = (h, tt)
  every_last (g ∷ fs) f each h = (each.0, every_last fs f each.1 h)

  pub and_well : (atoms : List Formula) (f : Formula) → Every Well atoms → Well f → Well (and_guarded atoms f)
  and_well atoms f each h = subst (λ X. X) (sym (IsFormula-And q objects scope (atoms ++ f ∷ []))) (every_last atoms f each h)

  pub condition_well : (atoms : List Formula) (f : Formula) → Every Well atoms → Well f → Well (guarded_condition atoms f)
  condition_well [] f each h = h
  condition_well (a ∷ atoms) f each h = and_well (a ∷ atoms) f each h

  nots_well : (atoms : List Formula) → Every Well atoms → Every Well (map (λ b. not b) atoms)
  unfolding IsFormula
  nots_well [] each = tt
  nots_well (a ∷ atoms) each = (each.0, nots_well atoms each.1)

  pub or_well : (atoms : List Formula) (f : Formula) → Every Well atoms → Well f → Well (or_unguarded atoms f)
  or_well [] f each h = h
  or_well (a ∷ atoms) f each h =
      subst (λ X. X) (sym (IsFormula-Or q objects scope (map (λ b. not b) (a ∷ atoms) ++ f ∷ []))) (every_last (map (λ b. not b) (a ∷ atoms)) f (nots_well (a ∷ atoms) each) h)

module _ (p : Parts) (well : IsWellFormed p) (plain : NoObjectFunction p) where
  abbrev pub q : Parts
  q = untyped p

  atom_well : (objects scope : List Typed) (g : Guard) (v : Name) → Member g (guards p) → IsSome (named scope v) →
      IsFormula q (map of_top objects) (map of_top scope) (Atom g.predicate (Var v ∷ []))
  unfolding IsFormula
  atom_well objects scope g v m h =
      at_some _ (guard_predicate g) (λ (d : Predicate). TermsFit q (map of_top objects) (map of_top scope) (Var v ∷ []) d.args) (guard_there p well plain g m)
      (var_top p well plain objects scope v h, tt)

  atoms_in : (objects scope : List Typed) (vars : List Typed) → ((v : Typed) → Member v vars → IsSome (named scope v.name)) →
      Every (IsFormula q (map of_top objects) (map of_top scope)) (guard_atoms (guards p) vars)
  atoms_in objects scope [] there = tt
  atoms_in objects scope (x ∷ vars) there = by (guard_of (guards p) x.of) refl (atoms_in objects scope vars (λ v m. there v (inr m)))
    where
      by : (g : Option Guard) → guard_of (guards p) x.of ≡ g → Every (IsFormula q (map of_top objects) (map of_top scope)) (guard_atoms (guards p) vars) →
          Every (IsFormula q (map of_top objects) (map of_top scope)) (cons_option (option_map (λ (g : Guard). Atom g.predicate (Var x.name ∷ [])) g) (guard_atoms (guards p) vars))
      by None is more = more
      by (Some g) is more = (atom_well objects scope g x.name (guard_found (guards p) x.of g is).0 (there x (inl refl)), more)

  in_scope : (vars scope : List Typed) (v : Typed) → Member v vars → IsSome (named (vars ++ scope) v.name)
  in_scope [] scope v m = absurd m
  in_scope (x ∷ vars) scope v (inl e) = subst (λ (y : Typed). IsSome (named (x ∷ vars ++ scope) y.name)) (sym e) (named_first vars scope x)
  in_scope (x ∷ vars) scope v (inr m) = named_later (vars ++ scope) x v.name (in_scope vars scope v m)

  pub atoms_well : (objects scope vars : List Typed) → Every (IsFormula q (map of_top objects) (map of_top (vars ++ scope))) (guard_atoms (guards p) vars)
  atoms_well objects scope vars = atoms_in objects (vars ++ scope) vars (in_scope vars scope)

  outside : (objects vars scope : List Typed) (f : Formula) → IsFormula q (map of_top objects) (map of_top (vars ++ scope)) f →
      IsFormula q (map of_top objects) (map of_top vars ++ map of_top scope) f
  outside objects vars scope f h = subst (λ l. IsFormula q (map of_top objects) l f) (map-append of_top vars scope) h

  mutual
    unfolding IsFormula AreFormulas guarded all_guarded

    pub guarded_well : (objects scope : List Typed) (f : Formula) → IsFormula p objects scope f → IsFormula q (map of_top objects) (map of_top scope) (guarded (guards p) f)
    guarded_well objects scope (And' n fs) is =
        subst (λ X. X) (sym (IsFormula-And q (map of_top objects) (map of_top scope) (all_guarded (guards p) fs))) (all_well objects scope fs is)
    guarded_well objects scope (Or' n fs) is =
        subst (λ X. X) (sym (IsFormula-Or q (map of_top objects) (map of_top scope) (all_guarded (guards p) fs))) (all_well objects scope fs is)
    guarded_well objects scope (not f) is = guarded_well objects scope f is
    guarded_well objects scope (imply f g) is = (guarded_well objects scope f is.0, guarded_well objects scope g is.1)
    guarded_well objects scope (exists vars f) is = (
      variables_top p well plain scope vars is.0,
      outside objects vars scope (and_guarded (guard_atoms (guards p) vars) (guarded (guards p) f))
          (and_well q (map of_top objects) (map of_top (vars ++ scope)) (guard_atoms (guards p) vars) (guarded (guards p) f) (atoms_well objects scope vars) (guarded_well objects (vars ++ scope) f is.1)),
    )
    guarded_well objects scope (forall vars f) is = (
      variables_top p well plain scope vars is.0,
      outside objects vars scope (or_unguarded (guard_atoms (guards p) vars) (guarded (guards p) f))
          (or_well q (map of_top objects) (map of_top (vars ++ scope)) (guard_atoms (guards p) vars) (guarded (guards p) f) (atoms_well objects scope vars) (guarded_well objects (vars ++ scope) f is.1)),
    )
    guarded_well objects scope (Atom name ts) is = atom_top p well plain objects scope name ts is
    guarded_well objects scope (Equal t u) is = (term_top p well plain objects scope t is.0, term_top p well plain objects scope u is.1)
    guarded_well objects scope (Compare r a b) is = (expr_top p well plain objects scope a is.0, expr_top p well plain objects scope b is.1)

    all_well : (objects scope : List Typed) {n : _} (fs : Row_of-Formula n) → AreFormulas p objects scope fs →
        Every (IsFormula q (map of_top objects) (map of_top scope)) (all_guarded (guards p) fs)
    all_well objects scope end_of-Formula is = tt
    all_well objects scope (more_of-Formula f fs) is = (guarded_well objects scope f is.0, all_well objects scope fs is.1)

  row_well : (objects scope : List Typed) (r : Row) → IsRow p objects scope r → IsRow q (map of_top objects) (map of_top scope) (guarded_row (guards p) r)
  row_well objects scope r is = record {
    vars = variables_top p well plain scope r.vars is.vars;
    when = outside objects r.vars scope (guarded_condition (guard_atoms (guards p) r.vars) (guarded (guards p) r.when))
        (condition_well q (map of_top objects) (map of_top (r.vars ++ scope)) (guard_atoms (guards p) r.vars) (guarded (guards p) r.when) (atoms_well objects scope r.vars)
        (guarded_well objects (r.vars ++ scope) r.when is.when));
    effect = subst (λ l. IsEffect q (map of_top objects) l r.effect) (map-append of_top r.vars scope) (effect_top p well plain objects (r.vars ++ scope) r.effect is.effect);
  }

  pub action_well : (a : Action) → IsAction p a → IsAction q (guarded_action (guards p) a)
  action_well a is =
      let same : map of_top (take p.constants p.objects) ≡ take q.constants q.objects = sym (take-map of_top p.constants p.objects) in
      record {
        params = variables_top p well plain [] a.params is.params;
        pre = subst (λ l. IsFormula q l (map of_top a.params) (and_guarded (guard_atoms (guards p) a.params) (guarded (guards p) a.pre))) same
            (and_well q (map of_top (take p.constants p.objects)) (map of_top a.params) (guard_atoms (guards p) a.params) (guarded (guards p) a.pre)
            (atoms_in (take p.constants p.objects) a.params a.params (λ v m. alone a.params v m)) (guarded_well (take p.constants p.objects) a.params a.pre is.pre));
        rows = subst (λ l. Every (IsRow q l (map of_top a.params)) (map (guarded_row (guards p)) a.rows)) same
            (each_map _ (guarded_row (guards p)) a.rows (each_as _ _ (λ r h. row_well (take p.constants p.objects) a.params r h) a.rows is.rows));
      }
    where
      alone : (vars : List Typed) (v : Typed) → Member v vars → IsSome (named vars v.name)
      alone [] v m = absurd m
      alone (x ∷ vars) v (inl e) = subst (λ (y : Typed). IsSome (named (x ∷ vars) y.name)) (sym e) (first x vars)
        where
          first : (x : Typed) (vars : List Typed) → IsSome (named (x ∷ vars) x.name)
          first x vars = ap (λ b. is_some (cond b (Some x) (named vars x.name))) ((bytes_decides x.name x.name).1 refl)
      alone (x ∷ vars) v (inr m) = named_later vars x v.name (alone vars v m)

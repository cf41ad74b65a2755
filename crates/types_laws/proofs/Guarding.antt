-- A formula with guards has in a world without types the truth that the formula has.
use Rattle.std.proofs.Common.{◌≡◌, ◌&&◌, List, [], ◌∷◌, ◌++◌, map, Option, Some, None, option_map, refl, ap, sym, ◌∙◌}
use Rattle.std.specs.List.{cons_option}
use Rattle.std.specs.FinSet as set
use Rattle.up_text.specs.declared.name.Name.{Name}
use Rattle.up_text.specs.Lists.{Every, Member, Differ}
use Rattle.up_tree.specs.declared.formula.Formula.{Formula, And', Or', Atom, Equal, Compare, Row_of-Formula, end_of-Formula, more_of-Formula}
use Rattle.up_tree.specs.declared.term.Term.{Var}
use Rattle.up_tree.specs.declared.term.Typed.{Typed}
use Rattle.up_tree.specs.declared.truth.Truth.{Truth}
use Rattle.up_tree.specs.declared.problem.Parts.{Parts}
use Rattle.up_tree.specs.Nodes.{not, imply, exists, forall}
use Rattle.up_tree.specs.Objects.{World, world, Assignment, assign, is_of, tuples}
use Rattle.up_tree.specs.State.{State, ground}
use Rattle.up_tree.specs.Value.{with_both, term_value}
use Rattle.up_tree.specs.Judged.{opposite, both, either, all_of, any_of, of_test, atom_truth, truth_of, truths_of}
use Rattle.up_tree.specs.WellFormed.{IsWellFormed, IsType, IsFormula, AreFormulas}
use Rattle.semantics_laws.proofs.Lists.{each_member, same_map}
use Rattle.condition_laws.proofs.Values.{both_true, either_false, all_append, any_append}
use Rattle.expansion_laws.specs.Tuples.{fits}
use Rattle.expansion_laws.proofs.Lists.{map_of_map}
use Rattle.expansion_laws.proofs.Truths.{truth_of-And, truth_of-Or}
use Rattle.types_laws.specs.Guards.{Guard, guards, guard_of, guard_atoms, of_top, and_guarded, guarded_condition, or_unguarded, guarded, all_guarded}
use Rattle.types_laws.proofs.Tests.{both_tests, any_filtered, all_filtered, any_opposite}
use Rattle.types_laws.proofs.Lookup.{guard_found, top_without, of_all}
use Rattle.types_laws.proofs.Fitting.{names, assign_top, At, assigned_at, IsWhole, w, v, among_all, wholes}

-- ---- formulas behind their atoms, in any world

module _ (u : World) (t : State) (d : Assignment) where
  pub and_guarded_truth : (atoms : List Formula) (f : Formula) → truth_of u t d (and_guarded atoms f) ≡ both (all_of (map (truth_of u t d) atoms)) (truth_of u t d f)
  and_guarded_truth atoms f =
      truth_of-And u t d (atoms ++ f ∷ []) ∙ all_append (truth_of u t d) atoms (f ∷ [])
      ∙ ap (both (all_of (map (truth_of u t d) atoms))) (both_true (truth_of u t d f))

  pub guarded_condition_truth : (atoms : List Formula) (f : Formula) → truth_of u t d (guarded_condition atoms f) ≡ both (all_of (map (truth_of u t d) atoms)) (truth_of u t d f)
  guarded_condition_truth [] f = refl
  guarded_condition_truth (a ∷ atoms) f = and_guarded_truth (a ∷ atoms) f

  not_is : (f : Formula) → truth_of u t d (not f) ≡ opposite (truth_of u t d f)
  unfolding truth_of
  not_is f = refl

  nots : (atoms : List Formula) → any_of (map (truth_of u t d) (map (λ b. not b) atoms)) ≡ opposite (all_of (map (truth_of u t d) atoms))
  nots atoms =
      ap any_of (map_of_map (truth_of u t d) (λ b. not b) atoms ∙ (λ i. map (λ a. not_is a i) atoms))
      ∙ any_opposite (truth_of u t d) atoms

  pub or_unguarded_truth : (atoms : List Formula) (f : Formula) → truth_of u t d (or_unguarded atoms f) ≡ either (opposite (all_of (map (truth_of u t d) atoms))) (truth_of u t d f)
  or_unguarded_truth [] f = refl
  or_unguarded_truth (a ∷ atoms) f =
      truth_of-Or u t d (map (λ b. not b) (a ∷ atoms) ++ f ∷ []) ∙ any_append (truth_of u t d) (map (λ b. not b) (a ∷ atoms)) (f ∷ [])
      ∙ (λ i. either (nots (a ∷ atoms) i) (either_false (truth_of u t d f) i))

-- ---- where the guards hold of the objects of their types

-- in the state each guard's predicate holds of an object alone where that is of the type
abbrev pub Guarding : Parts → State → Type 0
Guarding p t = (g : Guard) → Member g (guards p) → (o : Name) → set.contains t.atoms (ground g.predicate (o ∷ [])) ≡ is_of (world p) o g.of

module _ (p : Parts) (well : IsWellFormed p) (t : State) (guarding : Guarding p t) where
  one_atom : (u : World) (d : Assignment) (g : Guard) (x o : Name) → Member g (guards p) → d x ≡ Some o →
      truth_of u t d (Atom g.predicate (Var x ∷ [])) ≡ of_test (is_of (world p) o g.of)
  unfolding truth_of term_value
  one_atom u d g x o m at =
      ap (λ (y : Option Name). atom_truth t (option_map (ground g.predicate) (with_both (λ o objects. Some (o ∷ objects)) y (Some [])))) at
      ∙ ap of_test (guarding g m o)

  -- the atoms are true exactly of the tuples that fit
  pub atoms_truth : (u : World) (d : Assignment) (vars : List Typed) (tuple : List Name) → Every (λ (x : Typed). IsType p x.of) vars → At d vars tuple →
      Every (λ o. Member o (names p.objects)) tuple → all_of (map (truth_of u t d) (guard_atoms (guards p) vars)) ≡ of_test (fits (world p) vars tuple)
  atoms_truth u d [] [] types at objects = refl
  atoms_truth u d [] (o ∷ tuple) types at objects = absurd at
  atoms_truth u d (x ∷ vars) [] types at objects = absurd at
  atoms_truth u d (x ∷ vars) (o ∷ tuple) types at objects = by (guard_of (guards p) x.of) refl (atoms_truth u d vars tuple types.1 at.1 objects.1)
    where
      by : (g : Option Guard) → guard_of (guards p) x.of ≡ g →
          all_of (map (truth_of u t d) (guard_atoms (guards p) vars)) ≡ of_test (fits (world p) vars tuple) →
          all_of (map (truth_of u t d) (cons_option (option_map (λ (g : Guard). Atom g.predicate (Var x.name ∷ [])) g) (guard_atoms (guards p) vars)))
          ≡ of_test (is_of (world p) o x.of && fits (world p) vars tuple)
      by None is more =
          more ∙ ap (λ b. of_test (b && fits (world p) vars tuple)) (sym (ap (is_of (world p) o) (top_without p well x.of types.0 is) ∙ of_all p well o objects.0))
      by (Some g) is more =
          let here : Member g (guards p) × (g.of ≡ x.of) = guard_found (guards p) x.of g is in
          (λ i. both (one_atom u d g x.name o here.0 at.0 i) (more i)) ∙ both_tests (is_of (world p) o g.of) (fits (world p) vars tuple)
          ∙ ap (λ of. of_test (is_of (world p) o of && fits (world p) vars tuple)) here.1

  pub tuple_truth : (u : World) (e : Assignment) (vars : List Typed) (tuple : List Name) → Differ (names vars) → Every (λ (x : Typed). IsType p x.of) vars → IsWhole p vars tuple →
      all_of (map (truth_of u t (assign vars tuple e)) (guard_atoms (guards p) vars)) ≡ of_test (fits (world p) vars tuple)
  tuple_truth u e vars tuple differ types whole =
      atoms_truth u (assign vars tuple e) vars tuple types (assigned_at vars tuple e differ whole.as_many) whole.objects

  module _ (vars : List Typed) (differ : Differ (names vars)) (types : Every (λ (x : Typed). IsType p x.of) vars) (e : Assignment) (f g : Formula)
      (same : (d : Assignment) → truth_of (v p) t d g ≡ truth_of (w p) t d f) where
    abbrev value : List Name → Truth
    value tuple = truth_of (w p) t (assign vars tuple e) f

    abbrev Joined : (Truth → Truth → Truth) → (List Formula → Formula → Formula) → Type 0
    Joined join made = (d : Assignment) (atoms : List Formula) → truth_of (v p) t d (made atoms g) ≡ join (all_of (map (truth_of (v p) t d) atoms)) (truth_of (v p) t d g)

    -- each tuple of objects by itself
    pub at_tuple : (join : Truth → Truth → Truth) (made : List Formula → Formula → Formula) → Joined join made → (tuple : List Name) → Member tuple (tuples (v p) (map of_top vars)) →
        truth_of (v p) t (assign (map of_top vars) tuple e) (made (guard_atoms (guards p) vars) g) ≡ join (of_test (fits (w p) vars tuple)) (value tuple)
    at_tuple join made joined tuple m =
        ap (λ d. truth_of (v p) t d (made (guard_atoms (guards p) vars) g)) (assign_top vars tuple e)
        ∙ joined (assign vars tuple e) (guard_atoms (guards p) vars)
        ∙ (λ i. join (tuple_truth (v p) e vars tuple differ types (wholes p vars tuple m) i) (same (assign vars tuple e) i))

    pub exists_truth : any_of (map (λ tuple. truth_of (v p) t (assign (map of_top vars) tuple e) (and_guarded (guard_atoms (guards p) vars) g)) (tuples (v p) (map of_top vars)))
        ≡ any_of (map value (tuples (w p) vars))
    exists_truth =
        ap any_of (same_map (λ tuple. truth_of (v p) t (assign (map of_top vars) tuple e) (and_guarded (guard_atoms (guards p) vars) g))
        (λ tuple. both (of_test (fits (w p) vars tuple)) (value tuple)) (tuples (v p) (map of_top vars))
        (each_member _ (tuples (v p) (map of_top vars)) (at_tuple both and_guarded (λ d atoms. and_guarded_truth (v p) t d atoms g))))
        ∙ any_filtered (fits (w p) vars) value (tuples (v p) (map of_top vars))
        ∙ ap (λ l. any_of (map value l)) (sym (among_all p well.objects.differ vars))

    pub forall_truth : all_of (map (λ tuple. truth_of (v p) t (assign (map of_top vars) tuple e) (or_unguarded (guard_atoms (guards p) vars) g)) (tuples (v p) (map of_top vars)))
        ≡ all_of (map value (tuples (w p) vars))
    forall_truth =
        ap all_of (same_map (λ tuple. truth_of (v p) t (assign (map of_top vars) tuple e) (or_unguarded (guard_atoms (guards p) vars) g))
        (λ tuple. either (opposite (of_test (fits (w p) vars tuple))) (value tuple)) (tuples (v p) (map of_top vars))
        (each_member _ (tuples (v p) (map of_top vars)) (at_tuple (λ a b. either (opposite a) b) or_unguarded (λ d atoms. or_unguarded_truth (v p) t d atoms g))))
        ∙ all_filtered (fits (w p) vars) value (tuples (v p) (map of_top vars))
        ∙ ap (λ l. all_of (map value l)) (sym (among_all p well.objects.differ vars))

  mutual
    unfolding truth_of truths_of guarded all_guarded IsFormula AreFormulas

    pub guarded_truth : (objects scope : List Typed) (e : Assignment) (f : Formula) → IsFormula p objects scope f →
        truth_of (v p) t e (guarded (guards p) f) ≡ truth_of (w p) t e f
    guarded_truth objects scope e (And' n fs) h = truth_of-And (v p) t e (all_guarded (guards p) fs) ∙ ap all_of (guarded_truths objects scope e fs h)
    guarded_truth objects scope e (Or' n fs) h = truth_of-Or (v p) t e (all_guarded (guards p) fs) ∙ ap any_of (guarded_truths objects scope e fs h)
    guarded_truth objects scope e (not f) h = ap opposite (guarded_truth objects scope e f h)
    guarded_truth objects scope e (imply f g) h = λ i. either (opposite (guarded_truth objects scope e f h.0 i)) (guarded_truth objects scope e g h.1 i)
    guarded_truth objects scope e (exists vars f) h =
        exists_truth vars h.0.differ h.0.typed e f (guarded (guards p) f) (λ d. guarded_truth objects (vars ++ scope) d f h.1)
    guarded_truth objects scope e (forall vars f) h =
        forall_truth vars h.0.differ h.0.typed e f (guarded (guards p) f) (λ d. guarded_truth objects (vars ++ scope) d f h.1)
    guarded_truth objects scope e (Atom name ts) h = refl
    guarded_truth objects scope e (Equal a b) h = refl
    guarded_truth objects scope e (Compare r a b) h = refl

    guarded_truths : (objects scope : List Typed) (e : Assignment) {n : _} (fs : Row_of-Formula n) → AreFormulas p objects scope fs →
        map (truth_of (v p) t e) (all_guarded (guards p) fs) ≡ truths_of (w p) t e fs
    guarded_truths objects scope e end_of-Formula h = refl
    guarded_truths objects scope e (more_of-Formula f fs) h = λ i. guarded_truth objects scope e f h.0 i ∷ guarded_truths objects scope e fs h.1 i

-- Formulas whose scope is covered.
use Rattle.std.proofs.Common.{◌≡◌, List, ◌++◌, map, refl, ap, sym, ◌∙◌, subst}
use Rattle.up_text.specs.declared.name.Name.{Name}
use Rattle.up_text.specs.Lists.{Every, Member}
use Rattle.up_tree.specs.declared.term.Typed.{Typed}
use Rattle.up_tree.specs.declared.formula.Formula.{Formula, And, And', Or, Or', Atom, Equal, Compare, Row_of-Formula, end_of-Formula, more_of-Formula, items-the_row-Formula, items_hidden-the_row-Formula-0}
use Rattle.up_tree.specs.declared.formula.Formula.TheBlock.{hidden-the_row-Formula-0}
use Rattle.up_tree.specs.declared.problem.Parts.{Parts}
use Rattle.up_tree.specs.Nodes.{not, imply, exists, forall}
use Rattle.up_tree.specs.Objects.{world, Assignment, assign, tuples}
use Rattle.up_tree.specs.WellFormed.{IsWellFormed, IsType, AreVariables, IsFormula, AreFormulas}
use Rattle.semantics_laws.specs.Replaced.{under, replaced, replaced_members}
use Rattle.semantics_laws.proofs.Lists.{each_as, each_map, each_member}
use Rattle.expansion_laws.specs.Expanded.{expanded, all_expanded}
use Rattle.expansion_forms.specs.Covered.{Declares, AreObjects, Covers}
use Rattle.expansion_forms.proofs.Covering.{names, covers_tuple, covers_under}
use Rattle.expansion_forms.proofs.Terms.{term_well, atom_well, expr_well}

-- ---- at the nodes that code builds of a list

module _ (p : Parts) (objects scope : List Typed) where
  AreFormulas-items : {n : _} (fs : Row_of-Formula n) → AreFormulas p objects scope fs ≡ Every (IsFormula p objects scope) (items-the_row-Formula _ fs)
  unfolding AreFormulas
  AreFormulas-items end_of-Formula = refl
  AreFormulas-items (more_of-Formula f fs) = ap (λ X. IsFormula p objects scope f × X) (AreFormulas-items fs)

  pub IsFormula-And : (fs : List Formula) → IsFormula p objects scope (And fs) ≡ Every (IsFormula p objects scope) fs
  unfolding IsFormula
  IsFormula-And fs = AreFormulas-items (hidden-the_row-Formula-0 fs) ∙ ap (Every (IsFormula p objects scope)) (items_hidden-the_row-Formula-0 fs)

  pub IsFormula-Or : (fs : List Formula) → IsFormula p objects scope (Or fs) ≡ Every (IsFormula p objects scope) fs
  unfolding IsFormula
  IsFormula-Or fs = AreFormulas-items (hidden-the_row-Formula-0 fs) ∙ ap (Every (IsFormula p objects scope)) (items_hidden-the_row-Formula-0 fs)

-- ---- variable lists

fresh_outside : (scope outer : List Typed) → ((v : Name) → Member v (names outer) → Member v (names scope)) → (vars : List Typed) →
    Every (λ (v : Typed). ¬ Member v.name (names scope)) vars → Every (λ (v : Typed). ¬ Member v.name (names outer)) vars
fresh_outside scope outer within vars fresh =
    each_as (λ (v : Typed). ¬ Member v.name (names scope)) (λ (v : Typed). ¬ Member v.name (names outer)) (λ v n m. n (within v.name m)) vars fresh

pub variables_well : (p q : Parts) → Declares p q → (scope outer vars : List Typed) → ((v : Name) → Member v (names outer) → Member v (names scope)) →
    AreVariables p scope vars → AreVariables q outer vars
variables_well p q declares scope outer vars within are = record {
  names_all = are.names_all;
  differ = are.differ;
  fresh = fresh_outside scope outer within vars are.fresh;
  typed = each_as (λ (v : Typed). IsType p v.of) (λ (v : Typed). IsType q v.of) (λ v is. declares.types v.of is) vars are.typed;
}

module _ (p q : Parts) (well : IsWellFormed p) (declares : Declares p q) (objects : List Typed) (are : AreObjects p objects) where
  mutual
    unfolding IsFormula AreFormulas replaced replaced_members

    replaced_formula : (scope outer : List Typed) (e : Assignment) → Covers p e scope outer → (f : Formula) → IsFormula p objects scope f → IsFormula q q.objects outer (replaced e f)
    replaced_formula scope outer e covers (And' n fs) is = replaced_formulas scope outer e covers fs is
    replaced_formula scope outer e covers (Or' n fs) is = replaced_formulas scope outer e covers fs is
    replaced_formula scope outer e covers (not f) is = replaced_formula scope outer e covers f is
    replaced_formula scope outer e covers (imply f g) is = (replaced_formula scope outer e covers f is.0, replaced_formula scope outer e covers g is.1)
    replaced_formula scope outer e covers (exists vars f) is =
        (variables_well p q declares scope outer vars covers.within is.0, replaced_formula (vars ++ scope) (vars ++ outer) (under vars e) (covers_under p vars scope outer e covers) f is.1)
    replaced_formula scope outer e covers (forall vars f) is =
        (variables_well p q declares scope outer vars covers.within is.0, replaced_formula (vars ++ scope) (vars ++ outer) (under vars e) (covers_under p vars scope outer e covers) f is.1)
    replaced_formula scope outer e covers (Atom name ts) is = atom_well p q well declares objects scope outer are e covers name ts is
    replaced_formula scope outer e covers (Equal t u) is = (term_well p q well declares objects scope outer are e covers t is.0, term_well p q well declares objects scope outer are e covers u is.1)
    replaced_formula scope outer e covers (Compare r a b) is = (expr_well p q well declares objects scope outer are e covers a is.0, expr_well p q well declares objects scope outer are e covers b is.1)

    replaced_formulas : (scope outer : List Typed) (e : Assignment) → Covers p e scope outer → {n : _} (fs : Row_of-Formula n) → AreFormulas p objects scope fs → AreFormulas q q.objects outer (replaced_members e fs)
    replaced_formulas scope outer e covers end_of-Formula is = tt
    replaced_formulas scope outer e covers (more_of-Formula f fs) is = (replaced_formula scope outer e covers f is.0, replaced_formulas scope outer e covers fs is.1)

  -- the instances of a quantifier
  all_instances : (scope outer vars : List Typed) (e : Assignment) → Covers p e scope outer → AreVariables p scope vars → (f : Formula) →
      ((tuple : List Name) → Covers p (assign vars tuple e) (vars ++ scope) outer → IsFormula q q.objects outer (expanded (world p) (assign vars tuple e) f)) →
      Every (IsFormula q q.objects outer) (map (λ tuple. expanded (world p) (assign vars tuple e) f) (tuples (world p) vars))
  all_instances scope outer vars e covers variables f each =
      each_map (IsFormula q q.objects outer) (λ tuple. expanded (world p) (assign vars tuple e) f) (tuples (world p) vars)
      (each_member _ (tuples (world p) vars) (λ tuple m. each tuple (covers_tuple p well vars scope outer e tuple covers variables.differ m)))

  mutual
    unfolding IsFormula AreFormulas expanded all_expanded

    expanded_formula : (scope outer : List Typed) (e : Assignment) → Covers p e scope outer → (f : Formula) → IsFormula p objects scope f → IsFormula q q.objects outer (expanded (world p) e f)
    expanded_formula scope outer e covers (And' n fs) is =
        subst (λ X. X) (sym (IsFormula-And q q.objects outer (all_expanded (world p) e fs))) (expanded_formulas scope outer e covers fs is)
    expanded_formula scope outer e covers (Or' n fs) is =
        subst (λ X. X) (sym (IsFormula-Or q q.objects outer (all_expanded (world p) e fs))) (expanded_formulas scope outer e covers fs is)
    expanded_formula scope outer e covers (not f) is = expanded_formula scope outer e covers f is
    expanded_formula scope outer e covers (imply f g) is = (expanded_formula scope outer e covers f is.0, expanded_formula scope outer e covers g is.1)
    expanded_formula scope outer e covers (exists vars f) is =
        subst (λ X. X) (sym (IsFormula-Or q q.objects outer (map (λ tuple. expanded (world p) (assign vars tuple e) f) (tuples (world p) vars))))
        (all_instances scope outer vars e covers is.0 f (λ tuple covers. expanded_formula (vars ++ scope) outer (assign vars tuple e) covers f is.1))
    expanded_formula scope outer e covers (forall vars f) is =
        subst (λ X. X) (sym (IsFormula-And q q.objects outer (map (λ tuple. expanded (world p) (assign vars tuple e) f) (tuples (world p) vars))))
        (all_instances scope outer vars e covers is.0 f (λ tuple covers. expanded_formula (vars ++ scope) outer (assign vars tuple e) covers f is.1))
    expanded_formula scope outer e covers (Atom name ts) is = atom_well p q well declares objects scope outer are e covers name ts is
    expanded_formula scope outer e covers (Equal t u) is = (term_well p q well declares objects scope outer are e covers t is.0, term_well p q well declares objects scope outer are e covers u is.1)
    expanded_formula scope outer e covers (Compare r a b) is = (expr_well p q well declares objects scope outer are e covers a is.0, expr_well p q well declares objects scope outer are e covers b is.1)

    expanded_formulas : (scope outer : List Typed) (e : Assignment) → Covers p e scope outer → {n : _} (fs : Row_of-Formula n) → AreFormulas p objects scope fs →
        Every (IsFormula q q.objects outer) (all_expanded (world p) e fs)
    expanded_formulas scope outer e covers end_of-Formula is = tt
    expanded_formulas scope outer e covers (more_of-Formula f fs) is = (expanded_formula scope outer e covers f is.0, expanded_formulas scope outer e covers fs is.1)

pub replaced_well : (p q : Parts) → IsWellFormed p → Declares p q → (objects scope outer : List Typed) → AreObjects p objects →
    (e : Assignment) → Covers p e scope outer → (f : Formula) → IsFormula p objects scope f → IsFormula q q.objects outer (replaced e f)
replaced_well p q well declares objects scope outer are e covers f is = replaced_formula p q well declares objects are scope outer e covers f is

pub expanded_well : (p q : Parts) → IsWellFormed p → Declares p q → (objects scope outer : List Typed) → AreObjects p objects →
    (e : Assignment) → Covers p e scope outer → (f : Formula) → IsFormula p objects scope f → IsFormula q q.objects outer (expanded (world p) e f)
expanded_well p q well declares objects scope outer are e covers f is = expanded_formula p q well declares objects are scope outer e covers f is

-- The features that expansion and substitution leave and bring.
use Rattle.std.specs.Prelude.{◌≡◌, ◌⊎◌, false, IsTrue}
use Rattle.up_tree.specs.declared.formula.Formula.{Formula}
use Rattle.up_tree.specs.declared.action.Row.{Row}
use Rattle.up_tree.specs.Objects.{World, Assignment}
use Rattle.up_tree.specs.Simplify.{is_true_formula}
use Rattle.up_kind.specs.Carried.{anywhere, is_not, is_disjunctive, is_equal, is_exists, is_forall, is_compare, is_numeric, is_scale, is_undefine, touches_objects}
use Rattle.semantics_laws.specs.Replaced.{Replacement, replaced}
use Rattle.expansion_laws.specs.Substituted.{replaced_effect_row}
use Rattle.expansion_laws.specs.Expanded.{expanded}

-- no quantifier, and nothing else that the formula hasn't but the `or` of an `exists`
pub record CarriesNoMore (w : World) (e : Assignment) (f : Formula) : Type 0 where
  pub existential : anywhere is_exists (expanded w e f) ≡ false
  pub universal : anywhere is_forall (expanded w e f) ≡ false
  pub negative : IsTrue (anywhere is_not (expanded w e f)) → IsTrue (anywhere is_not f)
  pub disjunctive : IsTrue (anywhere is_disjunctive (expanded w e f)) →
      IsTrue (anywhere is_disjunctive f) ⊎ IsTrue (anywhere is_exists f)
  pub equality : IsTrue (anywhere is_equal (expanded w e f)) → IsTrue (anywhere is_equal f)
  pub numeric : IsTrue (anywhere is_compare (expanded w e f)) → IsTrue (anywhere is_compare f)

-- a formula with objects in the place of variables has the nodes of the formula
pub record HasSameNodes (r : Replacement) (f : Formula) : Type 0 where
  pub negative : anywhere is_not (replaced r f) ≡ anywhere is_not f
  pub disjunctive : anywhere is_disjunctive (replaced r f) ≡ anywhere is_disjunctive f
  pub equality : anywhere is_equal (replaced r f) ≡ anywhere is_equal f
  pub existential : anywhere is_exists (replaced r f) ≡ anywhere is_exists f
  pub universal : anywhere is_forall (replaced r f) ≡ anywhere is_forall f
  pub numeric : anywhere is_compare (replaced r f) ≡ anywhere is_compare f

-- what is asked of a row itself is answered as before
pub record IsSameRow (r : Replacement) (row : Row) : Type 0 where
  pub conditional : is_true_formula (replaced_effect_row r row).when ≡ is_true_formula row.when
  pub numeric : is_numeric (replaced_effect_row r row).effect ≡ is_numeric row.effect
  pub scaling : is_scale (replaced_effect_row r row).effect ≡ is_scale row.effect
  pub undefining : is_undefine (replaced_effect_row r row).effect ≡ is_undefine row.effect
  pub touching : touches_objects (replaced_effect_row r row).effect ≡ touches_objects row.effect

-- Formulas that carry no more than others.
use Rattle.up_tree.specs.declared.formula.Formula.{Formula}
use Rattle.up_kind.specs.Carried.{is_not, is_disjunctive, is_equal, is_exists, is_forall, is_compare}
use Rattle.condition_laws.specs.Carrying.{NoMore}

-- the first formula has nothing that features ask for but what the second has
pub record IsQuieter (g f : Formula) : Type 0 where
  pub negations : NoMore is_not g f
  pub disjunctive : NoMore is_disjunctive g f
  pub equalities : NoMore is_equal g f
  pub existential : NoMore is_exists g f
  pub universal : NoMore is_forall g f
  pub comparisons : NoMore is_compare g f

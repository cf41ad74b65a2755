-- Formulas of the same truth.
use Rattle.std.specs.Prelude.{◌↔◌}
use Rattle.up_tree.specs.declared.formula.Formula.{Formula}
use Rattle.up_tree.specs.Objects.{World, Assignment}
use Rattle.up_tree.specs.State.{State}
use Rattle.up_tree.specs.Truth.{True, False}

-- one formula in one state under one assignment is true where the other is, and false where the other is
pub record SameTruth (w : World) (s : State) (d : Assignment) (f : Formula) (t : State) (e : Assignment) (g : Formula) : Type 0 where
  pub true_where : True w s d f ↔ True w t e g
  pub false_where : False w s d f ↔ False w t e g

-- What a scope decides.
use Rattle.std.specs.Prelude.{◌↔◌, ◌≡◌, List}
use Rattle.up_tree.specs.declared.term.Typed.{Typed}
use Rattle.up_tree.specs.declared.term.Term.{Term}
use Rattle.up_tree.specs.declared.expr.Expr.{Expr}
use Rattle.up_tree.specs.declared.formula.Formula.{Formula}
use Rattle.up_tree.specs.declared.problem.Parts.{Parts}
use Rattle.up_tree.specs.Objects.{World, Assignment}
use Rattle.up_tree.specs.State.{State}
use Rattle.up_tree.specs.Value.{term_value, number}
use Rattle.up_tree.specs.Truth.{True, False}
use Rattle.up_tree.specs.WellFormed.{IsTerm, IsExpr, IsFormula}

-- the value of what stands in a scope depends on what is assigned to the scope's variables alone
pub record SameInScope (s : State) (d e : Assignment) (p : Parts) (objects scope : List Typed) : Type 0 where
  pub terms : (t : Term) → IsTerm p objects scope t → term_value s d t ≡ term_value s e t
  pub exprs : (x : Expr) → IsExpr p objects scope x → number s d x ≡ number s e x
  pub true_where : (w : World) (f : Formula) → IsFormula p objects scope f → True w s d f ↔ True w s e f
  pub false_where : (w : World) (f : Formula) → IsFormula p objects scope f → False w s d f ↔ False w s e f

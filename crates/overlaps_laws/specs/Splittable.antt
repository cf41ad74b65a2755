-- Which actions can be split.
use Rattle.std.specs.Prelude.{◌≡◌, true, []}
use Rattle.up_text.specs.Lists.{Every}
use Rattle.up_tree.specs.declared.action.Action.{Action}
use Rattle.up_tree.specs.declared.action.Row.{Row}
use Rattle.up_tree.specs.declared.problem.Parts.{Parts}
use Rattle.up_tree.specs.Simplify.{is_true_formula}
use Rattle.up_tree.specs.WellFormed.{IsAction}

-- an action as the compiler accepts it: rows without variables and conditions
pub record IsSplittable (p : Parts) (a : Action) : Type 0 where
  pub formed : IsAction p a
  pub bare : Every (λ (r : Row). r.vars ≡ []) a.rows
  pub always : Every (λ (r : Row). is_true_formula r.when ≡ true) a.rows

-- What an expanded formula and an expanded problem keep.
use Rattle.std.specs.Prelude.{◌↔◌, Option}
use Rattle.up_frac.specs.Fraction.{Fraction}
use Rattle.up_tree.specs.declared.formula.Formula.{Formula}
use Rattle.up_tree.specs.declared.problem.Parts.{Parts}
use Rattle.up_tree.specs.declared.problem.Plan.{Plan}
use Rattle.up_tree.specs.Objects.{World, Assignment}
use Rattle.up_tree.specs.State.{State}
use Rattle.up_tree.specs.Truth.{True, False}
use Rattle.up_tree.specs.Plans.{PlansFree, Plans, MetricOf}
use Rattle.expansion_laws.specs.Expanded.{over, expanded, problem_expanded}

-- The formula expanded under one assignment has in any world, under another, the truth that the formula has under
-- both, the first before the second.
pub record ExpansionKeeps (w : World) (e : Assignment) (f : Formula) : Type 0 where
  pub true_where : (v : World) (s : State) (d : Assignment) → True v s d (expanded w e f) ↔ True w s (over e d) f
  pub false_where : (v : World) (s : State) (d : Assignment) → False v s d (expanded w e f) ↔ False w s (over e d) f

-- a problem and the expanded one have the same plans, of the same metric
pub record PlansStay (p : Parts) (plan : Plan) : Type 0 where
  pub free : PlansFree p plan ↔ PlansFree (problem_expanded p) plan
  pub all : Plans p plan ↔ Plans (problem_expanded p) plan
  pub metric : (v : Option (Option Fraction)) → MetricOf p plan v ↔ MetricOf (problem_expanded p) plan v

-- Problems whose actions are rewritten one by one.
use Rattle.std.specs.Prelude.{◌≡◌, ◌↔◌, List, map}
use Rattle.up_tree.specs.declared.problem.Parts.{Parts}
use Rattle.up_tree.specs.declared.action.Action.{Action}
use Rattle.up_tree.specs.WellFormed.{IsWellFormed}
use Rattle.up_tree.specs.declared.problem.Plan.{Plan}
use Rattle.up_tree.specs.Plans.{Plans, MetricOf}
use Rattle.same_plans.specs.SamePlans.{MetricValue}
use Rattle.up_kind.specs.Features.{FeatureSet, IsSubset}
use Rattle.up_kind.specs.Carried.{carries}
use Rattle.step_laws.specs.Naming.{Stands}

-- each action with its rewritten one
abbrev pub rewritten : (Action → Action) → List Action → List Stands
rewritten f actions = map (λ a. record { new = f a; old = a }) actions

-- `r` has the actions of `p` rewritten, under their names and with their parameters, and the same plans of
-- the same metric
pub record IsRewritten (K : FeatureSet) (p r : Parts) (f : Action → Action) : Type 0 where
  pub names : (a : Action) → (f a).name ≡ a.name
  pub params : (a : Action) → (f a).params ≡ a.params
  pub actions : r.actions ≡ map f p.actions
  pub formed : IsWellFormed p → IsWellFormed r
  pub features : IsSubset (carries r) K
  pub metric : r.metric ≡ p.metric
  pub plans : (plan : Plan) → Plans p plan ↔ Plans r plan
  pub metrics : (plan : Plan) → Plans p plan → (v : MetricValue) → MetricOf p plan v ↔ MetricOf r plan v

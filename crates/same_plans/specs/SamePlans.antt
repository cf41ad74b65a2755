-- Two problems with the same plans, by a map.
use Rattle.std.specs.Prelude.{◌≡◌, ◌↔◌, Bool, List, Option, Some, IsTrue}
use Rattle.up_frac.specs.Fraction.{Fraction}
use Rattle.up_tree.specs.declared.problem.Parts.{Parts}
use Rattle.up_tree.specs.declared.problem.Plan.{Plan}
use Rattle.up_tree.specs.Plans.{Plans, MetricOf}
use Rattle.up_compiler.specs.declared.back.Entry.{Entry}
use Rattle.up_compiler.specs.Back.{back}

-- none without a metric, else a number, which may be undefined
abbrev pub MetricValue : Type 0
MetricValue = Option (Option Fraction)

-- the plan `a` of `p` has a metric exactly where the plan `b` of `q` has it
abbrev pub SameMetric : Parts → Plan → Parts → Plan → Type 0
SameMetric p a q b = (v : MetricValue) → MetricOf p a v ↔ MetricOf q b v

-- every plan of `q` becomes a plan of `p` of the same metric, and every plan of `p` is what some plan of `q` becomes
pub record SamePlans (p q : Parts) (m : List Entry) : Type 0 where
  pub sound : (b : Plan) → Plans q b → (a : Plan) × (back m b ≡ Some a) × Plans p a × SameMetric p a q b
  pub complete : (a : Plan) → Plans p a → (b : Plan) × Plans q b × (back m b ≡ Some a)

-- ---- what follows from it

abbrev pub HasPlan : Parts → Type 0
HasPlan p = (plan : Plan) × Plans p plan

abbrev pub HasPlanAt : Parts → MetricValue → Type 0
HasPlanAt p v = (plan : Plan) × Plans p plan × MetricOf p plan v

-- a plan, of which no other has a better metric
abbrev pub IsBest : (MetricValue → MetricValue → Bool) → Parts → Plan → Type 0
IsBest better p plan =
    Plans p plan
    × ((v w : MetricValue) → MetricOf p plan v → (other : Plan) → Plans p other → MetricOf p other w → ¬ IsTrue (better w v))

-- What two problems with the same plans have in common.
use Rattle.std.proofs.Common.{◌≡◌, ◌↔◌, Bool, List, Option, Some, unwrap_or, IsTrue, ap, sym, ◌∙◌, subst}
use Rattle.up_tree.specs.declared.problem.Parts.{Parts}
use Rattle.up_tree.specs.declared.problem.Plan.{Plan}
use Rattle.up_tree.specs.Plans.{Plans, MetricOf}
use Rattle.up_compiler.specs.declared.back.Entry.{Entry}
use Rattle.up_compiler.specs.Back.{back}
use Rattle.same_plans.specs.SamePlans.{MetricValue, SameMetric, SamePlans, HasPlan, HasPlanAt, IsBest}

module _ (p q : Parts) (m : List Entry) (same : SamePlans p q m) where
  -- whatever a plan becomes is a plan of the same metric
  converted : (b a : Plan) → Plans q b → back m b ≡ Some a → Plans p a × SameMetric p a q b
  converted b a valid is =
      let k : (a : Plan) × (back m b ≡ Some a) × Plans p a × SameMetric p a q b = same.sound b valid in
      subst (λ (a : Plan). Plans p a × SameMetric p a q b) (ap (λ (o : Option Plan). unwrap_or o a) (sym k.1 ∙ is)) (k.2, k.3)

  pub converted_plan : (b a : Plan) → Plans q b → back m b ≡ Some a → Plans p a
  converted_plan b a valid is = (converted b a valid is).0

  pub converted_metric : (b a : Plan) → Plans q b → back m b ≡ Some a → SameMetric p a q b
  converted_metric b a valid is = (converted b a valid is).1

  pub both_have_plans : HasPlan p ↔ HasPlan q
  both_have_plans = (λ h. let k = same.complete h.0 h.1 in (k.0, k.1), λ h. let k = same.sound h.0 h.1 in (k.0, k.2))

  pub both_have_plans_at : (v : MetricValue) → HasPlanAt p v ↔ HasPlanAt q v
  both_have_plans_at v = (there, here)
    where
      there : HasPlanAt p v → HasPlanAt q v
      there h =
          let k : (b : Plan) × Plans q b × (back m b ≡ Some h.0) = same.complete h.0 h.1 in
          (k.0, k.1, (converted_metric k.0 h.0 k.1 k.2 v).0 h.2)

      here : HasPlanAt q v → HasPlanAt p v
      here h =
          let k : (a : Plan) × (back m h.0 ≡ Some a) × Plans p a × SameMetric p a q h.0 = same.sound h.0 h.1 in
          (k.0, k.2, (k.3 v).1 h.2)

  pub best_becomes_best : (better : MetricValue → MetricValue → Bool) (b a : Plan) → IsBest better q b → back m b ≡ Some a → IsBest better p a
  best_becomes_best better b a best is = (converted_plan b a best.0 is, none_better)
    where
      none_better : (v w : MetricValue) → MetricOf p a v → (other : Plan) → Plans p other → MetricOf p other w → ¬ IsTrue (better w v)
      none_better v w at other valid other_at =
          let k : (c : Plan) × Plans q c × (back m c ≡ Some other) = same.complete other valid in
          best.1 v w ((converted_metric b a best.0 is v).0 at) k.0 k.1 ((converted_metric k.0 other k.1 k.2 w).0 other_at)

  pub best_is_of_best : (better : MetricValue → MetricValue → Bool) (a : Plan) → IsBest better p a → (b : Plan) × IsBest better q b × (back m b ≡ Some a)
  best_is_of_best better a best =
      let k : (b : Plan) × Plans q b × (back m b ≡ Some a) = same.complete a best.0 in
      (k.0, (k.1, none_better k.0 k.1 k.2), k.2)
    where
      none_better : (b : Plan) → Plans q b → back m b ≡ Some a → (v w : MetricValue) → MetricOf q b v → (other : Plan) → Plans q other → MetricOf q other w
          → ¬ IsTrue (better w v)
      none_better b valid is v w at other other_valid other_at =
          let k : (c : Plan) × (back m other ≡ Some c) × Plans p c × SameMetric p c q other = same.sound other other_valid in
          best.1 v w ((converted_metric b a valid is v).1 at) k.0 k.2 ((k.3 w).1 other_at)

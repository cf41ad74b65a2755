-- Where two maps that meet keep the plans the same, the composed map does.
use Rattle.std.proofs.Common.{◌≡◌, List, Some, ◌∙◌}
use Rattle.up_tree.specs.declared.problem.Parts.{Parts}
use Rattle.up_tree.specs.declared.problem.Plan.{Plan}
use Rattle.up_tree.specs.Plans.{Plans}
use Rattle.up_compiler.specs.declared.back.Entry.{Entry}
use Rattle.up_compiler.specs.Back.{back, IsBack}
use Rattle.up_compiler.specs.Compose.{composed, Meets}
use Rattle.up_compiler.proofs.Composed.{back_composed}
use Rattle.same_plans.specs.SamePlans.{SameMetric, SamePlans}

pub same_composed : (p q r : Parts) (earlier later : List Entry) → IsBack earlier → Meets earlier later → SamePlans p q earlier → SamePlans q r later
    → SamePlans p r (composed earlier later)
same_composed p q r earlier later fit meets first second = record { sound = sound; complete = complete }
  where
    sound : (c : Plan) → Plans r c → (a : Plan) × (back (composed earlier later) c ≡ Some a) × Plans p a × SameMetric p a r c
    sound c valid =
        let k : (b : Plan) × (back later c ≡ Some b) × Plans q b × SameMetric q b r c = second.sound c valid in
        let j : (a : Plan) × (back earlier k.0 ≡ Some a) × Plans p a × SameMetric p a q k.0 = first.sound k.0 k.2 in (
          j.0,
          back_composed earlier later fit meets c k.0 k.1 ∙ j.1,
          j.2,
          λ v. (λ h. (k.3 v).0 ((j.3 v).0 h), λ h. (j.3 v).1 ((k.3 v).1 h)),
        )

    complete : (a : Plan) → Plans p a → (c : Plan) × Plans r c × (back (composed earlier later) c ≡ Some a)
    complete a valid =
        let j : (b : Plan) × Plans q b × (back earlier b ≡ Some a) = first.complete a valid in
        let k : (c : Plan) × Plans r c × (back later c ≡ Some j.0) = second.complete j.0 j.1 in
        (k.0, k.1, back_composed earlier later fit meets k.0 j.0 k.2 ∙ j.2)

-- Formulas of one computed truth are true and false at the same places.
use Rattle.std.proofs.Common.{◌≡◌, sym, ◌∙◌}
use Rattle.up_tree.specs.declared.formula.Formula.{Formula}
use Rattle.up_tree.specs.declared.truth.Truth.{Truth}
use Rattle.up_tree.specs.declared.truth.Truth.TheVariants as truth
use Rattle.up_tree.specs.Objects.{World, Assignment}
use Rattle.up_tree.specs.State.{State}
use Rattle.up_tree.specs.Judged.{Judges, truth_of}
use Rattle.up_tree.specs.Laws.{IsOne}
use Rattle.up_tree.proofs.Judging.{judged}
use Rattle.up_tree.proofs.Steps.{always_one}
use Rattle.semantics_laws.specs.SameTruth.{SameTruth}

-- the one truth of a formula is the computed one
pub computed : (w : World) (s : State) (e : Assignment) (f : Formula) (t : Truth) → Judges w s e f t → t ≡ truth_of w s e f
computed w s e f t h =
    let one : IsOne w s e f = always_one w s e f in
    one.alone t h ∙ sym (one.alone (truth_of w s e f) (judged w s e f (truth_of w s e f) (λ i. truth_of w s e f)))

module _ (w : World) (s : State) (d : Assignment) (f : Formula) (t : State) (e : Assignment) (g : Formula) where
  carried : truth_of w s d f ≡ truth_of w t e g → (v : Truth) → Judges w s d f v → Judges w t e g v
  carried same v h = judged w t e g v (computed w s d f v h ∙ same)

  pub same_truth : truth_of w s d f ≡ truth_of w t e g → SameTruth w s d f t e g
  same_truth same = record {
    true_where = (carried same truth.True, λ h. judged w s d f truth.True (computed w t e g truth.True h ∙ sym same));
    false_where = (carried same truth.False, λ h. judged w s d f truth.False (computed w t e g truth.False h ∙ sym same));
  }

-- Formulas of one computed truth, in worlds of their own, are true, false and undefined together.
use Rattle.std.proofs.Common.{◌≡◌, ◌↔◌, List, ◌∷◌, map, refl, ap, sym, ◌∙◌}
use Rattle.up_tree.specs.declared.formula.Formula.{Formula, And, Or, Row_of-Formula, end_of-Formula, more_of-Formula, items-the_row-Formula, items_hidden-the_row-Formula-0}
use Rattle.up_tree.specs.declared.formula.Formula.TheBlock.{hidden-the_row-Formula-0}
use Rattle.up_tree.specs.declared.truth.Truth.{Truth}
use Rattle.up_tree.specs.declared.truth.Truth.TheVariants as truth
use Rattle.up_tree.specs.Objects.{World, Assignment}
use Rattle.up_tree.specs.State.{State}
use Rattle.up_tree.specs.Truth.{True, False, IsUndefined}
use Rattle.up_tree.specs.Judged.{Judges, all_of, any_of, truth_of, truths_of}
use Rattle.up_tree.proofs.Judging.{judged}
use Rattle.semantics_laws.proofs.Same.{computed}

pub undefined-is : (w : World) (s : State) (e : Assignment) (f : Formula) → IsUndefined w s e f ↔ (truth_of w s e f ≡ truth.Undefined)
undefined-is w s e f = ((λ h. sym (computed w s e f truth.Undefined h)), (λ k. judged w s e f truth.Undefined (sym k)))

module _ (w : World) (d : Assignment) (f : Formula) (v : World) (e : Assignment) (g : Formula) (s : State) where
  carried : truth_of w s d f ≡ truth_of v s e g → (x : Truth) → Judges w s d f x → Judges v s e g x
  carried same x h = judged v s e g x (computed w s d f x h ∙ same)

  back : truth_of w s d f ≡ truth_of v s e g → (x : Truth) → Judges v s e g x → Judges w s d f x
  back same x h = judged w s d f x (computed v s e g x h ∙ sym same)

  pub true_together : truth_of w s d f ≡ truth_of v s e g → True w s d f ↔ True v s e g
  true_together same = (carried same truth.True, back same truth.True)

  pub false_together : truth_of w s d f ≡ truth_of v s e g → False w s d f ↔ False v s e g
  false_together same = (carried same truth.False, back same truth.False)

-- ---- at the nodes that code builds of a list

module _ (w : World) (s : State) (e : Assignment) where
  truths_of-items : {n : _} (fs : Row_of-Formula n) → truths_of w s e fs ≡ map (truth_of w s e) (items-the_row-Formula _ fs)
  unfolding truths_of
  truths_of-items end_of-Formula = refl
  truths_of-items (more_of-Formula f fs) = ap (λ ts. truth_of w s e f ∷ ts) (truths_of-items fs)

  pub truth_of-And : (fs : List Formula) → truth_of w s e (And fs) ≡ all_of (map (truth_of w s e) fs)
  unfolding truth_of
  truth_of-And fs = ap all_of (truths_of-items (hidden-the_row-Formula-0 fs) ∙ ap (map (truth_of w s e)) (items_hidden-the_row-Formula-0 fs))

  pub truth_of-Or : (fs : List Formula) → truth_of w s e (Or fs) ≡ any_of (map (truth_of w s e) fs)
  unfolding truth_of
  truth_of-Or fs = ap any_of (truths_of-items (hidden-the_row-Formula-0 fs) ∙ ap (map (truth_of w s e)) (items_hidden-the_row-Formula-0 fs))

use Rattle.std.proofs.Common.{◌≡◌, ◌≢◌, [], IsTrue, subst}
use Rattle.up_line.specs.Piecewise.{Handed}
use Rattle.up_line.proofs.Pieces.{more_left}
use Rattle.up_line.proofs.piecewise.PiecewisePieces.advance.Goals as goal

pub returns-clause-more : goal.returns-clause-more
returns-clause-more g c =
    subst (λ (text : Handed). (IsTrue c.step.result → text.rest ≡ [] → ⊥) × (text.rest ≢ [] → IsTrue c.step.result)) c.self.view_is
    (more_left _ _ _ _ c.step.ensures.more c.step.ensures.some c.step.ensures.end)

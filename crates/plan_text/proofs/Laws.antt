-- A text spells a plan where it has no fault.
use Rattle.std.proofs.Common.{◌≡◌, ℕ, List, refl, ap, sym, ◌∙◌}
use Rattle.std.specs.Prelude.{Result, Ok, Err, None, Some}
use Rattle.up_tree.specs.declared.problem.Step.{Step}
use Rattle.up_tree.specs.declared.problem.Plan.{Plan}
use Rattle.plan_text.specs.declared.error.PlanTextError.{PlanTextError}
use Rattle.plan_text.specs.Spells.{PlanText}
use Rattle.plan_text.specs.Texts.{steps_of, fault_in, first_fault}
use Rattle.plan_text.proofs.Spelled.{spelled_read}
use Rattle.plan_text.proofs.Whole.{read_spelled}

pub spelled_faultless : (text : List ℕ) (plan : Plan) → PlanText text plan → first_fault text ≡ None
spelled_faultless text plan spelled = ap fault_in (spelled_read text plan.steps spelled)

steps_there : (found : Result (List Step) PlanTextError) → fault_in found ≡ None → (steps : List Step) × (found ≡ Ok steps)
steps_there (Ok steps) none = (steps, refl)
steps_there (Err fault) none = absurd cc

pub faultless_spelled : (text : List ℕ) → first_fault text ≡ None → (plan : Plan) × PlanText text plan
faultless_spelled text none =
    let (steps, is) = steps_there (steps_of text) none in
    (record { steps = steps }, read_spelled text steps is)

pub spelled_one : (text : List ℕ) (plan other : Plan) → PlanText text plan → PlanText text other → plan ≡ other
spelled_one text plan other first second =
    let same : Ok plan.steps ≡ Ok other.steps = sym (spelled_read text plan.steps first) ∙ spelled_read text other.steps second in
    let steps : plan.steps ≡ other.steps = cc in
    ap (λ (all : List Step). record { steps = all }) steps

-- what is read of a text is what it spells
pub read_plan_spelled : (text : List ℕ) (steps : List Step) → steps_of text ≡ Ok steps → PlanText text (record { steps = steps })
read_plan_spelled text steps is = read_spelled text steps is

pub first_there : (text : List ℕ) (fault : PlanTextError) → steps_of text ≡ Err fault → first_fault text ≡ Some fault
first_there text fault is = ap fault_in is

-- Why a step is refused.
use Rattle.std.specs.Prelude.{⊤, List, [], ◌∷◌}
use Rattle.up_text.specs.declared.name.Name.{Name}
use Rattle.up_text.specs.Lists.{Every}
use Rattle.up_tree.specs.declared.action.Action.{Action}
use Rattle.up_tree.specs.declared.problem.Parts.{Parts}
use Rattle.up_tree.specs.declared.problem.Step.{Step}
use Rattle.up_tree.specs.Objects.{World}
use Rattle.up_tree.specs.State.{State}
use Rattle.up_tree.specs.Big.{BigAction, IsBigStep}
use Rattle.up_tree.specs.Faults as fault
use Rattle.up_eval.specs.declared.error.TruthError.{TruthError}
use Rattle.up_eval.specs.declared.error.TruthError.TheVariants as error
use Rattle.up_eval.specs.declared.step_error.Why.{Why}
use Rattle.up_eval.specs.declared.step_error.Why.TheVariants as why
use Rattle.up_eval.specs.declared.step_error.StepError.{StepError}
use Rattle.up_eval.specs.declared.step_error.StepError.TheVariants as refused
use Rattle.up_eval.specs.declared.stop.Stop.{Stop}
use Rattle.up_eval.specs.declared.stop.Stop.TheVariants as stop

-- the fault of each reason
abbrev pub fault_of : Why → fault.Fault
fault_of why.Precondition = fault.precondition
fault_of why.ConditionUndefined = fault.condition_undefined
fault_of why.ObjectUndefined = fault.object_undefined
fault_of why.NumberUndefined = fault.number_undefined
fault_of why.NumberConflict = fault.number_conflict
fault_of why.ObjectConflict = fault.object_conflict

-- the refusal is the step's first fault, or a number is past the bound
abbrev pub RefusesStep : Parts → State → Step → StepError → Type 0
RefusesStep p s step refused.Memory = ⊤
RefusesStep p s step refused.Unknown = fault.IsFirstFault p s step fault.unknown
RefusesStep p s step refused.Arity = fault.IsFirstFault p s step fault.arity
RefusesStep p s step refused.ArgumentType = fault.IsFirstFault p s step fault.argument_type
RefusesStep p s step (refused.NotApplicable w) = fault.IsFirstFault p s step (fault_of w)
RefusesStep p s step refused.TooLarge = IsBigStep p s step

-- none of the faults applies
abbrev pub HasNone : Parts → State → Step → List fault.Fault → Type 0
HasNone p s step faults = Every (λ other. ¬ fault.Applies p s step other) faults

-- in whatever state
abbrev pub IsIllTyped : Parts → Step → StepError → Type 0
IsIllTyped p step e = (s : State) → RefusesStep p s step e

abbrev pub Fits : Parts → Step → Type 0
Fits p step = (s : State) → HasNone p s step (fault.earlier fault.precondition)

-- ---- of an action whose arguments fit

abbrev pub ActionHasNone : World → State → Action → List Name → List fault.Fault → Type 0
ActionHasNone w s a args faults = Every (λ other. ¬ fault.ActionApplies w s a args other) faults

-- the faults of an action before this one
abbrev pub before : Why → List fault.Fault
before why.Precondition = []
before why.ConditionUndefined = fault.precondition ∷ []
before why.ObjectUndefined = fault.condition_undefined ∷ fault.precondition ∷ []
before why.NumberUndefined = fault.object_undefined ∷ fault.condition_undefined ∷ fault.precondition ∷ []
before why.NumberConflict = fault.number_undefined ∷ fault.object_undefined ∷ fault.condition_undefined ∷ fault.precondition ∷ []
before why.ObjectConflict =
    fault.number_conflict ∷ fault.number_undefined ∷ fault.object_undefined ∷ fault.condition_undefined ∷ fault.precondition ∷ []

abbrev pub all_faults : List fault.Fault
all_faults = fault.object_conflict ∷ before why.ObjectConflict

-- what stops an action's effects from taking place
abbrev pub IsStop : World → State → Action → List Name → Stop → Type 0
IsStop w s a args stop.Memory = ⊤
IsStop w s a args stop.TooLarge = BigAction w s a args
IsStop w s a args (stop.Refused w') = fault.ActionApplies w s a args (fault_of w') × ActionHasNone w s a args (before w')

-- what stops a look at a condition
abbrev pub stop_of : TruthError → Stop
stop_of error.Memory = stop.Memory
stop_of error.TooLarge = stop.TooLarge

abbrev pub error_of : Stop → StepError
error_of stop.Memory = refused.Memory
error_of stop.TooLarge = refused.TooLarge
error_of (stop.Refused w) = refused.NotApplicable w

-- A run of a plan's first steps, as a program goes on with it.
use Rattle.std.specs.Prelude.{◌≡◌, ⊤, ℕ, suc, List, [], ◌∷◌, ◌++◌, map}
use Rattle.up_tree.specs.declared.problem.Parts.{Parts}
use Rattle.up_tree.specs.declared.problem.Step.{Step}
use Rattle.up_tree.specs.Objects.{World, world, Assignment}
use Rattle.up_tree.specs.State.{State, init}
use Rattle.up_tree.specs.Faults as fault
use Rattle.up_tree.specs.Plans.{RunsFrom}
use Rattle.up_tree.specs.Big.{IsBigStep}
use Rattle.up_eval.specs.declared.step_error.StepError.{StepError}
use Rattle.up_eval.specs.declared.step_error.StepError.TheVariants as refused
use Rattle.up_validate.specs.declared.phase.Phase.{Phase}
use Rattle.up_validate.specs.declared.watch.Watch.{Watch}
use Rattle.up_validate.specs.declared.run.Run.{Run}
use Rattle.up_validate.specs.declared.run.Halt.{Halt}
use Rattle.up_validate.specs.declared.run.Halt.TheVariants as halt
use Rattle.up_validate.specs.declared.verdict.StepFault.TheVariants as why
use Rattle.up_validate.specs.Watching.{assignments, all_after}
use Rattle.up_validate.specs.Watches.{meant_all}
use Rattle.up_validate.specs.Verdicts.{named_fault, After, AtStep, BigConstraint}

-- the watches are those of the problem's constraints
abbrev pub AreWatches : Parts → List Watch → Type 0
AreWatches p watches = meant_all watches ≡ map (assignments (world p)) p.constraints

-- these steps can be taken, and the run stands after them
pub record StandsAfter (p : Parts) (steps : List Step) (run : Run) : Type 0 where
  pub before : List State
  pub runs : RunsFrom p (init p) steps (before ++ run.state ∷ [])
  pub phases : run.phases ≡ all_after (world p) p.constraints (before ++ run.state ∷ [])

-- the constraints stand so after one more state
abbrev pub GoOn : Parts → State → List (List Phase) → List (List Phase) → Type 0
GoOn p s old new = (before : List State) → old ≡ all_after (world p) p.constraints before → new ≡ all_after (world p) p.constraints (before ++ s ∷ [])

-- one more step is taken
pub record Follows (p : Parts) (step : Step) (old new : Run) : Type 0 where
  pub taken : fault.CanTake p old.state step
  pub next : fault.IsNext p old.state step new.state
  pub phases : GoOn p new.state old.phases new.phases

-- a constraint has a number past the bound in a state
abbrev pub IsBigAfter : Parts → State → ℕ → Halt → Type 0
IsBigAfter p s number halt.Memory = ⊤
IsBigAfter p s number (halt.TooLarge step) = (step ≡ number) × BigConstraint p s
IsBigAfter p s number (halt.BadStep step reason) = ⊥

-- a step leaves a state of which this is said
pub record AfterStep (p : Parts) (step : Step) (old : State) (What : State → Type 0) : Type 0 where
  pub state : State
  pub taken : fault.CanTake p old step
  pub next : fault.IsNext p old step state
  pub what : What state

-- why a run doesn't go on at the step with this number
pub data HaltsAt (p : Parts) (old : State) (number : ℕ) (step : Step) : Halt → Type 0 where
  memory : HaltsAt p old number step halt.Memory
  bad : (reason : _) → fault.IsFirstFault p old step (named_fault reason) → HaltsAt p old number step (halt.BadStep number reason)
  big : IsBigStep p old step → HaltsAt p old number step (halt.TooLarge number)
  big_after : AfterStep p step old (BigConstraint p) → HaltsAt p old number step (halt.TooLarge (suc number))

-- where a number past the bound is met
pub data HaltsBig (p : Parts) (steps : List Step) (number : ℕ) : Type 0 where
  in_step : AtStep p steps number (IsBigStep p) → HaltsBig p steps number
  in_constraint : (before : ℕ) → number ≡ suc before → After p steps before (BigConstraint p) → HaltsBig p steps number

-- why a run of the steps halts
abbrev pub Halts : Parts → List Step → Halt → Type 0
Halts p steps halt.Memory = ⊤
Halts p steps (halt.BadStep number reason) = AtStep p steps number (λ s step. fault.IsFirstFault p s step (named_fault reason))
Halts p steps (halt.TooLarge number) = HaltsBig p steps number

abbrev pub halt_of : ℕ → StepError → Halt
halt_of number refused.Memory = halt.Memory
halt_of number refused.Unknown = halt.BadStep number why.Unknown
halt_of number refused.Arity = halt.BadStep number why.Arity
halt_of number refused.ArgumentType = halt.BadStep number why.ArgumentType
halt_of number (refused.NotApplicable reason) = halt.BadStep number (why.Not reason)
halt_of number refused.TooLarge = halt.TooLarge number

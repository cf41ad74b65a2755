-- What is said of a plan.
use Rattle.std.specs.Prelude.{◌≡◌, ◌⊎◌, ⊤, ℕ, suc, List, take, length, slice_get, Option, Some, None}
use Rattle.up_text.specs.Lists.{Every, Somewhere}
use Rattle.up_frac.specs.Fraction.{Fraction}
use Rattle.up_tree.specs.declared.problem.Constraint.{Constraint}
use Rattle.up_tree.specs.declared.problem.Rule.{Rule}
use Rattle.up_tree.specs.declared.problem.Rule.TheVariants as rule
use Rattle.up_tree.specs.declared.problem.Parts.{Parts}
use Rattle.up_tree.specs.declared.problem.Plan.{Plan}
use Rattle.up_tree.specs.declared.problem.Step.{Step}
use Rattle.up_tree.specs.Objects.{World, world, Assignment}
use Rattle.up_tree.specs.State.{State, init}
use Rattle.up_tree.specs.Faults as fault
use Rattle.up_tree.specs.Plans.{RunsFrom, IsRun, OfLast, ReachesGoal, Keeps, Plans, MetricOf}
use Rattle.up_tree.specs.Big.{BigFormula, IsBigStep, IsBigGoal}
use Rattle.up_eval.specs.declared.metric.Value.{Value}
use Rattle.up_eval.specs.declared.metric.Value.TheVariants as value
use Rattle.up_eval.specs.Metrics.{MetricIsBig}
use Rattle.up_eval.specs.Steps.{fault_of}
use Rattle.up_validate.specs.declared.verdict.StepFault.{StepFault}
use Rattle.up_validate.specs.declared.verdict.StepFault.TheVariants as why
use Rattle.up_validate.specs.declared.verdict.Verdict.{Verdict}
use Rattle.up_validate.specs.declared.verdict.Verdict.TheVariants as verdict
use Rattle.up_validate.specs.declared.verdict.ValidateError.{ValidateError}
use Rattle.up_validate.specs.declared.verdict.ValidateError.TheVariants as error
use Rattle.up_validate.specs.Watching.{assignments}

-- the first steps, so many, can be taken, and this holds of the state that they leave
pub record After (p : Parts) (steps : List Step) (count : ℕ) (What : State → Type 0) : Type 0 where
  pub states : List State
  pub runs : RunsFrom p (init p) (take count steps) states
  pub last : OfLast What states

-- the steps before the one with this number can be taken, and this holds of the state that they leave and of that step
pub record AtStep (p : Parts) (steps : List Step) (number : ℕ) (What : State → Step → Type 0) : Type 0 where
  pub before : ℕ
  pub numbered : number ≡ suc before
  pub step : Step
  pub is : slice_get steps before ≡ Some step
  pub after : After p steps before (λ s. What s step)

-- the fault that a reason names
abbrev pub named_fault : StepFault → fault.Fault
named_fault why.Unknown = fault.unknown
named_fault why.Arity = fault.arity
named_fault why.ArgumentType = fault.argument_type
named_fault (why.Not reason) = fault_of reason

-- the metric that a value stands for: none, or a number that may be undefined
abbrev pub meant : Value → Option (Option Fraction)
meant value.None = None
meant value.Undefined = Some None
meant (value.Number n) = Some (Some n)

-- a plan that is valid, with its metric
pub record IsValid (p : Parts) (plan : Plan) (metric : Value) : Type 0 where
  pub valid : Plans p plan
  pub measured : MetricOf p plan (meant metric)

-- each step can be taken, and the goal isn't true in the end
pub record LeavesGoal (p : Parts) (plan : Plan) : Type 0 where
  pub states : List State
  pub run : IsRun p plan states
  pub open_goal : ¬ ReachesGoal p states

-- the constraint with this number is the first that a run doesn't keep
pub record IsBroken (p : Parts) (states : List State) (number : ℕ) : Type 0 where
  pub before : ℕ
  pub numbered : number ≡ suc before
  pub constraint : Constraint
  pub is : slice_get p.constraints before ≡ Some constraint
  pub kept : Every (Keeps p states) (take before p.constraints)
  pub broken : ¬ Keeps p states constraint

-- the goal is reached, and the constraint with this number is the first that isn't kept
pub record Breaks (p : Parts) (plan : Plan) (number : ℕ) : Type 0 where
  pub states : List State
  pub run : IsRun p plan states
  pub goal : ReachesGoal p states
  pub broken : IsBroken p states number

abbrev pub IsVerdict : Parts → Plan → Verdict → Type 0
IsVerdict p plan (verdict.Valid metric) = IsValid p plan metric
IsVerdict p plan (verdict.BadStep number reason) = AtStep p plan.steps number (λ s step. fault.IsFirstFault p s step (named_fault reason))
IsVerdict p plan verdict.GoalOpen = LeavesGoal p plan
IsVerdict p plan (verdict.Broken number) = Breaks p plan number

-- ---- numbers past the bound

-- a formula of the rule has one
abbrev pub BigRule : World → State → Assignment → Rule → Type 0
BigRule w s e (rule.Always f) = BigFormula w s e f
BigRule w s e (rule.Sometime f) = BigFormula w s e f
BigRule w s e (rule.AtMostOnce f) = BigFormula w s e f
BigRule w s e (rule.SometimeAfter f g) = BigFormula w s e f ⊎ BigFormula w s e g
BigRule w s e (rule.SometimeBefore f g) = BigFormula w s e f ⊎ BigFormula w s e g

-- a constraint has one. Those of a well-formed problem compare no numbers, so none has.
abbrev pub BigConstraint : Parts → State → Type 0
BigConstraint p s = Somewhere (λ c. Somewhere (λ e. BigRule (world p) s e c.rule) (assignments (world p) c)) p.constraints

-- where a number past the bound is met: in a step, in the goal or the metric after the last step, or in a constraint
pub data MeetsBig (p : Parts) (plan : Plan) (number : ℕ) : Type 0 where
  in_step : AtStep p plan.steps number (IsBigStep p) → MeetsBig p plan number
  in_goal : number ≡ suc (length plan.steps) → After p plan.steps (length plan.steps) (IsBigGoal p) → MeetsBig p plan number
  in_metric : number ≡ suc (length plan.steps) → After p plan.steps (length plan.steps) (λ s. MetricIsBig s p.metric) → MeetsBig p plan number
  in_constraint : (before : ℕ) → number ≡ suc before → After p plan.steps before (BigConstraint p) → MeetsBig p plan number

abbrev pub IsUnjudged : Parts → Plan → ValidateError → Type 0
IsUnjudged p plan error.Memory = ⊤
IsUnjudged p plan (error.TooLarge number) = MeetsBig p plan number

-- The plan of a text, and the text of a plan.
use Rattle.std.specs.Prelude.{ℕ, All, ◌+◌, ◌-◌, ◌^◌, min, List, [], ◌∷◌, ◌++◌, length, flat_map, codes, Option, Some, None, Result, Ok, Err}
use Rattle.up_text.specs.Names.{IsName}
use Rattle.up_text.specs.declared.place.Place.{Place}
use Rattle.up_tree.specs.declared.problem.Step.{Step}
use Rattle.up_tree.specs.declared.problem.Plan.{Plan}
use Rattle.plan_text.specs.declared.error.PlanTextError.{PlanTextError}
use Rattle.plan_text.specs.declared.error.PlanTextError.TheVariants.{Memory, Bad}
use Rattle.plan_text.specs.declared.line_fault.LineFault.{LineFault}
use Rattle.plan_text.specs.declared.line_fault.LineFault.TheVariants.{Memory as NoMemory, Stuck}
use Rattle.plan_text.specs.Lines.{lines, content}
use Rattle.plan_text.specs.Steps.{Part, line_step}

-- cut off at the greatest number that a place holds
abbrev pub cut : ℕ → ℕ
cut n = min n (2 ^ 32 - 1)

-- the place in a line behind which so many bytes of the line are left
abbrev pub place_of : ℕ → List ℕ → ℕ → Place
place_of number line left = record { line = number; column = cut (length line - left + 1) }

abbrev pub fault_of : ℕ → List ℕ → LineFault → PlanTextError
fault_of number line (Stuck left) = Bad (place_of number line left)
fault_of number line NoMemory = Memory

abbrev pub placed : ℕ → List ℕ → Part (Option Step) → Result (Option Step) PlanTextError
placed number line (Ok found) = Ok found
placed number line (Err fault) = Err (fault_of number line fault)

-- the step of a line with this number, if the line isn't blank, or its fault
abbrev pub found_in : ℕ → List ℕ → Result (Option Step) PlanTextError
found_in number line = placed number (content line) (line_step (content line))

-- what was found in a line, and then what is found in those behind it
abbrev pub with_found : Result (Option Step) PlanTextError → Result (List Step) PlanTextError → Result (List Step) PlanTextError
with_found (Err fault) more = Err fault
with_found (Ok None) more = more
with_found (Ok (Some step)) (Ok steps) = Ok (step ∷ steps)
with_found (Ok (Some step)) (Err fault) = Err fault

-- the steps of lines, the first of which has this number, or the first fault
abbrev pub steps_from : ℕ → List (List ℕ) → Result (List Step) PlanTextError
steps_from number [] = Ok []
steps_from number (line ∷ lines) = with_found (found_in number line) (steps_from (cut (number + 1)) lines)

-- the steps that a text spells, or its first fault
unfoldable pub steps_of : List ℕ → Result (List Step) PlanTextError
steps_of text = steps_from 1 (lines text)

-- the first fault of what was read, if there is one
abbrev pub fault_in : Result (List Step) PlanTextError → Option PlanTextError
fault_in (Ok steps) = None
fault_in (Err fault) = Some fault

-- the first fault of a text that spells no plan
abbrev pub first_fault : List ℕ → Option PlanTextError
first_fault text = fault_in (steps_of text)

-- `(`, the action, its arguments, each with a space before it, `)` and a line feed
abbrev pub step_text : Step → List ℕ
step_text step = codes "(" ++ step.action ++ flat_map (λ arg. codes " " ++ arg) step.args ++ codes ")\n"

-- a line for each step
abbrev pub plan_text : Plan → List ℕ
plan_text plan = flat_map step_text plan.steps

-- the action and the arguments of a step are names
pub record HasNames (step : Step) : Type 0 where
  pub action : IsName step.action
  pub args : All IsName step.args

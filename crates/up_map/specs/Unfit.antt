-- The first step of a plan that no entry fits.
use Rattle.std.specs.Prelude.{ℕ, ◌+◌, nat_eq, if◌then◌else◌, List, [], ◌∷◌, length, Option, Some, None, option_and_then}
use Rattle.std.specs.Option.{option_or}
use Rattle.up_tree.specs.declared.problem.Step.{Step}
use Rattle.up_compiler.specs.declared.back.Entry.{Entry}
use Rattle.up_compiler.specs.Back.{by_entry, entry_named}
use Rattle.up_map.specs.declared.back_error.BackError.{BackError}
use Rattle.up_map.specs.declared.back_error.BackError.TheVariants.{UnknownAction, Arity}

-- what a step becomes by the entry that is found for its action
abbrev pub converted_by : Option Entry → Step → Option (Option Step)
converted_by found step = option_and_then (by_entry step.args) found

-- what keeps a step with this number from its action's entry
abbrev pub unfit_by : ℕ → Step → Option Entry → Option BackError
unfit_by number step None = Some (UnknownAction number)
unfit_by number step (Some e) = if nat_eq e.arity (length step.args) then None else Some (Arity number)

-- the same of the first of these steps that doesn't fit, where the first of them has this number
abbrev pub first_unfit : List Entry → ℕ → List Step → Option BackError
first_unfit m number [] = None
first_unfit m number (step ∷ steps) = option_or (unfit_by number step (entry_named m step.action)) (first_unfit m (number + 1) steps)

-- The map that keeps every step as it is.
use Rattle.std.specs.Prelude.{◌≡◌, ℕ, zero, suc, Bool, if◌then◌else◌, List, [], ◌∷◌, ◌++◌, length, IsSomeAnd}
use Rattle.std.specs.List.{list_any}
use Rattle.up_text.specs.declared.name.Name.{Name}
use Rattle.up_text.specs.Names.{same_name}
use Rattle.up_text.specs.Lists.{Every}
use Rattle.up_tree.specs.declared.action.Action.{Action}
use Rattle.up_tree.specs.declared.problem.Parts.{Parts}
use Rattle.up_tree.specs.declared.problem.Plan.{Plan}
use Rattle.up_tree.specs.Objects.{action_named}
use Rattle.up_compiler.specs.declared.back.Entry.{Entry}
use Rattle.up_compiler.specs.declared.back.Item.{Item}
use Rattle.up_compiler.specs.declared.back.Item.TheVariants.{Argument}
use Rattle.up_compiler.specs.declared.back.Target.TheVariants.{Keep}

-- the arguments from 1 to n
unfoldable pub arguments : ℕ → List Item
arguments zero = []
arguments (suc n) = arguments n ++ Argument (suc n) ∷ []

abbrev pub identity_entry : Action → Entry
identity_entry a =
    record { action = a.name; arity = length a.params; target = Keep a.name (arguments (length a.params)) }

abbrev pub has_entry : List Entry → Name → Bool
has_entry m name = list_any (λ e. same_name e.action name) m

-- an action whose name has an entry already gets none
abbrev pub and_entry : List Entry → Action → List Entry
and_entry m a = if has_entry m a.name then m else m ++ identity_entry a ∷ []

abbrev pub and_identity : List Entry → List Action → List Entry
and_identity m [] = m
and_identity m (a ∷ actions) = and_identity (and_entry m a) actions

-- one entry for each action, in order
abbrev pub identity_entries : List Action → List Entry
identity_entries actions = and_identity [] actions

-- each step is of one of the problem's actions, with as many arguments as that has parameters
abbrev pub IsOfActions : Parts → Plan → Type 0
IsOfActions p plan = Every (λ step. IsSomeAnd (action_named p step.action) (λ a. length step.args ≡ length a.params)) plan.steps

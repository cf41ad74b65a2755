-- Actions of raw actions.
use Rattle.std.specs.Prelude.{List, [], map}
use Rattle.pddl_lex.specs.Parses.{over, over_two}
use Rattle.pddl_parse.specs.declared.raw.RawAction.{RawAction}
use Rattle.up_text.specs.declared.name.Name.{Name}
use Rattle.up_tree.specs.declared.action.Action.{Action}
use Rattle.up_tree.specs.declared.action.Row.{Row}
use Rattle.up_tree.specs.declared.formula.Formula.{Formula}
use Rattle.up_tree.specs.declared.term.Typed.{Typed}
use Rattle.up_phrase.specs.declared.term.Setting.TheVariants.{Plain}
use Rattle.up_phrase.specs.Conditions.{formula}
use Rattle.up_phrase.specs.Declarations.{Declarations}
use Rattle.up_phrase.specs.Scopes.{Variables, entered_groups, typed}
use Rattle.up_phrase.specs.Walks.{Checked, after}
use Rattle.up_effect.specs.Effects.{within, rows}

abbrev pub action_of : Name → List Typed → Formula → List Row → Action
action_of name params pre rows = record { name = name; params = params; pre = pre; rows = rows }

-- the action of these parameters, with the names that are barred to the variables of its effect
abbrev pub with_parameters : Declarations → RawAction → List Name → Variables → Checked Action
with_parameters names raw barred vars =
    over_two (action_of raw.name.name (map typed vars)) (formula names vars Plain raw.pre) (rows names (within vars barred) raw.effect)

-- an action, whose own name isn't looked at: parameters, then precondition, then effect, around which no condition stands
abbrev pub action : Declarations → RawAction → Checked Action
action names raw = after (entered_groups names [] raw.params []) (with_parameters names raw [])

-- what is left to read of it after the precondition, and with the parameters as variables of the tree
abbrev pub with_effect : Declarations → RawAction → List Name → Variables → Formula → List Typed → Checked Action
with_effect names raw barred vars pre params = over (action_of raw.name.name params pre) (rows names (within vars barred) raw.effect)

abbrev pub with_precondition : Declarations → RawAction → List Name → Variables → Formula → Checked Action
with_precondition names raw barred vars pre = with_effect names raw barred vars pre (map typed vars)

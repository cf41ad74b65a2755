-- Rows of raw effects.
use Rattle.std.specs.Prelude.{ℕ, if◌then◌else◌, List, [], ◌∷◌, ◌++◌, length, map, drop, Option, Some, None}
use Rattle.pddl_lex.specs.Parses.{parsed, rejected, over, over_two, followed}
use Rattle.pddl_parse.specs.declared.raw.RawCall.{RawCall}
use Rattle.pddl_parse.specs.declared.raw.RawChange.{RawChange}
use Rattle.pddl_parse.specs.declared.raw.RawChange.TheVariants as raw_change
use Rattle.pddl_parse.specs.declared.raw.RawEffect.{RawEffect, Row_of-RawEffect, end_of-RawEffect, more_of-RawEffect}
use Rattle.pddl_parse.specs.declared.raw.RawEffect as form
use Rattle.pddl_parse.specs.declared.raw.RawFormula.{RawFormula}
use Rattle.pddl_parse.specs.declared.raw.RawGroup.{RawGroup}
use Rattle.pddl_parse.specs.declared.raw.RawTerm.{RawTerm}
use Rattle.up_text.specs.declared.name.Name.{Name}
use Rattle.up_text.specs.declared.place.Place.{Place}
use Rattle.up_tree.specs.declared.action.Change.{Change}
use Rattle.up_tree.specs.declared.action.Change.TheVariants as change
use Rattle.up_tree.specs.declared.action.Effect.{Effect}
use Rattle.up_tree.specs.declared.action.Effect.TheVariants as effect
use Rattle.up_tree.specs.declared.action.Row.{Row}
use Rattle.up_tree.specs.declared.formula.Formula.{Formula, And}
use Rattle.up_tree.specs.declared.problem.Gives.{Gives}
use Rattle.up_tree.specs.declared.problem.Gives.TheVariants as gives
use Rattle.up_tree.specs.declared.term.Term.{Term}
use Rattle.up_tree.specs.Simplify.{is_true_formula, alone_or}
use Rattle.up_phrase.specs.declared.fault.Fault.{Fault}
use Rattle.up_phrase.specs.declared.names.Signature.{Signature}
use Rattle.up_phrase.specs.declared.reason.Reason.TheVariants.{UnknownName, TypeMismatch}
use Rattle.up_phrase.specs.declared.term.Setting.TheVariants.{Plain}
use Rattle.up_phrase.specs.Barred.{binds, each_once}
use Rattle.up_phrase.specs.Conditions.{atom_args, formula}
use Rattle.up_phrase.specs.Declarations.{Declarations}
use Rattle.up_phrase.specs.Exprs.{numeric_function, expr}
use Rattle.up_phrase.specs.Lookups.{function_of}
use Rattle.up_phrase.specs.Named.{at, bare}
use Rattle.up_phrase.specs.Scopes.{Variables, entered_groups, typed}
use Rattle.up_phrase.specs.Terms.{applied, term}
use Rattle.up_phrase.specs.Walks.{Checked, after}
use Rattle.up_effect.specs.Nodes.{for_all, when}

-- what stands around an effect: the variables in scope, of which the first ones are the action's parameters, the names that the
-- conditions of the `when`s bind, and those conditions but the empty `and`, each from the outside in
pub record Around : Type 0 where
  pub parameters : ℕ
  pub variables : Variables
  pub barred : List Name
  pub whens : List Formula

-- nothing but these variables, the parameters, and names
abbrev pub within : Variables → List Name → Around
within vars barred = record { parameters = length vars; variables = vars; barred = barred; whens = [] }

-- these variables and no others
abbrev pub with_variables : Around → Variables → Around
with_variables a vars = record { parameters = a.parameters; variables = vars; barred = a.barred; whens = a.whens }

-- these names are barred
abbrev pub with_barred : Around → List Name → Around
with_barred a barred = record { parameters = a.parameters; variables = a.variables; barred = barred; whens = a.whens }

-- the empty `and` is no condition
abbrev pub whens_and : List Formula → Formula → List Formula
whens_and fs f = if is_true_formula f then fs else fs ++ f ∷ []

abbrev pub with_condition : Around → Formula → Around
with_condition a f = record { parameters = a.parameters; variables = a.variables; barred = a.barred; whens = whens_and a.whens f }

-- under a condition its names are barred
abbrev pub under : Around → Formula → Around
under a f = with_condition (with_barred a (each_once a.barred (binds f))) f

-- the row of a simple effect
abbrev pub row : Around → Effect → Row
row a e = record { vars = map typed (drop a.parameters a.variables); when = alone_or And a.whens; effect = e }

-- the arguments of a predicate
abbrev pub atom : Declarations → Variables → RawCall → Checked (List Term)
atom names vars it = atom_args names vars Plain it.place it.name it.args

abbrev pub added : Declarations → Variables → RawCall → Checked Effect
added names vars it = over (effect.Add it.name.name) (atom names vars it)

abbrev pub deleted : Declarations → Variables → RawCall → Checked Effect
deleted names vars it = over (effect.Delete it.name.name) (atom names vars it)

-- the arguments of a function that is declared with these types
abbrev pub target_args : Declarations → Variables → RawCall → Checked (List Name) → Checked (List Term)
target_args names vars it declared = applied it.place it.name.name declared (map (term names vars Plain) it.args)

abbrev pub number_changed : Declarations → Variables → Change → RawCall → RawTerm → Checked (List Name) → Checked Effect
number_changed names vars c it value declared = over_two (effect.Number c it.name.name) (target_args names vars it declared) (expr names vars Plain value)

-- an object of the type is assigned
abbrev pub object_assigned : Declarations → Variables → Name → RawCall → RawTerm → Checked (List Name) → Checked Effect
object_assigned names vars of it value declared = over_two (effect.Object it.name.name) (target_args names vars it declared) (term names vars Plain value (Some of))

abbrev pub assigned_by : Declarations → Variables → RawCall → RawTerm → List Name → Gives → Checked Effect
assigned_by names vars it value declared gives.Number = number_changed names vars change.Assign it value (parsed declared)
assigned_by names vars it value declared (gives.Object of) = object_assigned names vars of it value (parsed declared)

-- a number or an object is assigned, by what the function gives
abbrev pub assigned : Declarations → Variables → RawCall → RawTerm → Option Signature → Checked Effect
assigned names vars it value None = rejected (at it.name.place UnknownName it.name.name) []
assigned names vars it value (Some function) = assigned_by names vars it value function.args function.gives

-- the change of a number as the tree names it
abbrev pub change_of : RawChange → Change
change_of raw_change.Assign = change.Assign
change_of raw_change.Increase = change.Increase
change_of raw_change.Decrease = change.Decrease
change_of raw_change.ScaleUp = change.ScaleUp
change_of raw_change.ScaleDown = change.ScaleDown

abbrev pub number_changed_in : Declarations → Variables → Change → RawCall → RawTerm → Checked Effect
number_changed_in names vars c it value = number_changed names vars c it value (numeric_function it.name (function_of names it.name.name))

abbrev pub changed : Declarations → Variables → RawChange → RawCall → RawTerm → Checked Effect
changed names vars raw_change.Assign it value = assigned names vars it value (function_of names it.name.name)
changed names vars raw_change.Increase it value = number_changed_in names vars change.Increase it value
changed names vars raw_change.Decrease it value = number_changed_in names vars change.Decrease it value
changed names vars raw_change.ScaleUp it value = number_changed_in names vars change.ScaleUp it value
changed names vars raw_change.ScaleDown it value = number_changed_in names vars change.ScaleDown it value

-- a number is never taken away: the fault of the word `undefined` at this place
abbrev pub kept_number : Place → Gives → List Fault
kept_number place gives.Number = bare place TypeMismatch ∷ []
kept_number place (gives.Object of) = []

-- the value of a term is taken away
abbrev pub undefined : Declarations → Variables → RawCall → Place → Option Signature → Checked Effect
undefined names vars it place None = rejected (at it.name.place UnknownName it.name.name) []
undefined names vars it place (Some function) =
    over (effect.Undefine it.name.name) (followed (target_args names vars it (parsed function.args)) (kept_number place function.gives))

-- the row of a simple effect, where it has no fault
abbrev pub simple : Around → Checked Effect → Checked (List Row)
simple a v = over (λ e. row a e ∷ []) v

-- of all parts, one after the other, in one list
abbrev pub together : {A : Type 0} → List (Checked (List A)) → Checked (List A)
together [] = parsed []
together (v ∷ vs) = over_two (λ xs ys. xs ++ ys) v (together vs)

-- what is read with the variables of a list in scope too, none of which has a barred name
abbrev pub quantified : Declarations → Around → List RawGroup → (Around → Checked (List Row)) → Checked (List Row)
quantified names a groups body = after (entered_groups names a.barred groups a.variables) (λ (vars : Variables). body (with_variables a vars))

-- what is read under a condition
abbrev pub conditional : Declarations → Around → RawFormula → (Around → Checked (List Row)) → Checked (List Row)
conditional names a condition body = after (formula names a.variables Plain condition) (λ (f : Formula). body (under a f))

-- a row for each simple effect
unfoldable mutual
  pub rows : Declarations → Around → RawEffect → Checked (List Row)
  rows names a (form.And' n members) = together (each_rows names a members)
  rows names a (for_all groups body) = quantified names a groups (λ inner. rows names inner body)
  rows names a (when condition body) = conditional names a condition (λ inner. rows names inner body)
  rows names a (form.Add it) = simple a (added names a.variables it)
  rows names a (form.Delete it) = simple a (deleted names a.variables it)
  rows names a (form.Change c it value) = simple a (changed names a.variables c it value)
  rows names a (form.Undefine it place) = simple a (undefined names a.variables it place (function_of names it.name.name))

  pub each_rows : Declarations → Around → {n : _} → Row_of-RawEffect n → List (Checked (List Row))
  each_rows names a end_of-RawEffect = []
  each_rows names a (more_of-RawEffect member members) = rows names a member ∷ each_rows names a members

-- the rows of a `forall`
abbrev pub rows_for_all : Declarations → Around → List RawGroup → RawEffect → Checked (List Row)
rows_for_all names a groups body = quantified names a groups (λ inner. rows names inner body)

-- the rows of a `when`
abbrev pub rows_when : Declarations → Around → RawFormula → RawEffect → Checked (List Row)
rows_when names a condition body = conditional names a condition (λ inner. rows names inner body)

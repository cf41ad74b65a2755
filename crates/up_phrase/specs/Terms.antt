-- Object terms of raw terms.
use Rattle.std.specs.Prelude.{◌==◌, List, [], ◌∷◌, ◌++◌, length, Option, Some, None}
use Rattle.up_text.specs.declared.name.Name.{Name}
use Rattle.up_text.specs.declared.place.Place.{Place}
use Rattle.pddl_lex.specs.Parses.{parsed, rejected, over, all, behind}
use Rattle.pddl_parse.specs.declared.raw.Ident.{Ident}
use Rattle.pddl_parse.specs.declared.raw.RawTerm.{RawTerm, Row_of-RawTerm, end_of-RawTerm, more_of-RawTerm}
use Rattle.pddl_parse.specs.declared.raw.RawTerm as form
use Rattle.up_tree.specs.declared.problem.Gives.{Gives}
use Rattle.up_tree.specs.declared.problem.Gives.TheVariants as gives
use Rattle.up_tree.specs.declared.term.Term.{Term, Var, Object, Fluent}
use Rattle.up_phrase.specs.declared.fault.Fault.{Fault}
use Rattle.up_phrase.specs.Declarations.{Declarations}
use Rattle.up_phrase.specs.declared.names.Signature.{Signature}
use Rattle.up_phrase.specs.declared.reason.Reason.TheVariants.{LeftOut, UnknownName, Arity, TypeMismatch, MetricTerm}
use Rattle.up_phrase.specs.declared.term.Setting.{Setting}
use Rattle.up_phrase.specs.declared.term.Setting.TheVariants as setting
use Rattle.up_phrase.specs.Named.{at, bare}
use Rattle.up_phrase.specs.Lookups.{type_of, function_of, fits}
use Rattle.up_phrase.specs.Scopes.{Variables, variable_type}
use Rattle.up_phrase.specs.Walks.{Checked, after, unless}

-- a name or variable of this type as a term, where an object of the type due is wanted
abbrev pub of_type : Declarations → Ident → Term → Option Name → Option Name → Checked Term
of_type names it term due None = rejected (at it.place UnknownName it.name) []
of_type names it term due (Some of) = behind (unless (fits names of due) (at it.place TypeMismatch it.name)) (parsed term)

-- the bracket of an object function where none may stand
abbrev pub unadmitted : Setting → Place → Name → List Fault
unadmitted setting.Plain place name = []
unadmitted setting.Constraint place name = bare place LeftOut ∷ []
unadmitted setting.Metric place name = at place MetricTerm name ∷ []

-- the types of the arguments of a function that gives this, in a bracket where an object is wanted
abbrev pub object_giver : Declarations → Setting → Place → Ident → Option Name → List Name → Gives → Checked (List Name)
object_giver names s place f due args gives.Number = rejected (at f.place TypeMismatch f.name) []
object_giver names s place f due args (gives.Object of) =
    behind (unadmitted s place f.name ++ unless (fits names of due) (at place TypeMismatch f.name)) (parsed args)

abbrev pub object_function : Declarations → Setting → Place → Ident → Option Name → Option Signature → Checked (List Name)
object_function names s place f due None = rejected (at f.place UnknownName f.name) []
object_function names s place f due (Some function) = object_giver names s place f due function.args function.gives

-- each argument where an object of its declared type is due
abbrev pub each_due : {A : Type 0} → List Name → List (Option Name → Checked A) → List (Checked A)
each_due [] args = []
each_due (due ∷ others) [] = []
each_due (due ∷ others) (arg ∷ args) = arg (Some due) ∷ each_due others args

-- the arguments in the bracket of a predicate or function: their number, then each
abbrev pub arguments : Place → Name → List (Option Name → Checked Term) → List Name → Checked (List Term)
arguments place name args declared = behind (unless (length args == length declared) (at place Arity name)) (all (each_due declared args))

-- first the predicate or function, which gives the declared types, then its arguments
abbrev pub applied : Place → Name → Checked (List Name) → List (Option Name → Checked Term) → Checked (List Term)
applied place name declared args = after declared (λ types. arguments place name args types)

unfoldable mutual
  pub term : Declarations → Variables → Setting → RawTerm → Option Name → Checked Term
  term names vars s (form.Name it) due = of_type names it (Object it.name) due (type_of names it.name)
  term names vars s (form.Variable it) due = of_type names it (Var it.name) due (variable_type vars it.name)
  term names vars s (form.Number place n) due = rejected (bare place TypeMismatch) []
  term names vars s (form.Call' place f n args) due =
      over (λ ts. Fluent f.name ts) (applied place f.name (object_function names s place f due (function_of names f.name)) (terms names vars s args))
  term names vars s (form.Arithmetic' place op n args) due = rejected (bare place TypeMismatch) []

  pub terms : Declarations → Variables → Setting → {n : _} → Row_of-RawTerm n → List (Option Name → Checked Term)
  terms names vars s end_of-RawTerm = []
  terms names vars s (more_of-RawTerm arg args) = (λ due. term names vars s arg due) ∷ terms names vars s args

-- The initial state that a list of members states.
use Rattle.std.specs.Prelude.{◌==◌, Bool, true, false, ◌&&◌, if◌then◌else◌, List, [], ◌∷◌, ◌++◌, length, map, Option, Some, None, is_some}
use Rattle.std.specs.Cmp.Lexicographic.{pointwise}
use Rattle.std.specs.List.{list_any}
use Rattle.std.specs.declared.cmp.Ordering.{Ordering}
use Rattle.std.specs.declared.cmp.Ordering.TheVariants.{Less, Equal, Greater}
use Rattle.up_text.specs.declared.name.Name.{Name}
use Rattle.up_text.specs.declared.place.Place.{Place}
use Rattle.up_text.specs.Names.{same_name}
use Rattle.up_frac.specs.Arithmetic.{compare}
use Rattle.up_frac.specs.declared.frac.Frac.{Frac}
use Rattle.pddl_lex.specs.Parses.{parsed, behind}
use Rattle.pddl_parse.specs.declared.raw.Ident.{Ident}
use Rattle.pddl_parse.specs.declared.raw.RawGround.{RawGround}
use Rattle.pddl_parse.specs.declared.raw.RawValue.{RawValue}
use Rattle.pddl_parse.specs.declared.raw.RawValue.TheVariants as value
use Rattle.pddl_parse.specs.declared.raw.RawInit.{RawInit}
use Rattle.pddl_parse.specs.declared.raw.RawInit.TheVariants as member
use Rattle.up_tree.specs.declared.problem.Fact.{Fact}
use Rattle.up_tree.specs.declared.problem.NumberFact.{NumberFact}
use Rattle.up_tree.specs.declared.problem.ValueFact.{ValueFact}
use Rattle.up_tree.specs.declared.problem.Gives.{Gives}
use Rattle.up_tree.specs.declared.problem.Gives.TheVariants as gives
use Rattle.up_phrase.specs.declared.fault.Fault.{Fault}
use Rattle.up_phrase.specs.declared.names.Signature.{Signature}
use Rattle.up_phrase.specs.declared.reason.Reason.TheVariants.{UnknownName, Duplicate, Arity, TypeMismatch}
use Rattle.up_phrase.specs.Declarations.{Declarations}
use Rattle.up_phrase.specs.Exprs.{no_number}
use Rattle.up_phrase.specs.Lookups.{type_of, is_under, predicate_of, function_of}
use Rattle.up_phrase.specs.Named.{at, bare}
use Rattle.up_phrase.specs.Walks.{Checked, unless}
use Rattle.up_check.specs.declared.lists.Initial.{Initial}

-- the first of faults
abbrev pub foremost : List Fault → Option Fault
foremost [] = None
foremost (fault ∷ others) = Some fault

-- the faults of a name of this type where an object of the type `due` must stand
abbrev pub object_faults : Declarations → Name → Ident → Option Name → List Fault
object_faults names due it None = at it.place UnknownName it.name ∷ []
object_faults names due it (Some of) = unless (is_under names of due) (at it.place TypeMismatch it.name)

-- the faults of arguments, each where an object of its declared type must stand
abbrev pub argument_faults : Declarations → List Name → List Ident → List Fault
argument_faults names [] args = []
argument_faults names (due ∷ others) [] = []
argument_faults names (due ∷ others) (arg ∷ args) = object_faults names due arg (type_of names arg.name) ++ argument_faults names others args

-- the faults in the bracket of a predicate or function with these types of arguments: their number, then each
abbrev pub bracket_faults : Declarations → RawGround → List Name → List Fault
bracket_faults names it types = unless (length it.args == length types) (at it.place Arity it.name.name) ++ argument_faults names types it.args

abbrev pub atom_faults : Declarations → RawGround → Option (List Name) → List Fault
atom_faults names atom None = at atom.name.place UnknownName atom.name.name ∷ []
atom_faults names atom (Some types) = bracket_faults names atom types

abbrev pub arguments : List Ident → List Name
arguments args = map (λ (arg : Ident). arg.name) args

-- whether the bracket names this predicate or function at these objects
abbrev pub is_at : RawGround → Name → List Name → Bool
is_at it name args = same_name it.name.name name && pointwise same_name (arguments it.args) args

-- the value of a term among those before it, if it has one there
abbrev pub number_at : RawGround → List NumberFact → Option Frac
number_at term [] = None
number_at term (fact ∷ facts) = if is_at term fact.function fact.args then Some fact.value else number_at term facts

abbrev pub object_at : RawGround → List ValueFact → Option Name
object_at term [] = None
object_at term (fact ∷ facts) = if is_at term fact.function fact.args then Some fact.value else object_at term facts

abbrev pub is_equal : Ordering → Bool
is_equal Less = false
is_equal Equal = true
is_equal Greater = false

-- whether a value is that which the term has before it, if it has one
abbrev pub keeps_number : Option Frac → Frac → Bool
keeps_number None n = true
keeps_number (Some before) n = is_equal (compare before n)

abbrev pub keeps_object : Option Name → Name → Bool
keeps_object None object = true
keeps_object (Some before) object = same_name before object

abbrev pub second_value : Place → RawGround → Fault
second_value place term = at place Duplicate term.name.name

-- the faults of a value by what the function gives: its own, then that of a second value
abbrev pub value_faults : Declarations → Initial → Place → RawGround → RawValue → Gives → List Fault
value_faults names before place term (value.Number here n) gives.Number = unless (keeps_number (number_at term before.numbers) n) (second_value place term)
value_faults names before place term (value.Object it) gives.Number = no_number it (type_of names it.name) ∷ []
value_faults names before place term (value.Number here n) (gives.Object of) = bare here TypeMismatch ∷ []
value_faults names before place term (value.Object it) (gives.Object of) =
    object_faults names of it (type_of names it.name) ++ unless (keeps_object (object_at term before.values) it.name) (second_value place term)

abbrev pub term_faults : Declarations → Initial → Place → RawGround → RawValue → Option Signature → List Fault
term_faults names before place term value None = at term.name.place UnknownName term.name.name ∷ []
term_faults names before place term value (Some function) =
    bracket_faults names term function.args ++ value_faults names before place term value function.gives

-- the faults of a member after what is stated before it
abbrev pub member_faults : Declarations → Initial → RawInit → List Fault
member_faults names before (member.Atom atom) = atom_faults names atom (predicate_of names atom.name.name)
member_faults names before (member.Absent atom) = atom_faults names atom (predicate_of names atom.name.name)
member_faults names before (member.Value place term value) = term_faults names before place term value (function_of names term.name.name)

-- what is stated, with an atom or a value last where it is new
abbrev pub with_atom : List Fact → RawGround → List Fact
with_atom facts atom =
    if list_any (λ (fact : Fact). is_at atom fact.predicate fact.args) facts then facts else
    facts ++ record { predicate = atom.name.name; args = arguments atom.args } ∷ []

abbrev pub with_number : List NumberFact → RawGround → Frac → List NumberFact
with_number facts term n =
    if is_some (number_at term facts) then facts else facts ++ record { function = term.name.name; args = arguments term.args; value = n } ∷ []

abbrev pub with_object : List ValueFact → RawGround → Name → List ValueFact
with_object facts term object =
    if is_some (object_at term facts) then facts else facts ++ record { function = term.name.name; args = arguments term.args; value = object } ∷ []

abbrev pub with_value : Initial → RawGround → RawValue → Initial
with_value before term (value.Number here n) = record { atoms = before.atoms; numbers = with_number before.numbers term n; values = before.values }
with_value before term (value.Object it) = record { atoms = before.atoms; numbers = before.numbers; values = with_object before.values term it.name }

-- an absent atom states nothing
abbrev pub with_member : Initial → RawInit → Initial
with_member before (member.Atom atom) = record { atoms = with_atom before.atoms atom; numbers = before.numbers; values = before.values }
with_member before (member.Absent atom) = before
with_member before (member.Value place term value) = with_value before term value

-- the members of a list after what is stated before them
abbrev pub stated : Declarations → Initial → List RawInit → Checked Initial
stated names before [] = parsed before
stated names before (member ∷ others) = behind (member_faults names before member) (stated names (with_member before member) others)

abbrev pub initial : Declarations → List RawInit → Checked Initial
initial names members = stated names (record { atoms = []; numbers = []; values = [] }) members

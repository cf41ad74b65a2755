-- Variables in scope, from the outside in, each with its type.
use Rattle.std.specs.Prelude.{Bool, ◌||◌, List, [], ◌∷◌, ◌++◌, Option, Some, None, is_some, if◌then◌else◌}
use Rattle.std.specs.List.{list_any}
use Rattle.std.specs.Map.{lookup}
use Rattle.std.specs.Option.{option_map_or}
use Rattle.pddl_lex.specs.Parses.{parsed, rejected, behind}
use Rattle.pddl_parse.specs.declared.raw.Ident.{Ident}
use Rattle.pddl_parse.specs.declared.raw.RawGroup.{RawGroup}
use Rattle.up_text.specs.declared.name.Name.{Name}
use Rattle.up_text.specs.Names.{same_name}
use Rattle.up_tree.specs.declared.term.Typed.{Typed}
use Rattle.up_phrase.specs.declared.fault.Fault.{Fault}
use Rattle.up_phrase.specs.Declarations.{Declarations}
use Rattle.up_phrase.specs.declared.reason.Reason.TheVariants.{Duplicate, UnknownName}
use Rattle.up_phrase.specs.declared.scope.Binder.{Binder}
use Rattle.up_phrase.specs.declared.scope.Binder.TheVariants as binder
use Rattle.up_phrase.specs.declared.scope.Scope.{Scope}
use Rattle.up_phrase.specs.Named.{at, object}
use Rattle.up_phrase.specs.Lookups.{is_type}
use Rattle.up_phrase.specs.Walks.{Checked, after, unless}

abbrev pub Variables : Type 0
Variables = List (Name × Name)

-- what is in scope
abbrev pub variables : Scope → Variables
variables scope = scope.types.entries

-- the variables that the conditions around an effect bind
abbrev pub barred : Scope → List Name
barred scope = scope.barred.keys

-- the type of a variable in scope
abbrev pub variable_type : Variables → Name → Option Name
variable_type vars name = lookup (same_name name) vars

-- the names beside those in scope that a binder's variables may not have
abbrev pub barred_to : Binder → List Name → List Name
barred_to binder.Plain names = []
barred_to binder.Effect names = names

-- whether another declaration of the name would be its second
abbrev pub is_taken : List Name → Variables → Name → Bool
is_taken barred vars name = is_some (variable_type vars name) || list_any (same_name name) barred

-- variables of one type, entered from left to right
abbrev pub entered : List Name → Name → List Ident → Variables → Checked Variables
entered barred of [] vars = parsed vars
entered barred of (it ∷ others) vars =
    if is_taken barred vars it.name then rejected (at it.place Duplicate it.name) [] else entered barred of others (vars ++ (it.name, of) ∷ [])

-- the type that is stated, or `object`
abbrev pub type_named : Option Ident → Name
type_named of = option_map_or (λ it. it.name) of object

-- the fault of a type that is stated and not declared
abbrev pub type_fault : Declarations → Option Ident → List Fault
type_fault names None = []
type_fault names (Some of) = unless (is_type names of.name) (at of.place UnknownName of.name)

-- a typed list, entered group by group: the faults of the variables of a group come before that of their type
abbrev pub entered_groups : Declarations → List Name → List RawGroup → Variables → Checked Variables
entered_groups names barred [] vars = parsed vars
entered_groups names barred (group ∷ others) vars =
    after (entered barred (type_named group.of) group.names vars) (λ more. behind (type_fault names group.of) (entered_groups names barred others more))

-- an entry of a scope as a variable of the tree
abbrev pub typed : Name × Name → Typed
typed entry = record { name = entry.0; of = entry.1 }

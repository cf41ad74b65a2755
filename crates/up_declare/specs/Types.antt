-- The types that a domain lists, and their faults.
use Rattle.std.specs.Prelude.{ℕ, zero, suc, ◌+◌, Bool, true, false, ◌||◌, List, [], ◌∷◌, ◌++◌, length, Option, Some, None, is_some, if◌then◌else◌}
use Rattle.std.specs.Map.{lookup}
use Rattle.std.specs.Option.{option_map_or}
use Rattle.pddl_lex.specs.Parses.{parsed, behind}
use Rattle.pddl_parse.specs.declared.raw.Ident.{Ident}
use Rattle.pddl_parse.specs.declared.raw.RawGroup.{RawGroup}
use Rattle.up_text.specs.declared.name.Name.{Name}
use Rattle.up_text.specs.Names.{same_name}
use Rattle.up_phrase.specs.declared.fault.Fault.{Fault}
use Rattle.up_phrase.specs.declared.reason.Reason.{Reason}
use Rattle.up_phrase.specs.declared.reason.Reason.TheVariants.{Duplicate, TypeCycle}
use Rattle.up_phrase.specs.Named.{at, object, is_object}
use Rattle.up_phrase.specs.Scopes.{type_named}
use Rattle.up_phrase.specs.Walks.{Checked}

-- types in the order of their first places, each with its parent there
abbrev pub Types : Type 0
Types = List (Name × Name)

abbrev pub parent_in : Types → Name → Option Name
parent_in types name = lookup (same_name name) types

-- with one more type, unless it is there or is `object`
abbrev pub with_type : Name → Name → Types → Types
with_type name parent types = if is_object name || is_some (parent_in types name) then types else types ++ (name, parent) ∷ []

-- with the names of a group, from left to right
abbrev pub with_names : Name → List Ident → Types → Types
with_names parent [] types = types
with_names parent (it ∷ others) types = with_names parent others (with_type it.name parent types)

-- with the names of a typed list
abbrev pub with_groups : List RawGroup → Types → Types
with_groups [] types = types
with_groups (group ∷ others) types = with_groups others (with_names (type_named group.of) group.names types)

-- with the names that stand only as parents, under `object`
abbrev pub with_parents : List RawGroup → Types → Types
with_parents [] types = types
with_parents (group ∷ others) types = with_parents others (with_type (type_named group.of) object types)

-- one of the first so many names of a chain of parents isn't listed: it is `object`, or a name that stands only as a parent
abbrev pub leaves : Types → ℕ → Name → Bool
leaves types zero name = false
leaves types (suc n) name = option_map_or (λ parent. leaves types n parent) (parent_in types name) true

-- the chain of parents reaches `object`; among more names than are listed there is one that isn't, or the chain goes round
abbrev pub reaches : Types → Name → Bool
reaches types name = leaves types (length types + 1) name

-- what is wrong where a name stands with this parent after the places of these types
abbrev pub reason_at : Types → Types → Name → Name → Option Reason
reason_at types seen parent name =
    if is_object name then (if is_object parent then None else Some Duplicate)
    else option_map_or (λ first. if same_name first parent then None else Some Duplicate) (parent_in seen name) (if reaches types name then None else Some TypeCycle)

abbrev pub fault_at : Types → Types → Name → Ident → List Fault
fault_at types seen parent it = option_map_or (λ reason. at it.place reason it.name ∷ []) (reason_at types seen parent it.name) []

-- the faults of a group, from left to right
abbrev pub name_faults : Types → Types → Name → List Ident → List Fault
name_faults types seen parent [] = []
name_faults types seen parent (it ∷ others) = fault_at types seen parent it ++ name_faults types (with_type it.name parent seen) parent others

-- the faults of a typed list of types
abbrev pub type_faults : Types → Types → List RawGroup → List Fault
type_faults types seen [] = []
type_faults types seen (group ∷ others) =
    name_faults types seen (type_named group.of) group.names ++ type_faults types (with_names (type_named group.of) group.names seen) others

-- the types that a domain lists, with those that it names only as parents
abbrev pub types : List RawGroup → Checked Types
types groups = behind (type_faults (with_groups groups []) [] groups) (parsed (with_parents groups (with_groups groups [])))

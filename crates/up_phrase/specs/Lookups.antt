-- What is declared, as the checks look it up.
use Rattle.std.specs.Prelude.{ℕ, zero, suc, Bool, true, false, ◌||◌, List, length, Option, Some, None, is_some}
use Rattle.std.specs.Option.{option_map_or}
use Rattle.std.specs.Map.{lookup}
use Rattle.up_text.specs.declared.name.Name.{Name}
use Rattle.up_text.specs.Names.{same_name}
use Rattle.up_phrase.specs.Declarations.{Declarations}
use Rattle.up_phrase.specs.declared.names.Signature.{Signature}
use Rattle.up_phrase.specs.Named.{is_object}

-- the parent of a declared type
abbrev pub parent_of : Declarations → Name → Option Name
parent_of names name = lookup (same_name name) names.types

-- the type of a constant or object
abbrev pub type_of : Declarations → Name → Option Name
type_of names name = lookup (same_name name) names.objects

-- the types of a predicate's arguments
abbrev pub predicate_of : Declarations → Name → Option (List Name)
predicate_of names name = lookup (same_name name) names.predicates

abbrev pub function_of : Declarations → Name → Option Signature
function_of names name = lookup (same_name name) names.functions

abbrev pub is_type : Declarations → Name → Bool
is_type names name = is_object name || is_some (parent_of names name)

-- the type is `due` or has it above itself, at most so many parents up
abbrev pub climbs : Declarations → Name → ℕ → Name → Bool
climbs names due zero name = same_name name due
climbs names due (suc n) name = same_name name due || option_map_or (λ parent. climbs names due n parent) (parent_of names name) false

-- the type is `due` or stands below it; each parent is a declared type, so as many steps as there are of them suffice
abbrev pub is_under : Declarations → Name → Name → Bool
is_under names name due = is_object due || climbs names due (length names.types) name

-- any type fits where none is due
abbrev pub fits : Declarations → Name → Option Name → Bool
fits names name None = true
fits names name (Some due) = is_under names name due

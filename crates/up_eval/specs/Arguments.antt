-- Tests of a step's arguments.
use Rattle.std.specs.Prelude.{Bool, ◌&&◌, is_some, List, zip}
use Rattle.std.specs.List.{list_any, list_all}
use Rattle.up_text.specs.declared.name.Name.{Name}
use Rattle.up_text.specs.Names.{same_name}
use Rattle.up_tree.specs.declared.term.Typed.{Typed}
use Rattle.up_tree.specs.Objects.{World, named, is_below}

-- each is an object
abbrev pub are_known : World → List Name → Bool
are_known w args = list_all (λ arg. is_some (named w.objects arg)) args

-- one of the entries has the name, with a type that stands at or below `t`
abbrev pub is_object_of : World → Name → List Typed → Name → Bool
is_object_of w t entries name = list_any (λ e. same_name e.name name && is_below w e.of t) entries

-- each is of the type of the parameter at its place
abbrev pub are_typed : World → List Name → List Typed → Bool
are_typed w args params = list_all (λ pair. is_object_of w pair.1.of w.objects pair.0) (zip args params)

-- What a list of bindings assigns.
use Rattle.std.specs.Prelude.{if◌then◌else◌, List, [], ◌∷◌, map, flat_map, filter, Option, Some, None}
use Rattle.up_text.specs.declared.name.Name.{Name}
use Rattle.up_text.specs.Names.{same_name}
use Rattle.up_tree.specs.declared.term.Typed.{Typed}
use Rattle.up_tree.specs.Objects.{World, Assignment, is_below}
use Rattle.up_eval.specs.declared.scope.Binding.{Binding}

-- the object of the last binding of the name, or else what was found before
abbrev pub found_in : Name → List Binding → Option Name → Option Name
found_in name [] found = found
found_in name (b ∷ bs) found = found_in name bs (if same_name b.variable name then Some b.object else found)

abbrev pub assignment_of : List Binding → Assignment
assignment_of scope name = found_in name scope None

-- the tuples, each after an object
abbrev pub with_first : Name → List (List Name) → List (List Name)
with_first o rests = map (λ rest. o ∷ rest) rests

-- object by object
abbrev pub products : List Name → List (List Name) → List (List Name)
products objects rests = flat_map (λ o. with_first o rests) objects

-- the names of those entries whose type is one or below it
abbrev pub names_below : World → Name → List Typed → List Name
names_below w t entries = map (λ o. o.name) (filter (λ o. is_below w o.of t) entries)

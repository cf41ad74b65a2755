-- Which instances of an object function have an initial value, argument by argument.
use Rattle.std.specs.Prelude.{◌≡◌, Bool, false, ◌&&◌, ◌||◌, not as flip, List, [], ◌∷◌, ◌++◌}
use Rattle.std.specs.List.{list_all, list_any}
use Rattle.up_text.specs.declared.name.Name.{Name}
use Rattle.up_text.specs.Names.{same_name}
use Rattle.up_tree.specs.declared.problem.Parts.{Parts}
use Rattle.up_tree.specs.declared.problem.ValueFact.{ValueFact}
use Rattle.up_tree.specs.declared.term.Typed.{Typed}
use Rattle.up_tree.specs.Objects.{world, is_below}
use Rattle.up_kind.specs.Carried.{type_tuples, has_value}
use Rattle.up_kind.specs.Keys.{same_ground, is_value}
use Rattle.up_kind.specs.declared.ground.Ground.{Ground}
use Rattle.indexmap.specs.IndexSet.{IndexSet, contains}

-- the set has the functions at objects that have a value
pub record HasValues {S : Type 0} (set : IndexSet Ground S) (values : List ValueFact) : Type 0 where
  pub each : (key : Ground) → contains same_ground set key ≡ list_any (is_value key) values

unfoldable pub has_object : Parts → Name → Bool
has_object p of = list_any (λ o. is_below (world p) o.of of) p.objects

abbrev pub are_inhabited : Parts → List Name → Bool
are_inhabited p types = list_all (has_object p) types

-- each list that the prefix and objects of these types make is the arguments of a value
unfoldable pub covers : Parts → Name → List Name → List Name → Bool
covers p f prefix types = list_all (λ rest. has_value p f (prefix ++ rest)) (type_tuples p types)

-- the same of the prefix with an object besides, where that is of the type
unfoldable pub covers_with : Parts → Name → List Name → List Name → Name → Typed → Bool
covers_with p f prefix types of o = flip (is_below (world p) o.of of) || covers p f (prefix ++ o.name ∷ []) types

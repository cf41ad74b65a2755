-- A predicate or a function at objects, as a key.
use Rattle.std.specs.Prelude.{Bool, ◌&&◌}
use Rattle.std.specs.Cmp.Lexicographic.{pointwise}
use Rattle.up_text.specs.Names.{same_name}
use Rattle.up_tree.specs.declared.problem.ValueFact.{ValueFact}
use Rattle.up_kind.specs.declared.ground.Ground.{Ground}

abbrev pub same_ground : Ground → Ground → Bool
same_ground a b = same_name a.name b.name && pointwise same_name a.args.items b.args.items

abbrev pub is_value : Ground → ValueFact → Bool
is_value key v = same_name v.function key.name && pointwise same_name v.args key.args.items

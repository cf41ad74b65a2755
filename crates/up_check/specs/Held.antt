-- The initial state in the tables of the traversal.
use Rattle.std.specs.Prelude.{Bool, ◌&&◌, map}
use Rattle.std.specs.Cmp.Lexicographic.{pointwise}
use Rattle.up_text.specs.declared.name.Name.{Name}
use Rattle.up_text.specs.Names.{same_name}
use Rattle.up_frac.specs.declared.frac.Frac.{Frac}
use Rattle.up_tree.specs.declared.problem.Fact.{Fact}
use Rattle.up_tree.specs.declared.problem.NumberFact.{NumberFact}
use Rattle.up_tree.specs.declared.problem.ValueFact.{ValueFact}
use Rattle.up_check.specs.declared.init.Ground.{Ground}
use Rattle.up_check.specs.declared.init.Init.{Init}
use Rattle.up_check.specs.declared.lists.Initial.{Initial}

-- whether two are the same predicate or function at the same objects
abbrev pub same_ground : Ground → Ground → Bool
same_ground a b = same_name a.name b.name && pointwise same_name a.args.items b.args.items

abbrev pub fact : Ground → Fact
fact atom = record { predicate = atom.name; args = atom.args.items }

abbrev pub number_fact : Ground × Frac → NumberFact
number_fact entry = record { function = entry.0.name; args = entry.0.args.items; value = entry.1 }

abbrev pub value_fact : Ground × Name → ValueFact
value_fact entry = record { function = entry.0.name; args = entry.0.args.items; value = entry.1 }

abbrev pub held : Init → Initial
held init = record { atoms = map fact init.atoms.keys; numbers = map number_fact init.numbers.entries; values = map value_fact init.values.entries }

-- What is declared, as a problem holds it.
use Rattle.std.specs.Prelude.{List}
use Rattle.up_text.specs.declared.name.Name.{Name}
use Rattle.up_tree.specs.declared.problem.Function.{Function}
use Rattle.up_tree.specs.declared.problem.Predicate.{Predicate}
use Rattle.up_phrase.specs.declared.names.Signature.{Signature}

abbrev pub predicate : Name × List Name → Predicate
predicate entry = record { name = entry.0; args = entry.1 }

abbrev pub function : Name × Signature → Function
function entry = record { name = entry.0; args = entry.1.args; gives = entry.1.gives }

-- What tests look at of a problem.
use Rattle.std.specs.Prelude.{ℕ, Bool, ◌&&◌, List, length}
use Rattle.std.specs.Borrow.{Bor}
use Rattle.reading_tests.specs.declared.looks.Counts.{Counts}
use Rattle.up_tree.specs.declared.problem.Parts.{Parts}
use Rattle.up_tree.specs.declared.term.Typed.{Typed}
use Rattle.up_text.specs.Names.{same_name}
use Rattle.up_tree.specs.Sizes.{cut, problem_size}

-- the entry of a name and its type
abbrev pub entry : (Bor (List ℕ) × Bor (List ℕ)) → Typed
entry due = record { name = due.0.now; of = due.1.now }

-- the entry has the name and the type
abbrev pub is_entry : Typed → (Bor (List ℕ) × Bor (List ℕ)) → Bool
is_entry typed due = same_name typed.name due.0.now && same_name typed.of due.1.now

-- how much a problem holds of each kind, and how many nodes its actions and its goal have
abbrev pub counts : Parts → Counts
counts p = record {
  constants = p.constants;
  predicates = length p.predicates;
  functions = length p.functions;
  atoms = length p.atoms;
  actions = length p.actions;
  nodes = cut (problem_size p);
}

-- The entries of the initial state, and what they are typed by.
use Rattle.std.specs.Prelude.{List, [], ◌∷◌, map}
use Rattle.std.specs.FinSet as set
use Rattle.std.specs.FinMap as table
use Rattle.up_frac.specs.Fraction.{Fraction}
use Rattle.up_text.specs.declared.name.Name.{Name}
use Rattle.up_tree.specs.declared.problem.Parts.{Parts}
use Rattle.up_tree.specs.declared.problem.Fact.{Fact}
use Rattle.up_tree.specs.declared.problem.NumberFact.{NumberFact}
use Rattle.up_tree.specs.declared.problem.ValueFact.{ValueFact}
use Rattle.up_tree.specs.State.{State, Ground, ground, ground_cmp}
use Rattle.up_tree.specs.StateOf.{IsStateOf}
use Rattle.up_tree.specs.WellFormed.{IsWellFormed}

abbrev pub ground_atoms : List Fact → List Ground
ground_atoms facts = map (λ a. ground a.predicate a.args) facts

abbrev pub number_entries : List NumberFact → List (Ground × Fraction)
number_entries facts = map (λ n. (ground n.function n.args, n.value)) facts

abbrev pub value_entries : List ValueFact → List (Ground × Name)
value_entries facts = map (λ v. (ground v.function v.args, v.value)) facts

-- where the problem is well-formed, the state is one of it
abbrev pub IsOfWellFormed : Parts → State → Type 0
IsOfWellFormed p s = IsWellFormed p → IsStateOf p s

-- the entries put into a map, the first last
abbrev pub put_all : {X : Type 0} → List (Ground × X) → table.FinMap ground_cmp X → table.FinMap ground_cmp X
put_all [] m = m
put_all (e ∷ es) m = table.insert (put_all es m) e.0 e.1

-- the atoms put into a set, the first last
abbrev pub add_all : List Ground → set.FinSet ground_cmp → set.FinSet ground_cmp
add_all [] s = s
add_all (a ∷ more) s = set.insert (add_all more s) a

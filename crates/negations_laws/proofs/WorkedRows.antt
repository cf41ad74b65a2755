-- The construction on a small problem, and its count.
use Rattle.std.proofs.Common.{◌≡◌, List, [], ◌∷◌, ◌++◌, None, map, codes, refl}
use Rattle.up_text.specs.declared.name.Name.{Name}
use Rattle.up_text.specs.Names.{reserved_words}
use Rattle.up_text.specs.Fresh.{digits, fresh_name}
use Rattle.up_tree.specs.declared.term.Term.{Term, Var, Object}
use Rattle.up_tree.specs.declared.term.Typed.{Typed}
use Rattle.up_tree.specs.declared.formula.Formula.{Formula, And, Not, Atom, Equal}
use Rattle.up_tree.specs.declared.formula.Formula.TheBlock.{hidden-the_row-Formula-0, hidden-the_row-Formula-1}
use Rattle.up_tree.specs.declared.action.Action.{Action}
use Rattle.up_tree.specs.declared.action.Row.{Row}
use Rattle.up_tree.specs.declared.action.Effect.{Effect}
use Rattle.up_tree.specs.declared.action.Effect.TheVariants as effect
use Rattle.up_tree.specs.declared.problem.Fact.{Fact}
use Rattle.up_tree.specs.declared.problem.Parts.{Parts}
use Rattle.up_tree.specs.declared.problem.Predicate.{Predicate}
use Rattle.up_tree.specs.Simplify.{true_formula, simplified}
use Rattle.up_tree.specs.Sizes.{term_size, formula_size, members_size}
use Rattle.up_tree.specs.Normal.{nnf}
use Rattle.up_kind.specs.Carried.{anywhere}
use Rattle.negations_laws.specs.Twins.{positive}
use Rattle.negations_laws.specs.Negations.{negated, negations, negations_count}

abbrev thing : Name
thing = codes "object"

abbrev v : Name → Typed
v name = record { name = name; of = thing }

abbrev at1 : Name → Name → Formula
at1 p x = Atom p (Var x ∷ [])

abbrev at2 : Name → Name → Name → Formula
at2 p x y = Atom p (Var x ∷ Var y ∷ [])

abbrev row : Effect → Row
row e = record { vars = []; when = true_formula; effect = e }

abbrev add1 : Name → Name → Row
add1 p x = row (effect.Add p (Var x ∷ []))

abbrev del1 : Name → Name → Row
del1 p x = row (effect.Delete p (Var x ∷ []))

abbrev add2 : Name → Name → Name → Row
add2 p x y = row (effect.Add p (Var x ∷ Var y ∷ []))

abbrev del2 : Name → Name → Name → Row
del2 p x y = row (effect.Delete p (Var x ∷ Var y ∷ []))

abbrev predicate : Name → List Name → Predicate
predicate name args = record { name = name; args = args }

abbrev action : Name → List Name → List Formula → List Row → Action
action name params fs rows = record { name = name; params = map v params; pre = And fs; rows = rows }

abbrev move_pre : List Formula
move_pre = at1 (codes "room") (codes "f") ∷ at1 (codes "room") (codes "t") ∷ at1 (codes "at-robby") (codes "f") ∷ []

abbrev both : List Name
both = codes "f" ∷ codes "t" ∷ []

abbrev pick : Action
pick = action (codes "pick") (codes "b" ∷ codes "r" ∷ [])
    (at1 (codes "ball") (codes "b") ∷ at1 (codes "room") (codes "r") ∷ at2 (codes "at") (codes "b") (codes "r") ∷ at1 (codes "at-robby") (codes "r") ∷ Atom (codes "free") [] ∷ [])
    (add1 (codes "carry") (codes "b") ∷ del2 (codes "at") (codes "b") (codes "r") ∷ row (effect.Delete (codes "free") []) ∷ [])

abbrev drop : Action
drop = action (codes "drop") (codes "b" ∷ codes "r" ∷ [])
    (at1 (codes "ball") (codes "b") ∷ at1 (codes "room") (codes "r") ∷ at1 (codes "carry") (codes "b") ∷ at1 (codes "at-robby") (codes "r") ∷ [])
    (add2 (codes "at") (codes "b") (codes "r") ∷ row (effect.Add (codes "free") []) ∷ del1 (codes "carry") (codes "b") ∷ [])

abbrev fact : Name → List Name → Fact
fact p args = record { predicate = p; args = args }

-- two rooms and a ball
abbrev gripper : List Action → Formula → Parts
gripper actions goal = record {
  domain = codes "gripper";
  name = codes "two-rooms";
  types = [];
  constants = 0;
  objects = v (codes "rooma") ∷ v (codes "roomb") ∷ v (codes "ball1") ∷ [];
  predicates =
      predicate (codes "room") (thing ∷ []) ∷ predicate (codes "ball") (thing ∷ []) ∷ predicate (codes "free") [] ∷ predicate (codes "at-robby") (thing ∷ [])
      ∷ predicate (codes "at") (thing ∷ thing ∷ []) ∷ predicate (codes "carry") (thing ∷ []) ∷ [];
  functions = [];
  atoms =
      fact (codes "room") (codes "rooma" ∷ []) ∷ fact (codes "room") (codes "roomb" ∷ []) ∷ fact (codes "ball") (codes "ball1" ∷ []) ∷ fact (codes "free") []
      ∷ fact (codes "at-robby") (codes "rooma" ∷ []) ∷ fact (codes "at") (codes "ball1" ∷ codes "rooma" ∷ []) ∷ [];
  numbers = [];
  values = [];
  actions = actions;
  goal = goal;
  metric = None;
  constraints = [];
}

abbrev differ : Formula
differ = Atom (codes "differ") (Var (codes "f") ∷ Var (codes "t") ∷ [])

source : Parts
source =
    gripper
    (action (codes "move-1") both (move_pre ++ Equal (Var (codes "f")) (Var (codes "t")) ∷ []) (add1 (codes "at-robby") (codes "t") ∷ [])
    ∷ action (codes "move-2") both (move_pre ++ Not (Equal (Var (codes "f")) (Var (codes "t"))) ∷ []) (add1 (codes "at-robby") (codes "t") ∷ del1 (codes "at-robby") (codes "f") ∷ [])
    ∷ pick ∷ drop ∷ [])
    (Not (Atom (codes "at-robby") (Object (codes "rooma") ∷ [])))

-- twice 89 for the actions, 3 for the goal, 3 tuples of `at-robby`, 9 for `differ`
source_count : negations_count source ≡ 193
unfolding source negated term_size formula_size members_size hidden-the_row-Formula-0 hidden-the_row-Formula-1 denote.Hole.Carrier.hidden
source_count = refl

-- behind each row stands that of the twin
with_twins : (negations source).parts.actions
    ≡ action (codes "move-1") both (move_pre ++ Equal (Var (codes "f")) (Var (codes "t")) ∷ []) (add1 (codes "at-robby") (codes "t") ∷ del1 (codes "not-at-robby") (codes "t") ∷ [])
    ∷ action (codes "move-2") both (move_pre ++ differ ∷ [])
    (add1 (codes "at-robby") (codes "t") ∷ del1 (codes "not-at-robby") (codes "t") ∷ del1 (codes "at-robby") (codes "f") ∷ add1 (codes "not-at-robby") (codes "f") ∷ [])
    ∷ pick ∷ drop ∷ []
unfolding source simplified nnf positive anywhere fresh_name digits reserved_words hidden-the_row-Formula-0 hidden-the_row-Formula-1 denote.Hole.Carrier.hidden
with_twins = refl

goal_of_twin : (negations source).parts.goal ≡ Atom (codes "not-at-robby") (Object (codes "rooma") ∷ [])
unfolding source simplified nnf positive anywhere fresh_name digits reserved_words hidden-the_row-Formula-0 hidden-the_row-Formula-1 denote.Hole.Carrier.hidden
goal_of_twin = refl

-- the twin's tuples that aren't initial for `at-robby`, and all pairs of different objects
with_atoms : (negations source).parts.atoms
    ≡ source.atoms
    ++ fact (codes "not-at-robby") (codes "roomb" ∷ []) ∷ fact (codes "not-at-robby") (codes "ball1" ∷ [])
    ∷ fact (codes "differ") (codes "rooma" ∷ codes "roomb" ∷ []) ∷ fact (codes "differ") (codes "rooma" ∷ codes "ball1" ∷ [])
    ∷ fact (codes "differ") (codes "roomb" ∷ codes "rooma" ∷ []) ∷ fact (codes "differ") (codes "roomb" ∷ codes "ball1" ∷ [])
    ∷ fact (codes "differ") (codes "ball1" ∷ codes "rooma" ∷ []) ∷ fact (codes "differ") (codes "ball1" ∷ codes "roomb" ∷ []) ∷ []
unfolding source simplified nnf positive anywhere fresh_name digits reserved_words hidden-the_row-Formula-0 hidden-the_row-Formula-1 denote.Hole.Carrier.hidden
with_atoms = refl

-- The construction on a small problem, and its count.
use Rattle.std.proofs.Common.{◌≡◌, List, [], ◌∷◌, ◌++◌, None, map, codes, refl, false}
use Rattle.up_text.specs.declared.name.Name.{Name}
use Rattle.up_text.specs.Names.{reserved_words}
use Rattle.up_text.specs.Fresh.{digits, fresh_name}
use Rattle.up_tree.specs.declared.term.Term.{Term, Var, Object}
use Rattle.up_tree.specs.declared.term.Typed.{Typed}
use Rattle.up_tree.specs.declared.formula.Formula.{Formula, And, Not, Atom, Equal}
use Rattle.up_tree.specs.declared.formula.Formula.TheBlock.{hidden-the_row-Formula-0, hidden-the_row-Formula-1}
use Rattle.up_tree.specs.declared.action.Action.{Action}
use Rattle.up_tree.specs.declared.action.Row.{Row}
use Rattle.up_tree.specs.declared.action.Effect.{Effect}
use Rattle.up_tree.specs.declared.action.Effect.TheVariants as effect
use Rattle.up_tree.specs.declared.problem.Fact.{Fact}
use Rattle.up_tree.specs.declared.problem.Parts.{Parts}
use Rattle.up_tree.specs.declared.problem.Predicate.{Predicate}
use Rattle.up_tree.specs.Simplify.{true_formula, simplified}
use Rattle.up_tree.specs.Sizes.{term_size, formula_size, members_size}
use Rattle.up_kind.specs.Meeting.{top_conjuncts, is_guarded, meet, has_meeting_rows}
use Rattle.overlaps_laws.specs.Overlaps.{overlaps, overlaps_count}

abbrev thing : Name
thing = codes "object"

abbrev v : Name → Typed
v name = record { name = name; of = thing }

abbrev at1 : Name → Name → Formula
at1 p x = Atom p (Var x ∷ [])

abbrev at2 : Name → Name → Name → Formula
at2 p x y = Atom p (Var x ∷ Var y ∷ [])

abbrev row : Effect → Row
row e = record { vars = []; when = true_formula; effect = e }

abbrev add1 : Name → Name → Row
add1 p x = row (effect.Add p (Var x ∷ []))

abbrev del1 : Name → Name → Row
del1 p x = row (effect.Delete p (Var x ∷ []))

abbrev add2 : Name → Name → Name → Row
add2 p x y = row (effect.Add p (Var x ∷ Var y ∷ []))

abbrev del2 : Name → Name → Name → Row
del2 p x y = row (effect.Delete p (Var x ∷ Var y ∷ []))

abbrev predicate : Name → List Name → Predicate
predicate name args = record { name = name; args = args }

abbrev action : Name → List Name → List Formula → List Row → Action
action name params fs rows = record { name = name; params = map v params; pre = And fs; rows = rows }

abbrev move_pre : List Formula
move_pre = at1 (codes "room") (codes "f") ∷ at1 (codes "room") (codes "t") ∷ at1 (codes "at-robby") (codes "f") ∷ []

abbrev both : List Name
both = codes "f" ∷ codes "t" ∷ []

abbrev pick : Action
pick = action (codes "pick") (codes "b" ∷ codes "r" ∷ [])
    (at1 (codes "ball") (codes "b") ∷ at1 (codes "room") (codes "r") ∷ at2 (codes "at") (codes "b") (codes "r") ∷ at1 (codes "at-robby") (codes "r") ∷ Atom (codes "free") [] ∷ [])
    (add1 (codes "carry") (codes "b") ∷ del2 (codes "at") (codes "b") (codes "r") ∷ row (effect.Delete (codes "free") []) ∷ [])

abbrev drop : Action
drop = action (codes "drop") (codes "b" ∷ codes "r" ∷ [])
    (at1 (codes "ball") (codes "b") ∷ at1 (codes "room") (codes "r") ∷ at1 (codes "carry") (codes "b") ∷ at1 (codes "at-robby") (codes "r") ∷ [])
    (add2 (codes "at") (codes "b") (codes "r") ∷ row (effect.Add (codes "free") []) ∷ del1 (codes "carry") (codes "b") ∷ [])

abbrev fact : Name → List Name → Fact
fact p args = record { predicate = p; args = args }

-- two rooms and a ball
abbrev gripper : List Action → Formula → Parts
gripper actions goal = record {
  domain = codes "gripper";
  name = codes "two-rooms";
  types = [];
  constants = 0;
  objects = v (codes "rooma") ∷ v (codes "roomb") ∷ v (codes "ball1") ∷ [];
  predicates =
      predicate (codes "room") (thing ∷ []) ∷ predicate (codes "ball") (thing ∷ []) ∷ predicate (codes "free") [] ∷ predicate (codes "at-robby") (thing ∷ [])
      ∷ predicate (codes "at") (thing ∷ thing ∷ []) ∷ predicate (codes "carry") (thing ∷ []) ∷ [];
  functions = [];
  atoms =
      fact (codes "room") (codes "rooma" ∷ []) ∷ fact (codes "room") (codes "roomb" ∷ []) ∷ fact (codes "ball") (codes "ball1" ∷ []) ∷ fact (codes "free") []
      ∷ fact (codes "at-robby") (codes "rooma" ∷ []) ∷ fact (codes "at") (codes "ball1" ∷ codes "rooma" ∷ []) ∷ [];
  numbers = [];
  values = [];
  actions = actions;
  goal = goal;
  metric = None;
  constraints = [];
}

source : Parts
source = gripper (action (codes "move") both move_pre (add1 (codes "at-robby") (codes "t") ∷ del1 (codes "at-robby") (codes "f") ∷ []) ∷ pick ∷ drop ∷ []) (Atom (codes "at") (Object (codes "ball1") ∷ Object (codes "roomb") ∷ []))

-- 18 times 2 for `move`, 26 for `pick`, 24 for `drop`
source_count : overlaps_count source ≡ 86
unfolding source meet is_guarded top_conjuncts term_size formula_size members_size hidden-the_row-Formula-0 hidden-the_row-Formula-1 denote.Hole.Carrier.hidden
source_count = refl

-- the variant for equal arguments lacks the delete row, and the other has the guard behind the precondition
split : (overlaps source).parts.actions
    ≡ action (codes "move-1") both (move_pre ++ Equal (Var (codes "f")) (Var (codes "t")) ∷ []) (add1 (codes "at-robby") (codes "t") ∷ [])
    ∷ action (codes "move-2") both (move_pre ++ Not (Equal (Var (codes "f")) (Var (codes "t"))) ∷ []) (add1 (codes "at-robby") (codes "t") ∷ del1 (codes "at-robby") (codes "f") ∷ [])
    ∷ pick ∷ drop ∷ []
unfolding source simplified meet is_guarded top_conjuncts fresh_name digits reserved_words hidden-the_row-Formula-0 hidden-the_row-Formula-1 denote.Hole.Carrier.hidden
split = refl

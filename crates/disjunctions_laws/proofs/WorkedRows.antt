-- The construction on small problems, and its count.
use Rattle.std.proofs.Common.{◌≡◌, List, [], ◌∷◌, ◌++◌, None, codes, refl}
use Rattle.up_text.specs.declared.name.Name.{Name}
use Rattle.up_text.specs.Names.{reserved_words}
use Rattle.up_text.specs.Fresh.{digits, fresh_name}
use Rattle.up_tree.specs.declared.formula.Formula.{Formula, Or, Atom}
use Rattle.up_tree.specs.declared.formula.Formula.TheBlock.{hidden-the_row-Formula-0, hidden-the_row-Formula-1}
use Rattle.up_tree.specs.declared.action.Action.{Action}
use Rattle.up_tree.specs.declared.action.Row.{Row}
use Rattle.up_tree.specs.declared.action.Effect.{Effect}
use Rattle.up_tree.specs.declared.action.Effect.TheVariants as effect
use Rattle.up_tree.specs.declared.problem.Parts.{Parts}
use Rattle.up_tree.specs.declared.problem.Predicate.{Predicate}
use Rattle.up_tree.specs.Normal.{nnf, clauses, clause_count}
use Rattle.up_tree.specs.Simplify.{true_formula, simplified}
use Rattle.up_tree.specs.Sizes.{formula_size, members_size}
use Rattle.up_compiler.specs.declared.back.Entry.{Entry}
use Rattle.up_compiler.specs.declared.back.Target.TheVariants.{Keep, Drop}
use Rattle.up_compiler.specs.Identity.{arguments}
use Rattle.disjunctions_laws.specs.Disjunctions.{disjunctions, disjunctions_count}

abbrev atom : Name → Formula
atom name = Atom name []

abbrev row : Effect → Row
row e = record { vars = []; when = true_formula; effect = e }

abbrev adding : Name → Row
adding name = row (effect.Add name [])

abbrev deleting : Name → Row
deleting name = row (effect.Delete name [])

abbrev bare : Name → Formula → List Row → Action
bare name pre rows = record { name = name; params = []; pre = pre; rows = rows }

abbrev predicate : Name → Predicate
predicate name = record { name = name; args = [] }

abbrev of : List Predicate → List Action → Formula → Parts
of more actions goal = record {
  domain = codes "s";
  name = codes "s1";
  types = [];
  constants = 0;
  objects = [];
  predicates = predicate (codes "p") ∷ predicate (codes "q") ∷ predicate (codes "r") ∷ more;
  functions = [];
  atoms = [];
  numbers = [];
  values = [];
  actions = actions;
  goal = goal;
  metric = None;
  constraints = [];
}

abbrev a : Action
a = bare (codes "a") (atom (codes "p")) (adding (codes "q") ∷ deleting (codes "p") ∷ [])

-- ---- a goal of two clauses

two : Parts
two = of [] (a ∷ []) (Or (atom (codes "p") ∷ atom (codes "r") ∷ []))

two_actions : (disjunctions two).parts.actions
    ≡ bare (codes "a") (atom (codes "p")) (adding (codes "q") ∷ deleting (codes "p") ∷ deleting (codes "goal-reached") ∷ [])
    ∷ bare (codes "reach-goal") (atom (codes "p")) (adding (codes "goal-reached") ∷ [])
    ∷ bare (codes "reach-goal-1") (atom (codes "r")) (adding (codes "goal-reached") ∷ []) ∷ []
unfolding two simplified nnf clauses fresh_name digits reserved_words hidden-the_row-Formula-0 hidden-the_row-Formula-1 denote.Hole.Carrier.hidden
two_actions = refl

two_goal : (disjunctions two).parts.goal ≡ atom (codes "goal-reached")
unfolding two simplified nnf clauses fresh_name digits reserved_words hidden-the_row-Formula-0 hidden-the_row-Formula-1 denote.Hole.Carrier.hidden
two_goal = refl

abbrev left_out : Name → Entry
left_out name = record { action = name; arity = 0; target = Drop }

two_entries : (disjunctions two).entries ≡ record { action = codes "a"; arity = 0; target = Keep (codes "a") [] } ∷ left_out (codes "reach-goal") ∷ left_out (codes "reach-goal-1") ∷ []
unfolding two simplified nnf clauses fresh_name digits reserved_words arguments hidden-the_row-Formula-0 hidden-the_row-Formula-1 denote.Hole.Carrier.hidden
two_entries = refl

-- 8 times 1 for `a`, and 3 times 2 for the goal
two_count : disjunctions_count two ≡ 14
unfolding two clause_count formula_size members_size hidden-the_row-Formula-0 hidden-the_row-Formula-1 denote.Hole.Carrier.hidden
two_count = refl

-- ---- the names of the fact and of a fake action are taken

taken : Parts
taken =
    of (predicate (codes "goal-reached") ∷ []) (bare (codes "reach-goal") true_formula (adding (codes "goal-reached") ∷ []) ∷ [])
    (Or (atom (codes "p") ∷ atom (codes "r") ∷ []))

taken_actions : (disjunctions taken).parts.actions
    ≡ bare (codes "reach-goal") true_formula (adding (codes "goal-reached") ∷ deleting (codes "goal-reached-1") ∷ [])
    ∷ bare (codes "reach-goal-1") (atom (codes "p")) (adding (codes "goal-reached-1") ∷ [])
    ∷ bare (codes "reach-goal-2") (atom (codes "r")) (adding (codes "goal-reached-1") ∷ []) ∷ []
unfolding taken simplified nnf clauses fresh_name digits reserved_words hidden-the_row-Formula-0 hidden-the_row-Formula-1 denote.Hole.Carrier.hidden
taken_actions = refl

-- ---- a goal that is `false` has no clause: no fake action, and nothing adds the fact

nowhere : Parts
nowhere = of [] (a ∷ []) (Or [])

nowhere_actions : (disjunctions nowhere).parts.actions ≡ bare (codes "a") (atom (codes "p")) (adding (codes "q") ∷ deleting (codes "p") ∷ deleting (codes "goal-reached") ∷ []) ∷ []
unfolding nowhere simplified nnf clauses fresh_name digits reserved_words hidden-the_row-Formula-0 hidden-the_row-Formula-1 denote.Hole.Carrier.hidden
nowhere_actions = refl

-- ---- one clause of the goal is the goal

alone : Parts
alone = of [] (bare (codes "b") (Or (atom (codes "p") ∷ atom (codes "q") ∷ [])) (adding (codes "r") ∷ []) ∷ []) (Or (atom (codes "r") ∷ []))

alone_actions : (disjunctions alone).parts.actions
    ≡ bare (codes "b-1") (atom (codes "p")) (adding (codes "r") ∷ []) ∷ bare (codes "b-2") (atom (codes "q")) (adding (codes "r") ∷ []) ∷ []
unfolding alone simplified nnf clauses fresh_name digits reserved_words hidden-the_row-Formula-0 hidden-the_row-Formula-1 denote.Hole.Carrier.hidden
alone_actions = refl

alone_goal : (disjunctions alone).parts.goal ≡ atom (codes "r")
unfolding alone simplified nnf clauses hidden-the_row-Formula-0 hidden-the_row-Formula-1 denote.Hole.Carrier.hidden
alone_goal = refl

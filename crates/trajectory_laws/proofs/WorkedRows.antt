-- The construction on small problems: each kind of constraint, a bound variable that is a parameter, an empty type.
use Rattle.std.proofs.Common.{◌≡◌, List, [], ◌∷◌, None, codes, refl}
use Rattle.up_text.specs.declared.name.Name.{Name}
use Rattle.up_text.specs.Names.{reserved_words}
use Rattle.up_text.specs.Fresh.{digits, fresh_name}
use Rattle.up_tree.specs.declared.term.Term.{Var}
use Rattle.up_tree.specs.declared.term.Typed.{Typed}
use Rattle.up_tree.specs.declared.formula.Formula.{Formula, And, Or, Atom}
use Rattle.up_tree.specs.declared.formula.Formula.TheBlock.{hidden-the_row-Formula-0}
use Rattle.up_tree.specs.declared.action.Action.{Action}
use Rattle.up_tree.specs.declared.action.Row.{Row}
use Rattle.up_tree.specs.declared.action.Effect.TheVariants as effect
use Rattle.up_tree.specs.declared.problem.Constraint.{Constraint}
use Rattle.up_tree.specs.declared.problem.Parts.{Parts}
use Rattle.up_tree.specs.declared.problem.Predicate.{Predicate}
use Rattle.up_tree.specs.declared.problem.Rule.TheVariants.{Always, Sometime, AtMostOnce, SometimeAfter, SometimeBefore}
use Rattle.up_tree.specs.Nodes.{not, exists}
use Rattle.up_tree.specs.Simplify.{true_formula as yes_always, simplified}
use Rattle.up_tree.specs.Sizes.{term_size, formula_size, members_size}
use Rattle.semantics_laws.specs.Replaced.{replaced, replaced_term}
use Rattle.expansion_laws.specs.Renamed.{renamed, renamed_term}
use Rattle.trajectory_laws.specs.Variables.{bound}
use Rattle.trajectory_laws.specs.Trajectory.{trajectory, trajectory_count}

abbrev door : Name
door = codes "door"

abbrev atom : Name → Formula
atom name = Atom name []

abbrev predicates : List Predicate
predicates =
    record { name = codes "p"; args = [] } ∷ record { name = codes "q"; args = [] } ∷ record { name = codes "r"; args = [] } ∷ record { name = codes "open"; args = door ∷ [] } ∷ []

abbrev adding : Name → Row
adding name = record { vars = []; when = yes_always; effect = effect.Add name [] }

abbrev deleting : Name → Row
deleting name = record { vars = []; when = yes_always; effect = effect.Delete name [] }

abbrev on : Formula → Name → Row
on f name = record { vars = []; when = f; effect = effect.Add name [] }

abbrev off : Formula → Name → Row
off f name = record { vars = []; when = f; effect = effect.Delete name [] }

abbrev a : Action
a = record { name = codes "a"; params = []; pre = atom (codes "p"); rows = adding (codes "q") ∷ deleting (codes "p") ∷ [] }

abbrev e : Action
e = record { name = codes "e"; params = []; pre = yes_always; rows = adding (codes "r") ∷ [] }

abbrev of : List Action → List Constraint → Parts
of actions constraints = record {
  domain = codes "s";
  name = codes "s1";
  types = record { name = door; of = codes "object" } ∷ [];
  constants = 0;
  objects = [];
  predicates = predicates;
  functions = [];
  atoms = record { predicate = codes "p"; args = [] } ∷ [];
  numbers = [];
  values = [];
  actions = actions;
  goal = atom (codes "q");
  metric = None;
  constraints = constraints;
}

abbrev q : Formula
q = atom (codes "q")

abbrev r : Formula
r = atom (codes "r")

-- ---- sometime-before

before : Parts
before = of (a ∷ e ∷ []) (record { vars = []; rule = SometimeBefore q r } ∷ [])

abbrev was : Formula
was = atom (codes "was")

before_actions : (trajectory before).parts.actions
    ≡ record {
      name = codes "a";
      params = [];
      pre = And (atom (codes "p") ∷ Or (not q ∷ was ∷ []) ∷ []);
      rows = adding (codes "q") ∷ deleting (codes "p") ∷ on r (codes "was") ∷ [];
    }
    ∷ record { name = codes "e"; params = []; pre = Or (not q ∷ was ∷ []); rows = adding (codes "r") ∷ on r (codes "was") ∷ [] }
    ∷ []
unfolding before simplified fresh_name reserved_words bound renamed replaced hidden-the_row-Formula-0 denote.Hole.Carrier.hidden
before_actions = refl

before_goal : (trajectory before).parts.goal ≡ And (q ∷ Or (not q ∷ was ∷ []) ∷ [])
unfolding before simplified fresh_name reserved_words bound renamed replaced hidden-the_row-Formula-0 denote.Hole.Carrier.hidden
before_goal = refl

-- 13 for the actions, 1 for the goal, and 3 times 2 times 3
before_count : trajectory_count before ≡ 32
unfolding before term_size formula_size members_size replaced hidden-the_row-Formula-0 denote.Hole.Carrier.hidden
before_count = refl

-- ---- sometime-after

after : Parts
after = of (e ∷ []) (record { vars = []; rule = SometimeAfter q r } ∷ [])

after_actions : (trajectory after).parts.actions
    ≡ record { name = codes "e"; params = []; pre = yes_always; rows = adding (codes "r") ∷ off r (codes "due") ∷ on (And (q ∷ not r ∷ [])) (codes "due") ∷ [] } ∷ []
unfolding after simplified fresh_name reserved_words bound renamed replaced hidden-the_row-Formula-0 denote.Hole.Carrier.hidden
after_actions = refl

after_goal : (trajectory after).parts.goal ≡ And (q ∷ Or (r ∷ And (not q ∷ not (atom (codes "due")) ∷ []) ∷ []) ∷ [])
unfolding after simplified fresh_name reserved_words bound renamed replaced hidden-the_row-Formula-0 denote.Hole.Carrier.hidden
after_goal = refl

-- ---- at-most-once twice: the names of the second differ

once : Parts
once = of (e ∷ []) (record { vars = []; rule = AtMostOnce q } ∷ record { vars = []; rule = Sometime r } ∷ [])

once_actions : (trajectory once).parts.actions
    ≡ record {
      name = codes "e";
      params = [];
      pre = not (And (q ∷ atom (codes "gone") ∷ []));
      rows = adding (codes "r") ∷ on q (codes "seen") ∷ on (And (atom (codes "seen") ∷ not q ∷ [])) (codes "gone") ∷ on r (codes "had") ∷ [];
    }
    ∷ []
unfolding once simplified fresh_name reserved_words bound renamed replaced hidden-the_row-Formula-0 denote.Hole.Carrier.hidden
once_actions = refl

once_goal : (trajectory once).parts.goal ≡ And (q ∷ not (And (q ∷ atom (codes "gone") ∷ [])) ∷ Or (atom (codes "had") ∷ r ∷ []) ∷ [])
unfolding once simplified fresh_name reserved_words bound renamed replaced hidden-the_row-Formula-0 denote.Hole.Carrier.hidden
once_goal = refl

-- ---- a bound variable that is a parameter takes another name in the action, and none in the goal

abbrev x : Typed
x = record { name = codes "x"; of = door }

abbrev other_x : Typed
other_x = record { name = codes "x-1"; of = door }

bound_twice : Parts
bound_twice =
    of (record { name = codes "b"; params = x ∷ []; pre = q; rows = [] } ∷ [])
    (record { vars = []; rule = Always (exists (x ∷ []) (Atom (codes "open") (Var (codes "x") ∷ []))) } ∷ [])

bound_actions : (trajectory bound_twice).parts.actions
    ≡ record { name = codes "b"; params = x ∷ []; pre = And (q ∷ exists (other_x ∷ []) (Atom (codes "open") (Var (codes "x-1") ∷ [])) ∷ []); rows = [] } ∷ []
unfolding bound_twice simplified fresh_name digits reserved_words bound renamed renamed_term replaced replaced_term hidden-the_row-Formula-0 denote.Hole.Carrier.hidden
bound_actions = refl

bound_goal : (trajectory bound_twice).parts.goal ≡ And (q ∷ exists (x ∷ []) (Atom (codes "open") (Var (codes "x") ∷ [])) ∷ [])
unfolding bound_twice simplified fresh_name digits reserved_words bound renamed renamed_term replaced replaced_term hidden-the_row-Formula-0 denote.Hole.Carrier.hidden
bound_goal = refl

-- ---- a constraint over no doors asks nothing

no_doors : Parts
no_doors = of (a ∷ []) (record { vars = x ∷ []; rule = Always (Atom (codes "open") (Var (codes "x") ∷ [])) } ∷ [])

no_doors_actions : (trajectory no_doors).parts.actions ≡ a ∷ []
unfolding no_doors simplified fresh_name reserved_words bound renamed replaced hidden-the_row-Formula-0 denote.Hole.Carrier.hidden
no_doors_actions = refl

no_doors_goal : (trajectory no_doors).parts.goal ≡ q
unfolding no_doors simplified fresh_name reserved_words bound renamed replaced hidden-the_row-Formula-0 denote.Hole.Carrier.hidden
no_doors_goal = refl

-- The end of a construction: actions and goal are simplified, and a goal that can't be reached gives way to an atom.
use Rattle.std.specs.Prelude.{if◌then◌else◌, List, [], ◌∷◌, ◌++◌, map, filter_map, codes, Option, option_map}
use Rattle.up_text.specs.declared.name.Name.{Name}
use Rattle.up_text.specs.Fresh.{fresh_name}
use Rattle.up_tree.specs.declared.formula.Formula.{Formula, Atom}
use Rattle.up_tree.specs.declared.action.Action.{Action}
use Rattle.up_tree.specs.declared.problem.Parts.{Parts}
use Rattle.up_tree.specs.declared.problem.Predicate.{Predicate}
use Rattle.up_tree.specs.Objects.{World, world}
use Rattle.up_tree.specs.Simplify.{Oracle, is_false_formula, simplified, simple_action}
use Rattle.step_laws.specs.Naming.{Stands, entry_of, Made}
use Rattle.up_text.specs.Lists.{Member}
use Rattle.compiling_laws.specs.Forms.{symbols}

-- a goal, and the predicates that it needs besides
pub record Goal : Type 0 where
  pub formula : Formula
  pub predicates : List Predicate

-- a goal that is `false` is the atom of a fresh predicate without arguments, which nothing adds
abbrev pub goal_rule : List Name → Formula → Goal
goal_rule used goal =
    if is_false_formula goal
    then (let name = fresh_name (codes "never") used in record { formula = Atom name []; predicates = record { name = name; args = [] } ∷ [] })
    else record { formula = goal; predicates = [] }

-- the new action simplified, or none where it can never be taken
abbrev pub simple_pair : World → Oracle → Stands → Option Stands
simple_pair w oracle pair = option_map (λ new. record { new = new; old = pair.old }) (simple_action w oracle pair.new)

-- Of a problem whose actions are the new ones of these pairs: each simplified, the goal by the goal rule against the
-- used names, and an entry for each action that is left.
abbrev pub finished_by : List Name → Oracle → Parts → List Stands → Made
finished_by used oracle p pairs =
    let left = filter_map (simple_pair (world p) oracle) pairs in
    let goal = goal_rule used (simplified (world p) oracle p.goal) in
    record {
      parts = record p { predicates = p.predicates ++ goal.predicates; actions = map (λ pair. pair.new) left; goal = goal.formula };
      entries = map entry_of left;
    }

-- each action stands for itself
abbrev pub themselves : List Action → List Stands
themselves actions = map (λ a. record { new = a; old = a }) actions

abbrev pub finished : List Name → Oracle → Parts → Made
finished used oracle p = finished_by used oracle p (themselves p.actions)

-- all predicates and functions of the problem are among the names
abbrev pub AreUsed : Parts → List Name → Type 0
AreUsed p used = (name : Name) → Member name (symbols p) → Member name used

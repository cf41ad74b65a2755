-- The construction that takes disjunctions away, and its count.
use Rattle.std.specs.Prelude.{false, not as flip, ℕ, ◌+◌, ◌*◌, List, [], ◌∷◌, ◌++◌, map, filter, length, sum_by, codes}
use Rattle.up_text.specs.declared.name.Name.{Name}
use Rattle.up_text.specs.Fresh.{fresh_name}
use Rattle.up_tree.specs.declared.formula.Formula.{Formula, And, Atom}
use Rattle.up_tree.specs.declared.action.Action.{Action}
use Rattle.up_tree.specs.declared.action.Effect.{Effect}
use Rattle.up_tree.specs.declared.action.Effect.TheVariants.{Add, Delete}
use Rattle.up_tree.specs.declared.action.Row.{Row}
use Rattle.up_tree.specs.declared.problem.Parts.{Parts}
use Rattle.up_tree.specs.Objects.{World, world}
use Rattle.up_tree.specs.Normal.{nnf, clauses, clause_count}
use Rattle.up_tree.specs.Simplify.{simplified, knows_nothing, true_formula, is_false_formula}
use Rattle.up_tree.specs.Sizes.{action_size, formula_size}
use Rattle.up_compiler.specs.declared.back.Entry.{Entry}
use Rattle.up_compiler.specs.declared.back.Target.TheVariants.{Drop}
use Rattle.step_laws.specs.Naming.{Group, Made, Stands, entry_of, new_names, with_names, made_of}
use Rattle.compiling_laws.specs.Forms.{symbols}

-- ---- clauses

-- the literals of a clause by `and`, simplified
abbrev pub clause_formula : World → List Formula → Formula
clause_formula w clause = simplified w knows_nothing (And clause)

-- those of the clauses of Simp(NNF(f)), but for those that are `false`
abbrev pub clause_formulas : World → Formula → List Formula
clause_formulas w f = filter (λ g. flip (is_false_formula g)) (map (clause_formula w) (clauses (simplified w knows_nothing (nnf f))))

-- the action with another precondition
abbrev pub with_pre : Action → Formula → Action
with_pre a pre = record { name = a.name; params = a.params; pre = pre; rows = a.rows }

-- a new action for each clause of an action's precondition
abbrev pub clause_groups : Parts → List Group
clause_groups p = map (λ a. record { old = a; news = map (with_pre a) (clause_formulas (world p) a.pre) }) p.actions

-- each by its name, with the action that it stands for
abbrev pub clause_pairs : Parts → List Stands
clause_pairs p = with_names (map (λ a. a.name) p.actions) (clause_groups p)

abbrev pub goal_clauses : Parts → List Formula
goal_clauses p = clause_formulas (world p) p.goal

-- ---- the goal fact

-- a row without variables and condition
abbrev pub plain_row : Effect → Row
plain_row effect = record { vars = []; when = true_formula; effect = effect }

-- with a last row that deletes the fact
abbrev pub with_delete : Name → Action → Action
with_delete fact a = record { name = a.name; params = a.params; pre = a.pre; rows = a.rows ++ plain_row (Delete fact []) ∷ [] }

-- without parameters, with the clause as precondition and one row that adds the fact
abbrev pub fake_action : Name → Name → Formula → Action
fake_action fact name clause = record { name = name; params = []; pre = clause; rows = plain_row (Add fact []) ∷ [] }

-- one for each clause, by a name that is fresh against these names and those already made
abbrev pub fake_actions : List Name → Name → List Formula → List Action
fake_actions used fact [] = []
fake_actions used fact (clause ∷ more) =
    let name = fresh_name (codes "reach-goal") used in fake_action fact name clause ∷ fake_actions (name ∷ used) fact more

-- leave the step out
abbrev pub drop_entry : Action → Entry
drop_entry a = record { action = a.name; arity = length a.params; target = Drop }

abbrev pub goal_fact : Parts → Name
goal_fact p = fresh_name (codes "goal-reached") (symbols p)

-- the names of all actions of the input and of those made so far
abbrev pub action_names : Parts → List Stands → List Name
action_names p pairs = new_names pairs ++ map (λ a. a.name) p.actions

abbrev pub fakes : Parts → List Stands → List Formula → List Action
fakes p pairs clauses = fake_actions (action_names p pairs) (goal_fact p) clauses

-- with the goal fact as the goal: each action deletes it, and fake actions add it
abbrev pub with_fakes : Parts → List Stands → List Formula → Made
with_fakes p pairs clauses = record {
  parts = record p {
    constants = length p.objects;
    predicates = p.predicates ++ record { name = goal_fact p; args = [] } ∷ [];
    actions = map (λ pair. with_delete (goal_fact p) pair.new) pairs ++ fakes p pairs clauses;
    goal = Atom (goal_fact p) [];
  };
  entries = map entry_of pairs ++ map drop_entry (fakes p pairs clauses);
}

-- where exactly one clause of the goal is left it is the goal, and otherwise the goal fact is
abbrev pub with_goal : Parts → List Stands → List Formula → Made
with_goal p pairs (goal ∷ []) = made_of p pairs goal
with_goal p pairs clauses = with_fakes p pairs clauses

abbrev pub disjunctions : Parts → Made
disjunctions p = with_goal p (clause_pairs p) (goal_clauses p)

-- the sum of size(a) times cl(pre), plus size(goal) times cl(goal)
abbrev pub disjunctions_count : Parts → ℕ
disjunctions_count p =
    sum_by (λ a. action_size a * clause_count false a.pre) p.actions + formula_size p.goal * clause_count false p.goal

-- The construction that takes negations away, and its count.
use Rattle.std.specs.Prelude.{Bool, false, ◌&&◌, ◌||◌, not as flip, if◌then◌else◌, ℕ, ◌+◌, ◌*◌, ◌++◌, map, filter, filter_map, length, sum_by, Option, Some, None, ◌≡◌, [], option_map, List}
use Rattle.std.specs.List.{list_any}
use Rattle.up_text.specs.declared.name.Name.{Name}
use Rattle.up_text.specs.Names.{same_name}
use Rattle.up_tree.specs.declared.formula.Formula.{Formula, And', Or', Atom, Equal, Compare, Row_of-Formula, end_of-Formula, more_of-Formula}
use Rattle.up_tree.specs.declared.action.Action.{Action}
use Rattle.up_tree.specs.declared.problem.Parts.{Parts}
use Rattle.up_tree.specs.Nodes.{not, imply, exists, forall}
use Rattle.up_tree.specs.Normal.{nnf}
use Rattle.std.specs.FinSet as set
use Rattle.up_text.specs.Lists.{Every}
use Rattle.up_tree.specs.declared.problem.Predicate.{Predicate}
use Rattle.up_tree.specs.State.{State, ground}
use Rattle.up_tree.specs.StateOf.{IsStateOf}
use Rattle.up_tree.specs.Objects.{World, world}
use Rattle.up_tree.specs.Simplify.{knows_nothing, simplified, is_false_formula}
use Rattle.up_compiler.specs.Identity.{identity_entry}
use Rattle.up_tree.specs.Sizes.{action_size, formula_size}
use Rattle.up_kind.specs.Carried.{is_equal, type_tuples}
use Rattle.step_laws.specs.Naming.{Made, Stands}
use Rattle.compiling_laws.specs.Forms.{symbols}
use Rattle.finishing_laws.specs.Finished.{goal_rule}
use Rattle.negations_laws.specs.Twins.{main_conditions, words, positive_action, twinned}
use Rattle.negations_laws.specs.Related.{AreTwinned}

-- ---- the construction

abbrev pub normal_action : Action → Action
normal_action a = record { name = a.name; params = a.params; pre = nnf a.pre; rows = a.rows }

-- each precondition and the goal in normal form
abbrev pub normal_form : Parts → Parts
normal_form p = record p { actions = map normal_action p.actions; goal = nnf p.goal }

-- an action whose precondition becomes Simp(NNF(pre)), or none where that is `false`
abbrev pub simple_normal : World → Action → Option Action
simple_normal w a =
    let pre = simplified w knows_nothing (nnf a.pre) in
    if is_false_formula pre then None else Some (record { name = a.name; params = a.params; pre = pre; rows = a.rows })

-- all actions so, the goal Simp(NNF(goal)) with the goal rule
abbrev pub simple_form : Parts → Parts
simple_form p =
    let goal = goal_rule (symbols p) (simplified (world p) knows_nothing (nnf p.goal)) in
    record p { predicates = p.predicates ++ goal.predicates; actions = filter_map (simple_normal (world p)) p.actions; goal = goal.formula }

-- with twins and `differ` in the place of what stands negated then; each action that is left stands for the one of its name
abbrev pub negations : Parts → Made
negations p = record { parts = twinned (simple_form p); entries = map identity_entry (simple_form p).actions }

-- each action that is left with the one that it stands for
abbrev pub negation_pairs : Parts → List Stands
negation_pairs p =
    filter_map (λ a. option_map (λ b. record { new = positive_action (words (simple_form p)) b; old = a }) (simple_normal (world p) a)) p.actions

-- the predicate that the goal rule makes, if it makes one
abbrev pub goal_predicates : Parts → List Predicate
goal_predicates p = (goal_rule (symbols p) (simplified (world p) knows_nothing (nnf p.goal))).predicates

-- ---- the relation

pub record AreRelated (p : Parts) (s t : State) : Type 0 where
  -- all atoms are typed, and so are numbers and values
  pub typed : IsStateOf p s
  -- the same old atoms, numbers and values; a twin for a typed tuple exactly where the old atom isn't; `differ` exactly for different objects
  pub twinned : AreTwinned (simple_form p) s t
  -- `never` is false
  pub unreached : Every (λ d. set.contains t.atoms (ground d.name []) ≡ false) (goal_predicates p)

-- ---- the count

-- the test holds of an atom or equality under an odd number of negations, the flag saying whether the formula stands under one
unfoldable mutual
  pub negated : (Formula → Bool) → Bool → Formula → Bool
  negated test odd (And' n fs) = some_negated test odd fs
  negated test odd (Or' n fs) = some_negated test odd fs
  negated test odd (not f) = negated test (flip odd) f
  negated test odd (imply f g) = negated test (flip odd) f || negated test odd g
  negated test odd (exists vars f) = negated test odd f
  negated test odd (forall vars f) = negated test odd f
  negated test odd (Atom name ts) = odd && test (Atom name ts)
  negated test odd (Equal t u) = odd && test (Equal t u)
  negated test odd (Compare r a b) = false

  pub some_negated : (Formula → Bool) → Bool → {n : _} → Row_of-Formula n → Bool
  some_negated test odd end_of-Formula = false
  some_negated test odd (more_of-Formula f fs) = negated test odd f || some_negated test odd fs

abbrev pub is_atom_of : Name → Formula → Bool
is_atom_of name (Atom other ts) = same_name other name
is_atom_of name f = false

-- in a precondition or the goal
abbrev pub stands_negated : Parts → (Formula → Bool) → Bool
stands_negated p test = list_any (negated test false) (main_conditions p)

-- the size of the goal, twice that of the actions, the typed tuples of each negated predicate, and the pairs of objects where an equality is negated
abbrev pub negations_count : Parts → ℕ
negations_count p =
    formula_size p.goal + 2 * sum_by action_size p.actions
    + sum_by (λ d. length (type_tuples p d.args)) (filter (λ d. stands_negated p (is_atom_of d.name)) p.predicates)
    + (if stands_negated p is_equal then length p.objects * length p.objects else 0)

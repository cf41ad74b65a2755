-- The construction that puts the instances of each action in its place, and its count.
use Rattle.std.specs.Prelude.{Bool, false, ◌&&◌, not as flip, if◌then◌else◌, ℕ, ◌+◌, ◌*◌, ◌/◌, List, [], ◌∷◌, ◌++◌, map, filter, length, sum_by, Some, None, is_some}
use Rattle.std.specs.List.{list_any}
use Rattle.std.specs.Cmp.Lexicographic.{pointwise}
use Rattle.up_text.specs.declared.name.Name.{Name}
use Rattle.up_text.specs.Names.{same_name}
use Rattle.up_text.specs.Fresh.{fresh_name}
use Rattle.up_tree.specs.declared.term.Typed.{Typed}
use Rattle.up_tree.specs.declared.formula.Formula.{Formula, Atom}
use Rattle.up_tree.specs.declared.action.Action.{Action}
use Rattle.up_tree.specs.declared.action.Row.{Row}
use Rattle.up_tree.specs.declared.action.Effect.{Effect}
use Rattle.up_tree.specs.declared.action.Effect.TheVariants as effect
use Rattle.up_tree.specs.declared.problem.Fact.{Fact}
use Rattle.up_tree.specs.declared.problem.Parts.{Parts}
use Rattle.up_tree.specs.Objects.{world, tuples}
use Rattle.up_tree.specs.Simplify.{Oracle, is_empty, is_true_formula, simple_action}
use Rattle.up_tree.specs.Sizes.{action_size, cut}
use Rattle.up_compiler.specs.declared.back.Entry.{Entry}
use Rattle.up_compiler.specs.declared.back.Item.TheVariants.{Object}
use Rattle.up_compiler.specs.declared.back.Target.TheVariants.{Keep}
use Rattle.expansion_laws.specs.Substituted.{instance}
use Rattle.step_laws.specs.Naming.{Made}
use Rattle.compiling_laws.specs.Same.{same_formula}
use Rattle.compiling_laws.specs.Forms.{symbols}
use Rattle.finishing_laws.specs.Finished.{finished}

-- ---- the oracle

-- the effect adds or deletes atoms of the predicate
abbrev pub changes : Name → Effect → Bool
changes name (effect.Add p ts) = same_name p name
changes name (effect.Delete p ts) = same_name p name
changes name x = false

-- some row of some action does
abbrev pub is_changed : Parts → Name → Bool
is_changed p name = list_any (λ a. list_any (λ r. changes name r.effect) a.rows) p.actions

-- one predicate of the same objects
abbrev pub same_fact : Fact → Fact → Bool
same_fact a b = same_name a.predicate b.predicate && pointwise same_name a.args b.args

abbrev pub is_initial : Parts → Fact → Bool
is_initial p fact = list_any (same_fact fact) p.atoms

-- it answers exactly for predicates that no row of any action adds or deletes, by the initial atoms
abbrev pub static : Parts → Oracle
static p fact = if is_changed p fact.predicate then None else Some (is_initial p fact)

-- ---- instances

-- a tuple of an input action's parameters, and the name that the instance has
pub record Grounded : Type 0 where
  pub name : Name
  pub old : Action
  pub args : List Name

-- an action without parameters itself, and else its instance without parameters
abbrev pub instance_by : List Typed → Name → Action → List Name → Action
instance_by [] name a args = a
instance_by (v ∷ vars) name a args = instance name a args

abbrev pub ground_action : Grounded → Action
ground_action g = instance_by g.old.params g.name g.old g.args

-- SimpAction doesn't drop the instance
abbrev pub is_kept : Parts → Action → List Name → Bool
is_kept p a args = is_some (simple_action (world p) (static p) (instance_by a.params a.name a args))

abbrev pub kept_tuples : Parts → Action → List (List Name)
kept_tuples p a = filter (is_kept p a) (tuples (world p) a.params)

-- the name and the objects' names, joined by `-`
abbrev pub joined : Name → List Name → Name
joined name [] = name
joined name (o ∷ objects) = joined (name ++ 45 ∷ o) objects

-- each by a name that is fresh with its base, against these names and those already made
abbrev pub each_named : List Name → Action → List (List Name) → List Grounded
each_named used a [] = []
each_named used a (args ∷ more) =
    let name = fresh_name (joined a.name args) used in record { name = name; old = a; args = args } ∷ each_named (name ∷ used) a more

-- an action without parameters keeps its name
abbrev pub named_by : List Typed → List Name → Action → List (List Name) → List Grounded
named_by [] used a kept = map (λ args. record { name = a.name; old = a; args = args }) kept
named_by (v ∷ vars) used a kept = each_named used a kept

abbrev pub made_names : List Grounded → List Name
made_names gs = map (λ g. g.name) gs

-- action by action, the kept instances in order
abbrev pub all_grounded : Parts → List Name → List Action → List Grounded
all_grounded p used [] = []
all_grounded p used (a ∷ actions) =
    let gs = named_by a.params used a (kept_tuples p a) in gs ++ all_grounded p (made_names gs ++ used) actions

abbrev pub grounded : Parts → List Grounded
grounded p = all_grounded p (map (λ a. a.name) p.actions) p.actions

-- keep the input action with the tuple's objects
abbrev pub entry_of_instance : Grounded → Entry
entry_of_instance g = record { action = g.name; arity = 0; target = Keep g.old.name (map Object g.args) }

-- the kept instances before they are simplified; they may name any object
abbrev pub instantiated : Parts → Made
instantiated p = record {
  parts = record p { constants = length p.objects; actions = map ground_action (grounded p) };
  entries = map entry_of_instance (grounded p);
}

-- ---- delete rows that an add row outdoes

-- without variables and with the condition `true`
abbrev pub is_bare : Row → Bool
is_bare r = is_empty r.vars && is_true_formula r.when

-- it adds this atom
abbrev pub adds : Formula → Effect → Bool
adds atom (effect.Add name ts) = same_formula atom (Atom name ts)
adds atom x = false

abbrev pub is_added : List Row → Formula → Bool
is_added rows atom = list_any (λ r. is_bare r && adds atom r.effect) rows

abbrev pub is_outdone : List Row → Effect → Bool
is_outdone rows (effect.Delete name ts) = is_added rows (Atom name ts)
is_outdone rows x = false

-- left out where such an add row has the same atom
abbrev pub is_left_out : List Row → Row → Bool
is_left_out rows r = is_bare r && is_outdone rows r.effect

abbrev pub lighter : Action → Action
lighter a = record { name = a.name; params = a.params; pre = a.pre; rows = filter (λ r. flip (is_left_out a.rows r)) a.rows }

abbrev pub lightened : Parts → Parts
lightened p = record p { actions = map lighter p.actions }

-- ---- the construction

-- SimpAction of each kept instance, the goal by Simp and the goal rule, all by the one oracle; `never` is fresh against
-- all predicates and functions
abbrev pub simple_instances : Parts → Parts
simple_instances p = (finished (symbols p) (static p) (instantiated p).parts).parts

abbrev pub grounder : Parts → Made
grounder p = record { parts = lightened (simple_instances p); entries = map entry_of_instance (grounded p) }

-- ---- the count

-- the sum of the number of typed tuples times size(a), cut off, and then divided by 10 and rounded up
abbrev pub ground_sum : Parts → ℕ
ground_sum p = sum_by (λ a. length (tuples (world p) a.params) * action_size a) p.actions

abbrev pub grounder_count : Parts → ℕ
grounder_count p = (cut (ground_sum p) + 9) / 10

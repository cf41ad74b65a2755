-- The construction on small problems, and its count.
use Rattle.std.proofs.Common.{◌≡◌, List, [], ◌∷◌, None, codes, refl}
use Rattle.up_text.specs.declared.name.Name.{Name}
use Rattle.up_text.specs.Names.{reserved_words}
use Rattle.up_text.specs.Fresh.{fresh_name}
use Rattle.up_tree.specs.declared.term.Term.{Term, Var, Object}
use Rattle.up_tree.specs.declared.term.Typed.{Typed}
use Rattle.up_tree.specs.declared.formula.Formula.{Formula, Or, Atom}
use Rattle.up_tree.specs.declared.formula.Formula.TheBlock.{hidden-the_row-Formula-0, hidden-the_row-Formula-1}
use Rattle.up_tree.specs.declared.action.Action.{Action}
use Rattle.up_tree.specs.declared.action.Row.{Row}
use Rattle.up_tree.specs.declared.action.Effect.{Effect}
use Rattle.up_tree.specs.declared.action.Effect.TheVariants as effect
use Rattle.up_tree.specs.declared.problem.Fact.{Fact}
use Rattle.up_tree.specs.declared.problem.Parts.{Parts}
use Rattle.up_tree.specs.declared.problem.Predicate.{Predicate}
use Rattle.up_tree.specs.Nodes.{not, forall}
use Rattle.up_tree.specs.Simplify.{true_formula, simplified}
use Rattle.up_tree.specs.Sizes.{term_size, formula_size, members_size}
use Rattle.types_laws.specs.Guards.{guarded}
use Rattle.types_laws.specs.Types.{types, types_count}

abbrev door : Name
door = codes "door"

abbrev thing : Name
thing = codes "object"

abbrev typed : Name → Name → Typed
typed name of = record { name = name; of = of }

abbrev atom : Name → Formula
atom name = Atom name []

abbrev of_d : Name → Formula
of_d p = Atom p (Var (codes "d") ∷ [])

abbrev row : Effect → Row
row e = record { vars = []; when = true_formula; effect = e }

abbrev predicate : Name → List Name → Predicate
predicate name args = record { name = name; args = args }

abbrev a : Action
a = record { name = codes "a"; params = []; pre = atom (codes "p"); rows = row (effect.Add (codes "q") []) ∷ row (effect.Delete (codes "p") []) ∷ [] }

abbrev opens : Row
opens = row (effect.Add (codes "open") (Var (codes "d") ∷ []))

abbrev fact : Name → List Name → Fact
fact p args = record { predicate = p; args = args }

abbrev of : List Typed → List Action → Formula → Parts
of objects actions goal = record {
  domain = codes "s";
  name = codes "s1";
  types = typed door thing ∷ [];
  constants = 0;
  objects = objects;
  predicates = predicate (codes "p") [] ∷ predicate (codes "q") [] ∷ predicate (codes "r") [] ∷ predicate (codes "open") (door ∷ []) ∷ [];
  functions = [];
  atoms = fact (codes "p") [] ∷ [];
  numbers = [];
  values = [];
  actions = actions;
  goal = goal;
  metric = None;
  constraints = [];
}

-- ---- no doors

none : Parts
none = of [] (a ∷ []) (atom (codes "q"))

none_predicates : (types none).parts.predicates
    ≡ predicate (codes "p") [] ∷ predicate (codes "q") [] ∷ predicate (codes "r") [] ∷ predicate (codes "open") (thing ∷ []) ∷ predicate (codes "is-door") (thing ∷ []) ∷ []
unfolding none simplified guarded fresh_name reserved_words hidden-the_row-Formula-0 hidden-the_row-Formula-1 denote.Hole.Carrier.hidden
none_predicates = refl

-- twice 8 for the action and 1 for the goal
none_count : types_count none ≡ 18
unfolding none guarded fresh_name reserved_words term_size formula_size members_size hidden-the_row-Formula-0 hidden-the_row-Formula-1 denote.Hole.Carrier.hidden
none_count = refl

-- ---- a parameter of a type, and an object without one

one : Parts
one =
    of (typed (codes "d1") door ∷ typed (codes "k") thing ∷ []) (record { name = codes "o"; params = typed (codes "d") door ∷ []; pre = true_formula; rows = opens ∷ [] } ∷ [])
    (Atom (codes "open") (Object (codes "d1") ∷ []))

one_actions : (types one).parts.actions ≡ record { name = codes "o"; params = typed (codes "d") thing ∷ []; pre = of_d (codes "is-door"); rows = opens ∷ [] } ∷ []
unfolding one simplified guarded fresh_name reserved_words hidden-the_row-Formula-0 hidden-the_row-Formula-1 denote.Hole.Carrier.hidden
one_actions = refl

one_atoms : (types one).parts.atoms ≡ fact (codes "p") [] ∷ fact (codes "is-door") (codes "d1" ∷ []) ∷ []
unfolding one simplified guarded fresh_name reserved_words hidden-the_row-Formula-0 hidden-the_row-Formula-1 denote.Hole.Carrier.hidden
one_atoms = refl

-- ---- a `forall` over a type

each : Parts
each = of [] [] (forall (typed (codes "d") door ∷ []) (of_d (codes "open")))

each_goal : (types each).parts.goal ≡ forall (typed (codes "d") thing ∷ []) (Or (not (of_d (codes "is-door")) ∷ of_d (codes "open") ∷ []))
unfolding each simplified guarded fresh_name reserved_words hidden-the_row-Formula-0 hidden-the_row-Formula-1 denote.Hole.Carrier.hidden
each_goal = refl

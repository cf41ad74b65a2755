-- The construction on small problems: an empty type, an unused variable, one name bound twice.
use Rattle.std.proofs.Common.{◌≡◌, List, [], ◌∷◌, None, codes, refl}
use Rattle.up_text.specs.declared.name.Name.{Name}
use Rattle.up_text.specs.Names.{reserved_words}
use Rattle.up_text.specs.Fresh.{fresh_name}
use Rattle.up_tree.specs.declared.term.Term.{Term, Var, Object}
use Rattle.up_tree.specs.declared.term.Typed.{Typed}
use Rattle.up_tree.specs.declared.formula.Formula.{Formula, And, Or, Atom}
use Rattle.up_tree.specs.declared.formula.Formula.TheBlock.{hidden-the_row-Formula-0}
use Rattle.up_tree.specs.declared.action.Action.{Action}
use Rattle.up_tree.specs.declared.action.Row.{Row}
use Rattle.up_tree.specs.declared.action.Effect.TheVariants as effect
use Rattle.up_tree.specs.declared.problem.Parts.{Parts}
use Rattle.up_tree.specs.declared.problem.Predicate.{Predicate}
use Rattle.up_tree.specs.Nodes.{exists, forall}
use Rattle.up_tree.specs.Simplify.{true_formula, simplified}
use Rattle.up_tree.specs.Sizes.{term_size, formula_size, members_size}
use Rattle.up_compiler.specs.declared.back.Entry.{Entry}
use Rattle.up_compiler.specs.declared.back.Target.TheVariants.{Keep}
use Rattle.up_compiler.specs.Identity.{arguments}
use Rattle.expansion_laws.specs.Expanded.{expanded, all_expanded}
use Rattle.semantics_laws.specs.Replaced.{replaced_term}
use Rattle.quantifiers_laws.specs.Quantifiers.{quantifiers, quantifiers_count}

abbrev door : Name
door = codes "door"

abbrev d : Typed
d = record { name = codes "d"; of = door }

abbrev atom : Name → Formula
atom name = Atom name []

abbrev open_at : Term → Formula
open_at t = Atom (codes "open") (t ∷ [])

abbrev predicates : List Predicate
predicates =
    record { name = codes "p"; args = [] } ∷ record { name = codes "q"; args = [] } ∷ record { name = codes "r"; args = [] } ∷ record { name = codes "open"; args = door ∷ [] } ∷ []

abbrev adding : Name → Row
adding name = record { vars = []; when = true_formula; effect = effect.Add name [] }

abbrev deleting : Name → Row
deleting name = record { vars = []; when = true_formula; effect = effect.Delete name [] }

abbrev a : Action
a = record { name = codes "a"; params = []; pre = atom (codes "p"); rows = adding (codes "q") ∷ deleting (codes "p") ∷ [] }

abbrev b : Action
b = record { name = codes "b"; params = []; pre = forall (d ∷ []) (open_at (Var (codes "d"))); rows = adding (codes "q") ∷ [] }

-- doors, actions and a goal
abbrev of : List Typed → List Action → Formula → Parts
of objects actions goal = record {
  domain = codes "s";
  name = codes "s1";
  types = record { name = door; of = codes "object" } ∷ [];
  constants = 0;
  objects = objects;
  predicates = predicates;
  functions = [];
  atoms = [];
  numbers = [];
  values = [];
  actions = actions;
  goal = goal;
  metric = None;
  constraints = [];
}

keep : Name → Entry
keep name = record { action = name; arity = 0; target = Keep name [] }

-- ---- no doors

-- a `forall` over no doors is true
no_doors : Parts
no_doors = of [] (a ∷ b ∷ []) (atom (codes "q"))

forall_empty : (quantifiers no_doors).parts.actions ≡ a ∷ record { name = codes "b"; params = []; pre = true_formula; rows = adding (codes "q") ∷ [] } ∷ []
unfolding no_doors simplified expanded all_expanded hidden-the_row-Formula-0 denote.Hole.Carrier.hidden
forall_empty = refl

-- 8 for `a`, 5 for `b`, 1 for the goal
forall_empty_count : quantifiers_count no_doors ≡ 14
unfolding no_doors simplified expanded all_expanded term_size formula_size members_size hidden-the_row-Formula-0 denote.Hole.Carrier.hidden
forall_empty_count = refl

-- an `exists` over no doors is false: the goal gives way to `never`, and an action with it as precondition is dropped
no_door_open : Parts
no_door_open = of [] (a ∷ record { name = codes "c"; params = []; pre = exists (d ∷ []) (open_at (Var (codes "d"))); rows = adding (codes "q") ∷ [] } ∷ []) (exists (d ∷ []) (open_at (Var (codes "d"))))

exists_empty_goal : (quantifiers no_door_open).parts.goal ≡ atom (codes "never")
unfolding no_door_open simplified expanded all_expanded fresh_name reserved_words hidden-the_row-Formula-0 denote.Hole.Carrier.hidden
exists_empty_goal = refl

exists_empty_actions : (quantifiers no_door_open).parts.actions ≡ a ∷ []
unfolding no_door_open simplified expanded all_expanded hidden-the_row-Formula-0 denote.Hole.Carrier.hidden
exists_empty_actions = refl

exists_empty_entries : (quantifiers no_door_open).entries ≡ keep (codes "a") ∷ []
unfolding no_door_open simplified expanded all_expanded keep arguments hidden-the_row-Formula-0 denote.Hole.Carrier.hidden
exists_empty_entries = refl

-- ---- an unused variable: one instance for each door

abbrev doors : List Typed
doors = record { name = codes "d1"; of = door } ∷ record { name = codes "d2"; of = door } ∷ []

unused : Parts
unused = of doors [] (exists (d ∷ []) (atom (codes "r")))

unused_goal : (quantifiers unused).parts.goal ≡ Or (atom (codes "r") ∷ atom (codes "r") ∷ [])
unfolding unused simplified expanded all_expanded hidden-the_row-Formula-0 denote.Hole.Carrier.hidden
unused_goal = refl

-- ---- a name bound inside the scope of the same name (no well-formed problem has it): the inner one counts

nested : Parts
nested = of doors [] (exists (d ∷ []) (And (open_at (Var (codes "d")) ∷ forall (d ∷ []) (open_at (Var (codes "d"))) ∷ [])))

nested_goal : (quantifiers nested).parts.goal
    ≡ Or (And (open_at (Object (codes "d1")) ∷ open_at (Object (codes "d1")) ∷ open_at (Object (codes "d2")) ∷ [])
    ∷ And (open_at (Object (codes "d2")) ∷ open_at (Object (codes "d1")) ∷ open_at (Object (codes "d2")) ∷ []) ∷ [])
unfolding nested simplified expanded all_expanded replaced_term hidden-the_row-Formula-0 denote.Hole.Carrier.hidden
nested_goal = refl

-- ---- two doors

two_doors : Parts
two_doors = of doors (a ∷ b ∷ []) (atom (codes "q"))

forall_two : (quantifiers two_doors).parts.actions
    ≡ a ∷ record { name = codes "b"; params = []; pre = And (open_at (Object (codes "d1")) ∷ open_at (Object (codes "d2")) ∷ []); rows = adding (codes "q") ∷ [] } ∷ []
unfolding two_doors simplified expanded all_expanded replaced_term hidden-the_row-Formula-0 denote.Hole.Carrier.hidden
forall_two = refl

forall_two_constants : (quantifiers two_doors).parts.constants ≡ 2
unfolding two_doors
forall_two_constants = refl

-- 8 for `a`, 9 for `b`, 1 for the goal
forall_two_count : quantifiers_count two_doors ≡ 18
unfolding two_doors simplified expanded all_expanded replaced_term term_size formula_size members_size hidden-the_row-Formula-0 denote.Hole.Carrier.hidden
forall_two_count = refl

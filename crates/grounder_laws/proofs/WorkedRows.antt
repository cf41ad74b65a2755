-- The construction on small problems.
use Rattle.std.proofs.Common.{◌≡◌, List, [], ◌∷◌, None, codes, refl}
use Rattle.up_text.specs.declared.name.Name.{Name}
use Rattle.up_text.specs.Names.{reserved_words}
use Rattle.up_text.specs.Fresh.{candidate, fresh_name}
use Rattle.up_tree.specs.declared.term.Term.{Term, Var, Object}
use Rattle.up_tree.specs.declared.term.Typed.{Typed}
use Rattle.up_tree.specs.declared.formula.Formula.{Formula, And, Not, Atom, Equal}
use Rattle.up_tree.specs.declared.formula.Formula.TheBlock.{hidden-the_row-Formula-0, hidden-the_row-Formula-1}
use Rattle.up_tree.specs.declared.action.Action.{Action}
use Rattle.up_tree.specs.declared.action.Row.{Row}
use Rattle.up_tree.specs.declared.action.Effect.{Effect}
use Rattle.up_tree.specs.declared.action.Effect.TheVariants as effect
use Rattle.up_tree.specs.declared.problem.Fact.{Fact}
use Rattle.up_tree.specs.declared.problem.Parts.{Parts}
use Rattle.up_tree.specs.Simplify.{true_formula, simplified}
use Rattle.up_tree.specs.Sizes.{term_size, formula_size, members_size}
use Rattle.up_compiler.specs.declared.back.Item.TheVariants as item
use Rattle.up_compiler.specs.declared.back.Target.TheVariants.{Keep}
use Rattle.semantics_laws.specs.Replaced.{replaced_term, replaced, replaced_members}
use Rattle.compiling_laws.specs.Same.{same_formula, same_term}
use Rattle.grounder_laws.specs.Grounder.{grounder, grounder_count}

abbrev thing : Name
thing = codes "object"

abbrev x : Typed
x = record { name = codes "x"; of = thing }

abbrev y : Typed
y = record { name = codes "y"; of = thing }

abbrev of : Name → Typed
of name = record { name = name; of = thing }

abbrev s_at : Term → Formula
s_at t = Atom (codes "s") (t ∷ [])

abbrev d_at : Term → Formula
d_at t = Atom (codes "d") (t ∷ [])

abbrev always_row : Effect → Row
always_row e = record { vars = []; when = true_formula; effect = e }

abbrev fact : Name → Name → Fact
fact p o = record { predicate = p; args = o ∷ [] }

abbrev a_b : List Typed
a_b = of (codes "a") ∷ of (codes "b") ∷ []

-- with the predicates s and d of one object
abbrev problem : List Typed → List Fact → List Action → Formula → Parts
problem objects atoms actions goal = record {
  domain = codes "g";
  name = codes "g1";
  types = [];
  constants = 0;
  objects = objects;
  predicates = record { name = codes "s"; args = thing ∷ [] } ∷ record { name = codes "d"; args = thing ∷ [] } ∷ [];
  functions = [];
  atoms = atoms;
  numbers = [];
  values = [];
  actions = actions;
  goal = goal;
  metric = None;
  constraints = [];
}

-- ---- `s` is static, `d` isn't

m : Action
m = record { name = codes "m"; params = x ∷ []; pre = And (s_at (Var (codes "x")) ∷ d_at (Var (codes "x")) ∷ []); rows = always_row (effect.Delete (codes "d") (Var (codes "x") ∷ [])) ∷ [] }

static_s : Parts
static_s = problem a_b (fact (codes "s") (codes "a") ∷ fact (codes "d") (codes "a") ∷ fact (codes "d") (codes "b") ∷ []) (m ∷ []) (d_at (Object (codes "b")))

-- one instance is kept, and what is static is gone from its precondition
one_instance : (grounder static_s).parts.actions
    ≡ record { name = codes "m-a"; params = []; pre = d_at (Object (codes "a")); rows = always_row (effect.Delete (codes "d") (Object (codes "a") ∷ [])) ∷ [] } ∷ []
unfolding static_s m simplified replaced replaced_members replaced_term fresh_name reserved_words same_formula same_term hidden-the_row-Formula-0 denote.Hole.Carrier.hidden
one_instance = refl

one_entry : (grounder static_s).entries ≡ record { action = codes "m-a"; arity = 0; target = Keep (codes "m") (item.Object (codes "a") ∷ []) } ∷ []
unfolding static_s m simplified replaced replaced_members replaced_term fresh_name reserved_words same_formula same_term hidden-the_row-Formula-0 denote.Hole.Carrier.hidden
one_entry = refl

same_goal : (grounder static_s).parts.goal ≡ d_at (Object (codes "b"))
unfolding static_s m simplified replaced replaced_members replaced_term fresh_name reserved_words same_formula same_term hidden-the_row-Formula-0 denote.Hole.Carrier.hidden
same_goal = refl

all_constants : (grounder static_s).parts.constants ≡ 2
unfolding static_s
all_constants = refl

-- size 11 and two instances: 22, divided by 10 and rounded up
rounded_up : grounder_count static_s ≡ 3
unfolding static_s m term_size formula_size members_size hidden-the_row-Formula-0 denote.Hole.Carrier.hidden
rounded_up = refl

-- ---- a delete whose atom is added is left out, at equal objects alone

swap : Action
swap = record {
  name = codes "swap";
  params = x ∷ y ∷ [];
  pre = true_formula;
  rows = always_row (effect.Delete (codes "d") (Var (codes "x") ∷ [])) ∷ always_row (effect.Add (codes "d") (Var (codes "y") ∷ [])) ∷ [];
}

abbrev adding : Name → Row
adding o = always_row (effect.Add (codes "d") (Object o ∷ []))

abbrev deleting : Name → Row
deleting o = always_row (effect.Delete (codes "d") (Object o ∷ []))

abbrev bare : Name → List Row → Action
bare name rows = record { name = name; params = []; pre = true_formula; rows = rows }

swaps : Parts
swaps = problem a_b [] (swap ∷ []) (d_at (Object (codes "b")))

left_out : (grounder swaps).parts.actions
    ≡ bare (codes "swap-a-a") (adding (codes "a") ∷ [])
    ∷ bare (codes "swap-a-b") (deleting (codes "a") ∷ adding (codes "b") ∷ [])
    ∷ bare (codes "swap-b-a") (deleting (codes "b") ∷ adding (codes "a") ∷ [])
    ∷ bare (codes "swap-b-b") (adding (codes "b") ∷ []) ∷ []
unfolding swaps swap simplified replaced replaced_members replaced_term fresh_name reserved_words same_formula same_term hidden-the_row-Formula-0 denote.Hole.Carrier.hidden
left_out = refl

-- ---- an equality of objects is decided: of two different ones the guard is `true`, and of one object the instance is dropped

guarded : Action
guarded = record { name = codes "swap"; params = x ∷ y ∷ []; pre = Not (Equal (Var (codes "x")) (Var (codes "y"))); rows = always_row (effect.Add (codes "d") (Var (codes "y") ∷ [])) ∷ [] }

apart : Parts
apart = problem a_b [] (guarded ∷ []) (d_at (Object (codes "b")))

different_ones : (grounder apart).parts.actions ≡ bare (codes "swap-a-b") (adding (codes "b") ∷ []) ∷ bare (codes "swap-b-a") (adding (codes "a") ∷ []) ∷ []
unfolding apart guarded simplified replaced replaced_members replaced_term fresh_name reserved_words same_formula same_term hidden-the_row-Formula-0 hidden-the_row-Formula-1 denote.Hole.Carrier.hidden
different_ones = refl

-- ---- a joined name that is reserved, as `scale-up`, gives way to the next one, `scale-up-1`; an action without parameters keeps its name

scale : Action
scale = record { name = codes "scale"; params = x ∷ []; pre = true_formula; rows = always_row (effect.Add (codes "d") (Var (codes "x") ∷ [])) ∷ [] }

stay : Action
stay = record { name = codes "stay"; params = []; pre = true_formula; rows = [] }

reserved : Parts
reserved = problem (of (codes "up") ∷ []) [] (stay ∷ scale ∷ []) (s_at (Object (codes "up")))

names : (grounder reserved).parts.actions ≡ stay ∷ bare (candidate (codes "scale-up") 1) (adding (codes "up") ∷ []) ∷ []
unfolding reserved stay scale simplified replaced replaced_members replaced_term fresh_name reserved_words same_formula same_term hidden-the_row-Formula-0 denote.Hole.Carrier.hidden
names = refl

-- no row adds `s`, and it isn't initial: the goal is `false`
no_goal : (grounder reserved).parts.goal ≡ Atom (codes "never") []
unfolding reserved stay scale simplified replaced replaced_members replaced_term fresh_name reserved_words same_formula same_term hidden-the_row-Formula-0 denote.Hole.Carrier.hidden
no_goal = refl

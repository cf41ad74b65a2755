-- The construction on small problems, and its count.
use Rattle.std.proofs.Common.{◌≡◌, List, [], ◌∷◌, None, codes, refl}
use Rattle.up_text.specs.declared.name.Name.{Name}
use Rattle.up_text.specs.Names.{reserved_words}
use Rattle.up_text.specs.Fresh.{digits, fresh_name}
use Rattle.up_tree.specs.declared.formula.Formula.{Formula, And, Not, Atom}
use Rattle.up_tree.specs.declared.formula.Formula.TheBlock.{hidden-the_row-Formula-0, hidden-the_row-Formula-1}
use Rattle.up_tree.specs.declared.action.Action.{Action}
use Rattle.up_tree.specs.declared.action.Row.{Row}
use Rattle.up_tree.specs.declared.action.Effect.{Effect}
use Rattle.up_tree.specs.declared.action.Effect.TheVariants as effect
use Rattle.up_tree.specs.declared.problem.Parts.{Parts}
use Rattle.up_tree.specs.declared.problem.Predicate.{Predicate}
use Rattle.up_tree.specs.Simplify.{true_formula, simplified}
use Rattle.up_tree.specs.Sizes.{formula_size, members_size}
use Rattle.up_compiler.specs.declared.back.Entry.{Entry}
use Rattle.up_compiler.specs.declared.back.Target.TheVariants.{Keep}
use Rattle.up_compiler.specs.Identity.{arguments}
use Rattle.compiling_laws.specs.Same.{same_formula}
use Rattle.conditionals_laws.specs.Conditionals.{conditionals, conditionals_count}

abbrev atom : Name → Formula
atom name = Atom name []

abbrev on : Formula → Effect → Row
on f e = record { vars = []; when = f; effect = e }

abbrev adds : Name → Effect
adds name = effect.Add name []

abbrev predicate : Name → Predicate
predicate name = record { name = name; args = [] }

abbrev of : List Action → Parts
of actions = record {
  domain = codes "k";
  name = codes "k1";
  types = [];
  constants = 0;
  objects = [];
  predicates = predicate (codes "p") ∷ predicate (codes "q") ∷ predicate (codes "r") ∷ [];
  functions = [];
  atoms = [];
  numbers = [];
  values = [];
  actions = actions;
  goal = atom (codes "p");
  metric = None;
  constraints = [];
}

-- ---- one condition: a variant without it and one with it

one : Parts
one = of (record { name = codes "c"; params = []; pre = true_formula; rows = on (atom (codes "q")) (adds (codes "r")) ∷ [] } ∷ [])

one_actions : (conditionals one).parts.actions
    ≡ record { name = codes "c-1"; params = []; pre = Not (atom (codes "q")); rows = [] }
    ∷ record { name = codes "c-2"; params = []; pre = atom (codes "q"); rows = on true_formula (adds (codes "r")) ∷ [] } ∷ []
unfolding one simplified same_formula fresh_name digits reserved_words hidden-the_row-Formula-0 hidden-the_row-Formula-1 denote.Hole.Carrier.hidden
one_actions = refl

one_entries : (conditionals one).entries
    ≡ record { action = codes "c-1"; arity = 0; target = Keep (codes "c") [] } ∷ record { action = codes "c-2"; arity = 0; target = Keep (codes "c") [] } ∷ []
unfolding one simplified same_formula fresh_name digits reserved_words arguments hidden-the_row-Formula-0 hidden-the_row-Formula-1 denote.Hole.Carrier.hidden
one_entries = refl

-- ---- two conditions, the first of which stands twice: the first changes fastest

two : Parts
two = of (record {
  name = codes "c";
  params = [];
  pre = true_formula;
  rows = on (atom (codes "q")) (adds (codes "r")) ∷ on (atom (codes "p")) (adds (codes "q")) ∷ on (atom (codes "q")) (adds (codes "p")) ∷ [];
} ∷ [])

abbrev bare : Name → List Formula → List Row → Action
bare name fs rows = record { name = name; params = []; pre = And fs; rows = rows }

two_actions : (conditionals two).parts.actions
    ≡ bare (codes "c-1") (Not (atom (codes "q")) ∷ Not (atom (codes "p")) ∷ []) []
    ∷ bare (codes "c-2") (atom (codes "q") ∷ Not (atom (codes "p")) ∷ []) (on true_formula (adds (codes "r")) ∷ on true_formula (adds (codes "p")) ∷ [])
    ∷ bare (codes "c-3") (Not (atom (codes "q")) ∷ atom (codes "p") ∷ []) (on true_formula (adds (codes "q")) ∷ [])
    ∷ bare (codes "c-4") (atom (codes "q") ∷ atom (codes "p") ∷ []) (on true_formula (adds (codes "r")) ∷ on true_formula (adds (codes "q")) ∷ on true_formula (adds (codes "p")) ∷ []) ∷ []
unfolding two simplified same_formula fresh_name digits reserved_words hidden-the_row-Formula-0 hidden-the_row-Formula-1 denote.Hole.Carrier.hidden
two_actions = refl

-- ---- three conditions: size 11, times 8

three : Parts
three = of (record {
  name = codes "act";
  params = [];
  pre = true_formula;
  rows = on (atom (codes "p")) (adds (codes "e")) ∷ on (atom (codes "q")) (adds (codes "e")) ∷ on (atom (codes "r")) (adds (codes "e")) ∷ [];
} ∷ [])

three_count : conditionals_count three ≡ 88
unfolding three same_formula formula_size members_size hidden-the_row-Formula-0 hidden-the_row-Formula-1 denote.Hole.Carrier.hidden
three_count = refl

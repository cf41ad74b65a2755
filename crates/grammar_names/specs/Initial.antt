-- What the members of an initial state denote where names are declared, said apart from how they are checked.
use Rattle.std.specs.Prelude.{◌≡◌, true, List, [], ◌∷◌, ◌++◌, Some}
use Rattle.up_text.specs.Lists.{Member}
use Rattle.up_text.specs.declared.name.Name.{Name}
use Rattle.up_text.specs.declared.place.Place.{Place}
use Rattle.up_frac.specs.Fraction.{Fraction}
use Rattle.pddl_parse.specs.declared.raw.Ident.{Ident}
use Rattle.pddl_parse.specs.declared.raw.RawGround.{RawGround}
use Rattle.pddl_parse.specs.declared.raw.RawInit.{RawInit}
use Rattle.pddl_parse.specs.declared.raw.RawInit.TheVariants as member
use Rattle.pddl_parse.specs.declared.raw.RawValue.TheVariants as value
use Rattle.up_tree.specs.declared.problem.Fact.{Fact}
use Rattle.up_tree.specs.declared.problem.NumberFact.{NumberFact}
use Rattle.up_tree.specs.declared.problem.ValueFact.{ValueFact}
use Rattle.up_tree.specs.declared.problem.Gives.{Gives}
use Rattle.up_tree.specs.declared.problem.Gives.TheVariants as gives
use Rattle.up_phrase.specs.declared.names.Signature.{Signature}
use Rattle.up_phrase.specs.Declarations.{Declarations}
use Rattle.up_phrase.specs.Lookups.{type_of, is_under, predicate_of, function_of}
use Rattle.up_check.specs.declared.lists.Initial.{Initial}
use Rattle.up_check.specs.Initial.{arguments}

-- ---- predicates and functions at objects

-- a declared object, whose type is the one due or stands below it
pub data IsOfType (names : Declarations) (due : Name) (it : Ident) : Type 0 where
  of_type : (of : Name) → type_of names it.name ≡ Some of → is_under names of due ≡ true → IsOfType names due it

-- as many objects as there are declared types, each of its type
pub data AreOfTypes (names : Declarations) : List Name → List Ident → Type 0 where
  no_objects : AreOfTypes names [] []
  more_objects : (due : Name) (it : Ident) (types : List Name) (objects : List Ident)
      → IsOfType names due it → AreOfTypes names types objects → AreOfTypes names (due ∷ types) (it ∷ objects)

-- a declared predicate at objects
pub data IsGroundAtom (names : Declarations) (atom : RawGround) : Type 0 where
  of_predicate : (types : List Name) → predicate_of names atom.name.name ≡ Some types → AreOfTypes names types atom.args
      → IsGroundAtom names atom

-- a declared function at objects, which gives a number or objects of some type
pub data IsGroundTerm (names : Declarations) (term : RawGround) (g : Gives) : Type 0 where
  of_function : (function : Signature) → function_of names term.name.name ≡ Some function
      → AreOfTypes names function.args term.args → function.gives ≡ g → IsGroundTerm names term g

-- ---- what is stated

abbrev pub fact : RawGround → Fact
fact atom = record { predicate = atom.name.name; args = arguments atom.args }

abbrev pub number_fact : RawGround → Fraction → NumberFact
number_fact term n = record { function = term.name.name; args = arguments term.args; value = n }

abbrev pub value_fact : RawGround → Name → ValueFact
value_fact term object = record { function = term.name.name; args = arguments term.args; value = object }

-- the facts that members state, one after the other: atoms, numbers and objects as values
pub data State (names : Declarations) : List RawInit → List Fact → List NumberFact → List ValueFact → Type 0 where
  no_members : State names [] [] [] []
  an_atom : (atom : RawGround) (members : List RawInit) (atoms : List Fact) (numbers : List NumberFact) (values : List ValueFact)
      → IsGroundAtom names atom → State names members atoms numbers values
      → State names (member.Atom atom ∷ members) (fact atom ∷ atoms) numbers values
  -- an atom under `not` states nothing
  an_absent_atom : (atom : RawGround) (members : List RawInit) (atoms : List Fact) (numbers : List NumberFact) (values : List ValueFact)
      → IsGroundAtom names atom → State names members atoms numbers values
      → State names (member.Absent atom ∷ members) atoms numbers values
  a_number : (place at : Place) (term : RawGround) (n : Fraction)
      (members : List RawInit) (atoms : List Fact) (numbers : List NumberFact) (values : List ValueFact)
      → IsGroundTerm names term gives.Number → State names members atoms numbers values
      → State names (member.Value place term (value.Number at n) ∷ members) atoms (number_fact term n ∷ numbers) values
  an_object : (place : Place) (term : RawGround) (it : Ident) (of : Name)
      (members : List RawInit) (atoms : List Fact) (numbers : List NumberFact) (values : List ValueFact)
      → IsGroundTerm names term (gives.Object of) → IsOfType names of it → State names members atoms numbers values
      → State names (member.Value place term (value.Object it) ∷ members) atoms numbers (value_fact term it.name ∷ values)

-- ---- repeats

-- the facts that are stated, each once, in the order in which they are first stated; those of `before` are stated already
pub data Once {X : Type 0} : List X → List X → List X → Type 0 where
  no_facts : (before : List X) → Once before [] []
  repeated : (before : List X) (x : X) (stated kept : List X) → Member x before → Once before stated kept → Once before (x ∷ stated) kept
  first : (before : List X) (x : X) (stated kept : List X) → (¬ Member x before) → Once (before ++ x ∷ []) stated kept
      → Once before (x ∷ stated) (x ∷ kept)

-- no function is given two numbers at the same objects
abbrev pub OneNumberEach : List NumberFact → Type 0
OneNumberEach facts = (a b : NumberFact) → Member a facts → Member b facts → a.function ≡ b.function → a.args ≡ b.args → a.value ≡ b.value

-- no function is given two objects at the same objects
abbrev pub OneObjectEach : List ValueFact → Type 0
OneObjectEach facts = (a b : ValueFact) → Member a facts → Member b facts → a.function ≡ b.function → a.args ≡ b.args → a.value ≡ b.value

-- An initial state: what its members state, each fact once. A fact may be repeated, but no term has two values.
pub record DenoteInitial (names : Declarations) (members : List RawInit) (it : Initial) : Type 0 where
  pub atoms : List Fact
  pub numbers : List NumberFact
  pub values : List ValueFact
  pub stated : State names members atoms numbers values
  pub atoms_once : Once [] atoms it.atoms
  pub numbers_once : Once [] numbers it.numbers
  pub values_once : Once [] values it.values
  pub one_number : OneNumberEach numbers
  pub one_object : OneObjectEach values

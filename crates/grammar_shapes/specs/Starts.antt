-- Which bracket trees spell initial states and metrics.
use Rattle.std.specs.Prelude.{true, false, List, [], ◌∷◌, codes}
use Rattle.up_text.specs.declared.place.Place.{Place}
use Rattle.up_frac.specs.Fraction.{Fraction}
use Rattle.pddl_lex.specs.declared.tree.Sign.TheVariants as sign
use Rattle.pddl_lex.specs.declared.tree.TokenKind.TheVariants as kind
use Rattle.pddl_lex.specs.declared.tree.Sexp.{Sexp, Group}
use Rattle.pddl_parse.specs.declared.raw.Ident.{Ident}
use Rattle.pddl_parse.specs.declared.raw.RawTerm.{RawTerm}
use Rattle.pddl_parse.specs.declared.raw.RawGround.{RawGround}
use Rattle.pddl_parse.specs.declared.raw.RawValue.{RawValue}
use Rattle.pddl_parse.specs.declared.raw.RawValue.TheVariants as «value»
use Rattle.pddl_parse.specs.declared.raw.RawInit.{RawInit}
use Rattle.pddl_parse.specs.declared.raw.RawInit.TheVariants.{Atom, Absent, Value}
use Rattle.pddl_parse.specs.declared.raw.RawMetric.{RawMetric}
use Rattle.pddl_parse.specs.Forms.{leaf, IsIdent, IsTerm}
use Rattle.grammar_shapes.specs.Lists.{AreNames}

-- a predicate or a function at names, as `(p a b)`
pub data IsGround : Sexp → RawGround → Type 0 where
  a_ground : (place : Place) (head : Sexp) (name : Ident) (trees : List Sexp) (args : List Ident)
      → IsIdent head name → AreNames trees args → IsGround (Group place (head ∷ trees)) (record { place = place; name = name; args = args })

-- the value of a function: a number or a name
pub data IsValue : Sexp → RawValue → Type 0 where
  a_constant : (number : Fraction) (place : Place) → IsValue (leaf (kind.Number number) place) (value.Number place number)
  an_object : (tree : Sexp) (name : Ident) → IsIdent tree name → IsValue tree (value.Object name)

-- a member of an initial state: `(p a)`, `(not (p a))` or `(= (f a) v)`
pub data IsInit : Sexp → RawInit → Type 0 where
  a_fact : (tree : Sexp) (atom : RawGround) → IsGround tree atom → IsInit tree (Atom atom)
  an_absence : (place at : Place) (tree : Sexp) (atom : RawGround)
      → IsGround tree atom → IsInit (Group place (leaf (kind.Word (codes "not")) at ∷ tree ∷ [])) (Absent atom)
  an_assignment : (place at : Place) (one two : Sexp) (term : RawGround) (given : RawValue) → IsGround one term → IsValue two given
      → IsInit (Group place (leaf (kind.Sign sign.Same) at ∷ one ∷ two ∷ [])) (Value place term given)

pub data AreInits : List Sexp → List RawInit → Type 0 where
  no_inits : AreInits [] []
  more_inits : (tree : Sexp) (member : RawInit) (trees : List Sexp) (members : List RawInit)
      → IsInit tree member → AreInits trees members → AreInits (tree ∷ trees) (member ∷ members)

-- a metric: `minimize e` or `maximize e`
pub data IsMetric : List Sexp → RawMetric → Type 0 where
  minimized : (at : Place) (tree : Sexp) (term : RawTerm)
      → IsTerm tree term → IsMetric (leaf (kind.Word (codes "minimize")) at ∷ tree ∷ []) (record { minimize = true; value = term })
  maximized : (at : Place) (tree : Sexp) (term : RawTerm)
      → IsTerm tree term → IsMetric (leaf (kind.Word (codes "maximize")) at ∷ tree ∷ []) (record { minimize = false; value = term })

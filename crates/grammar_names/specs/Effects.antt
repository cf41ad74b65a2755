-- What raw effects denote where names are declared, said apart from how they are checked.
use Rattle.std.specs.Prelude.{◌≡◌, List, [], ◌∷◌, ◌++◌, flat_map, map, Some}
use Rattle.up_text.specs.declared.name.Name.{Name}
use Rattle.up_text.specs.declared.place.Place.{Place}
use Rattle.pddl_parse.specs.declared.raw.RawCall.{RawCall}
use Rattle.pddl_parse.specs.declared.raw.RawChange.{RawChange}
use Rattle.pddl_parse.specs.declared.raw.RawChange.TheVariants as stated
use Rattle.pddl_parse.specs.declared.raw.RawEffect.{RawEffect}
use Rattle.pddl_parse.specs.declared.raw.RawEffect as raw
use Rattle.pddl_parse.specs.declared.raw.RawFormula.{RawFormula}
use Rattle.pddl_parse.specs.declared.raw.RawGroup.{RawGroup}
use Rattle.pddl_parse.specs.declared.raw.RawTerm.{RawTerm}
use Rattle.up_tree.specs.declared.action.Effect.{Effect}
use Rattle.up_tree.specs.declared.action.Effect.TheVariants as effect
use Rattle.up_tree.specs.declared.action.Row.{Row}
use Rattle.up_tree.specs.declared.expr.Expr.{Expr}
use Rattle.up_tree.specs.declared.formula.Formula.{Formula, And}
use Rattle.up_tree.specs.declared.problem.Gives.{Gives}
use Rattle.up_tree.specs.declared.problem.Gives.TheVariants as gives
use Rattle.up_tree.specs.declared.term.Term.{Term}
use Rattle.up_tree.specs.Simplify.{alone_or}
use Rattle.up_phrase.specs.declared.names.Signature.{Signature}
use Rattle.up_phrase.specs.declared.term.Setting.TheVariants.{Plain}
use Rattle.up_phrase.specs.Barred.{binds}
use Rattle.up_phrase.specs.Declarations.{Declarations}
use Rattle.up_phrase.specs.Lookups.{function_of}
use Rattle.up_phrase.specs.Scopes.{Variables, typed}
use Rattle.up_effect.specs.Effects.{change_of, whens_and}
use Rattle.grammar_names.specs.Phrases.{Enters, DenotesTerm, DenoteArguments, DenotesAtom, DenotesExpr, DenotesFormula}

-- ---- simple effects

-- a declared function that gives this, at its arguments
pub record DenotesTarget (names : Declarations) (vars : Variables) (given : Gives) (it : RawCall) (ts : List Term) : Type 0 where
  pub function : Signature
  pub declared : function_of names it.name.name ≡ Some function
  pub of_sort : function.gives ≡ given
  pub arguments : DenoteArguments names vars Plain function.args it.args ts

-- an effect without `and`, `forall` and `when`
pub data DenotesSimple (names : Declarations) (vars : Variables) : RawEffect → Effect → Type 0 where
  of_add : (it : RawCall) (ts : List Term)
      → DenotesAtom names vars Plain it.name it.args ts → DenotesSimple names vars (raw.Add it) (effect.Add it.name.name ts)
  of_delete : (it : RawCall) (ts : List Term)
      → DenotesAtom names vars Plain it.name it.args ts → DenotesSimple names vars (raw.Delete it) (effect.Delete it.name.name ts)
  -- a number is assigned, increased, decreased, scaled up or scaled down
  of_number : (change : RawChange) (it : RawCall) (value : RawTerm) (ts : List Term) (e : Expr)
      → DenotesTarget names vars gives.Number it ts → DenotesExpr names vars Plain value e
      → DenotesSimple names vars (raw.Change change it value) (effect.Number (change_of change) it.name.name ts e)
  -- an object is assigned, whose type fits the function's
  of_object : (it : RawCall) (value : RawTerm) (of : Name) (ts : List Term) (t : Term)
      → DenotesTarget names vars (gives.Object of) it ts → DenotesTerm names vars Plain (Some of) value t
      → DenotesSimple names vars (raw.Change stated.Assign it value) (effect.Object it.name.name ts t)
  -- the value of an object function is taken away
  of_undefine : (it : RawCall) (place : Place) (of : Name) (ts : List Term)
      → DenotesTarget names vars (gives.Object of) it ts
      → DenotesSimple names vars (raw.Undefine it place) (effect.Undefine it.name.name ts)

-- ---- effects

-- the names of the variables that conditions bind
abbrev pub bound_in : List Formula → List Name
bound_in conditions = flat_map binds conditions

-- a simple effect for all objects that the variables may stand for, under the one condition or under `and` of all
abbrev pub row_of : Variables → List Formula → Effect → Row
row_of bound conditions e = record { vars = map typed bound; when = alone_or And conditions; effect = e }

mutual
  -- An effect of an action with these parameters denotes rows, each for a simple effect in it. Around the effect stand the variables of
  -- `forall`s and the conditions of `when`s, from the outside in.
  pub data DenotesEffect (names : Declarations) (params : Variables) : Variables → List Formula → RawEffect → List Row → Type 0 where
    of_and : (bound : Variables) (conditions : List Formula) (members : List RawEffect) (rows : List Row)
        → DenoteEffects names params bound conditions members rows → DenotesEffect names params bound conditions (raw.And members) rows
    -- no variable is in scope before, and none has the name of one that a condition around it binds
    of_forall : (bound added : Variables) (conditions : List Formula) (groups : List RawGroup) (body : RawEffect) (rows : List Row)
        → Enters names (bound_in conditions) groups (params ++ bound) (params ++ bound ++ added)
        → DenotesEffect names params (bound ++ added) conditions body rows
        → DenotesEffect names params bound conditions (raw.Forall groups body) rows
    -- the condition stands after those around it, unless it is the empty `and`
    of_when : (bound : Variables) (conditions : List Formula) (condition : RawFormula) (f : Formula) (body : RawEffect) (rows : List Row)
        → DenotesFormula names (params ++ bound) Plain condition f
        → DenotesEffect names params bound (whens_and conditions f) body rows
        → DenotesEffect names params bound conditions (raw.When condition body) rows
    of_simple : (bound : Variables) (conditions : List Formula) (raw : RawEffect) (e : Effect)
        → DenotesSimple names (params ++ bound) raw e → DenotesEffect names params bound conditions raw (row_of bound conditions e ∷ [])

  -- effects denote the rows of each, one after the other
  pub data DenoteEffects (names : Declarations) (params : Variables) : Variables → List Formula → List RawEffect → List Row → Type 0 where
    no_effects : (bound : Variables) (conditions : List Formula) → DenoteEffects names params bound conditions [] []
    more_effects : (bound : Variables) (conditions : List Formula)
        (member : RawEffect) (rows : List Row) (members : List RawEffect) (others : List Row)
        → DenotesEffect names params bound conditions member rows → DenoteEffects names params bound conditions members others
        → DenoteEffects names params bound conditions (member ∷ members) (rows ++ others)

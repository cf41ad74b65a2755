-- The abstract syntax that effects and actions have, wherever its parts stand in a text.
use Rattle.std.specs.Prelude.{Bool, true, false, List, [], ◌∷◌}
use Rattle.up_text.specs.declared.name.Name.{Name}
use Rattle.up_text.specs.declared.place.Place.{Place}
use Rattle.up_tree.specs.declared.term.Typed.{Typed}
use Rattle.up_tree.specs.declared.formula.Formula.{Formula}
use Rattle.up_tree.specs.declared.action.Change.{Change}
use Rattle.up_tree.specs.declared.action.Change.TheVariants as tree
use Rattle.up_tree.specs.declared.action.Effect.{Effect}
use Rattle.up_tree.specs.declared.action.Effect.TheVariants as effect
use Rattle.up_tree.specs.declared.action.Row.{Row}
use Rattle.up_tree.specs.declared.action.Action.{Action}
use Rattle.up_tree.specs.Simplify.{is_true_formula}
use Rattle.pddl_parse.specs.declared.raw.Ident.{Ident}
use Rattle.pddl_parse.specs.declared.raw.RawGroup.{RawGroup}
use Rattle.pddl_parse.specs.declared.raw.RawTerm.{RawTerm}
use Rattle.pddl_parse.specs.declared.raw.RawFormula.{RawFormula}
use Rattle.pddl_parse.specs.declared.raw.RawCall.{RawCall}
use Rattle.pddl_parse.specs.declared.raw.RawChange.{RawChange}
use Rattle.pddl_parse.specs.declared.raw.RawChange.TheVariants as change
use Rattle.pddl_parse.specs.declared.raw.RawAction.{RawAction}
use Rattle.pddl_parse.specs.declared.raw.RawEffect as raw
use Rattle.pddl_parse.specs.declared.raw.RawEffect.{RawEffect}
use Rattle.roundtrip_shapes.specs.Raw.{IsEmpty, IsFirst, IsRawName, AreRawGroups, IsRawTerm, AreRawTerms, IsRawExpr, IsRawFormula}

abbrev pub raw_change : Change → RawChange
raw_change tree.Assign = change.Assign
raw_change tree.Increase = change.Increase
raw_change tree.Decrease = change.Decrease
raw_change tree.ScaleUp = change.ScaleUp
raw_change tree.ScaleDown = change.ScaleDown

-- a name at arguments of which this is so
pub data IsRawAt (name : Name) (Args : List RawTerm → Type 0) : RawCall → Type 0 where
  at_args : (place : Place) (ident : Ident) (args : List RawTerm) → IsRawName name ident → Args args
      → IsRawAt name Args (record { place = place; name = ident; args = args })

pub data IsRawAdd (C : RawCall → Type 0) : RawEffect → Type 0 where
  an_add : (call : RawCall) → C call → IsRawAdd C (raw.Add call)

pub data IsRawDelete (C : RawCall → Type 0) : RawEffect → Type 0 where
  a_delete : (call : RawCall) → C call → IsRawDelete C (raw.Delete call)

pub data IsRawChange (c : RawChange) (C : RawCall → Type 0) (V : RawTerm → Type 0) : RawEffect → Type 0 where
  a_change : (call : RawCall) (value : RawTerm) → C call → V value → IsRawChange c C V (raw.Change c call value)

pub data IsRawUndefine (C : RawCall → Type 0) : RawEffect → Type 0 where
  an_undefine : (call : RawCall) (place : Place) → C call → IsRawUndefine C (raw.Undefine call place)

pub data IsRawWhen (F : RawFormula → Type 0) (E : RawEffect → Type 0) : RawEffect → Type 0 where
  a_when : (f : RawFormula) (e : RawEffect) → F f → E e → IsRawWhen F E (raw.When f e)

pub data IsRawEach (Vars : List RawGroup → Type 0) (E : RawEffect → Type 0) : RawEffect → Type 0 where
  for_each : (groups : List RawGroup) (e : RawEffect) → Vars groups → E e → IsRawEach Vars E (raw.Forall groups e)

abbrev pub IsRawEffect : Effect → RawEffect → Type 0
IsRawEffect (effect.Add name ts) e = IsRawAdd (IsRawAt name (AreRawTerms ts)) e
IsRawEffect (effect.Delete name ts) e = IsRawDelete (IsRawAt name (AreRawTerms ts)) e
IsRawEffect (effect.Number c f ts x) e = IsRawChange (raw_change c) (IsRawAt f (AreRawTerms ts)) (IsRawExpr x) e
IsRawEffect (effect.Object f ts t) e = IsRawChange change.Assign (IsRawAt f (AreRawTerms ts)) (IsRawTerm t) e
IsRawEffect (effect.Undefine f ts) e = IsRawUndefine (IsRawAt f (AreRawTerms ts)) e

-- inside a `when` where the condition isn't `true`
abbrev pub IsRawUnder : Bool → Formula → (RawEffect → Type 0) → RawEffect → Type 0
IsRawUnder typed f E e = by (is_true_formula f)
  where
    by : Bool → Type 0
    by true = E e
    by false = IsRawWhen (IsRawFormula typed f) E e

-- inside a `forall` where there are variables
abbrev pub IsRawForEach : Bool → List Typed → (RawEffect → Type 0) → RawEffect → Type 0
IsRawForEach typed [] E e = E e
IsRawForEach typed (v ∷ vars) E e = IsRawEach (AreRawGroups typed (v ∷ vars)) E e

abbrev pub IsRawRow : Bool → Row → RawEffect → Type 0
IsRawRow typed r e = IsRawForEach typed r.vars (IsRawUnder typed r.when (IsRawEffect r.effect)) e

-- the rows of an action in order
abbrev pub AreRawRows : Bool → List Row → List RawEffect → Type 0
AreRawRows typed [] es = IsEmpty es
AreRawRows typed (r ∷ rows) es = IsFirst (IsRawRow typed r) (AreRawRows typed rows) es

pub data IsRawAll (Es : List RawEffect → Type 0) : RawEffect → Type 0 where
  all_of : (es : List RawEffect) → Es es → IsRawAll Es (raw.And es)

pub record IsRawAction (typed : Bool) (a : Action) (action : RawAction) : Type 0 where
  pub name : IsRawName a.name action.name
  pub params : AreRawGroups typed a.params action.params
  pub pre : IsRawFormula typed a.pre action.pre
  pub effect : IsRawAll (AreRawRows typed a.rows) action.effect

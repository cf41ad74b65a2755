-- The abstract syntax that the written domain and problem have, wherever their parts stand in a text.
use Rattle.std.specs.Prelude.{◌≡◌, ℕ, ◌+◌, Bool, true, false, Option, None, Some, List, [], ◌∷◌, ◌++◌, codes, decimal, take, drop}
use Rattle.up_text.specs.declared.name.Name.{Name}
use Rattle.up_text.specs.declared.place.Place.{Place}
use Rattle.up_tree.specs.declared.term.Typed.{Typed}
use Rattle.up_tree.specs.declared.formula.Formula.{Formula}
use Rattle.up_tree.specs.declared.problem.Predicate.{Predicate}
use Rattle.up_tree.specs.declared.problem.Function.{Function}
use Rattle.up_tree.specs.declared.problem.Gives.{Gives}
use Rattle.up_tree.specs.declared.problem.Gives.TheVariants as gives
use Rattle.up_tree.specs.declared.problem.Fact.{Fact}
use Rattle.up_tree.specs.declared.problem.NumberFact.{NumberFact}
use Rattle.up_tree.specs.declared.problem.ValueFact.{ValueFact}
use Rattle.up_tree.specs.declared.problem.Rule.{Rule}
use Rattle.up_tree.specs.declared.problem.Rule.TheVariants as rule
use Rattle.up_tree.specs.declared.problem.Constraint.{Constraint}
use Rattle.up_tree.specs.declared.problem.Metric.{Metric}
use Rattle.up_tree.specs.declared.problem.Parts.{Parts}
use Rattle.up_kind.specs.declared.feature.Feature.TheVariants.{FlatTyping, ObjectFluents}
use Rattle.up_kind.specs.Features.{FeatureSet}
use Rattle.up_kind.specs.Carried.{carries}
use Rattle.pddl_parse.specs.declared.raw.Ident.{Ident}
use Rattle.pddl_parse.specs.declared.raw.RawGroup.{RawGroup}
use Rattle.pddl_parse.specs.declared.raw.RawFormula.{RawFormula}
use Rattle.pddl_parse.specs.declared.raw.RawSymbol.{RawSymbol}
use Rattle.pddl_parse.specs.declared.raw.RawFunctions.{RawFunctions}
use Rattle.pddl_parse.specs.declared.raw.RawGives.{RawGives}
use Rattle.pddl_parse.specs.declared.raw.RawGives.TheVariants as given
use Rattle.pddl_parse.specs.declared.raw.RawGround.{RawGround}
use Rattle.pddl_parse.specs.declared.raw.RawValue.TheVariants as initial_value
use Rattle.pddl_parse.specs.declared.raw.RawInit.{RawInit}
use Rattle.pddl_parse.specs.declared.raw.RawInit.TheVariants as init
use Rattle.pddl_parse.specs.declared.raw.RawConstraint.{RawConstraint}
use Rattle.pddl_parse.specs.declared.raw.RawConstraint as constraint
use Rattle.pddl_parse.specs.declared.raw.RawMetric.{RawMetric}
use Rattle.pddl_parse.specs.declared.raw.DomainForm.{DomainForm}
use Rattle.pddl_parse.specs.declared.raw.ProblemForm.{ProblemForm}
use Rattle.pddl_write.specs.Files.{declares_type}
use Rattle.roundtrip_shapes.specs.Raw.{IsEmpty, IsFirst, IsRawName, AreRawGroups, IsRawExpr, IsRawFormula}
use Rattle.roundtrip_shapes.specs.RawEffects.{IsRawAction}

-- one for each member, in order, and then a rest
abbrev pub AreEach : {X Y : Type 0} → (X → Y → Type 0) → List X → (List Y → Type 0) → List Y → Type 0
AreEach Is [] Rest ys = Rest ys
AreEach Is (x ∷ xs) Rest ys = IsFirst (Is x) (AreEach Is xs Rest) ys

-- ---- declarations

-- the variables of a declaration, numbered from the given number on
abbrev pub numbered : ℕ → List Name → List Typed
numbered k [] = []
numbered k (of ∷ types) = record { name = codes "x" ++ decimal k; of = of } ∷ numbered (k + 1) types

-- a name with arguments of these types
pub record IsRawSymbol (typed : Bool) (word : Name) (args : List Name) (symbol : RawSymbol) : Type 0 where
  pub name : IsRawName word symbol.name
  pub params : AreRawGroups typed (numbered 1 args) symbol.params

abbrev pub IsRawPredicate : Bool → Predicate → RawSymbol → Type 0
IsRawPredicate typed d symbol = IsRawSymbol typed d.name d.args symbol

abbrev pub IsRawSignature : Bool → Function → RawSymbol → Type 0
IsRawSignature typed d symbol = IsRawSymbol typed d.name d.args symbol

pub data IsRawGives : Gives → RawGives → Type 0 where
  gives_number : IsRawGives gives.Number given.Number
  gives_object : (of : Name) (ident : Ident) → IsRawName of ident → IsRawGives (gives.Object of) (given.Object ident)

-- a group for each function with what it gives, or one group for all where that is left out
pub data AreRawFunctions (typed : Bool) : Bool → List Function → List RawFunctions → Type 0 where
  no_functions : (given : Bool) → AreRawFunctions typed given [] []
  more_functions : (d : Function) (ds : List Function) (symbol : RawSymbol) (gives : RawGives) (groups : List RawFunctions)
      → IsRawSignature typed d symbol → IsRawGives d.gives gives → AreRawFunctions typed true ds groups
      → AreRawFunctions typed true (d ∷ ds) (record { functions = symbol ∷ []; gives = gives } ∷ groups)
  one_group : (d : Function) (ds : List Function) (symbols : List RawSymbol)
      → AreEach (IsRawSignature typed) (d ∷ ds) IsEmpty symbols
      → AreRawFunctions typed false (d ∷ ds) (record { functions = symbols; gives = given.Number } ∷ [])

-- ---- the initial state

-- a name at these objects
pub record IsRawGround (word : Name) (objects : List Name) (ground : RawGround) : Type 0 where
  pub name : IsRawName word ground.name
  pub args : AreEach IsRawName objects IsEmpty ground.args

pub data IsRawFact (f : Fact) : RawInit → Type 0 where
  an_atom : (ground : RawGround) → IsRawGround f.predicate f.args ground → IsRawFact f (init.Atom ground)

pub data IsRawNumberFact (f : NumberFact) : RawInit → Type 0 where
  a_number : (place at : Place) (ground : RawGround) → IsRawGround f.function f.args ground
      → IsRawNumberFact f (init.Value place ground (initial_value.Number at f.value))

pub data IsRawValueFact (f : ValueFact) : RawInit → Type 0 where
  an_object : (place : Place) (ground : RawGround) (ident : Ident) → IsRawGround f.function f.args ground → IsRawName f.value ident
      → IsRawValueFact f (init.Value place ground (initial_value.Object ident))

-- atoms, then numbers, then objects
abbrev pub IsRawInit : Parts → List RawInit → Type 0
IsRawInit p inits = AreEach IsRawFact p.atoms (AreEach IsRawNumberFact p.numbers (AreEach IsRawValueFact p.values IsEmpty)) inits

-- ---- constraints and the metric

pub data IsRawRule (typed : Bool) : Rule → RawConstraint → Type 0 where
  always : (f : Formula) (raw : RawFormula) → IsRawFormula typed f raw → IsRawRule typed (rule.Always f) (constraint.Always raw)
  sometime : (f : Formula) (raw : RawFormula) → IsRawFormula typed f raw → IsRawRule typed (rule.Sometime f) (constraint.Sometime raw)
  at_most_once : (f : Formula) (raw : RawFormula) → IsRawFormula typed f raw → IsRawRule typed (rule.AtMostOnce f) (constraint.AtMostOnce raw)
  sometime_after : (f g : Formula) (one two : RawFormula) → IsRawFormula typed f one → IsRawFormula typed g two
      → IsRawRule typed (rule.SometimeAfter f g) (constraint.SometimeAfter one two)
  sometime_before : (f g : Formula) (one two : RawFormula) → IsRawFormula typed f one → IsRawFormula typed g two
      → IsRawRule typed (rule.SometimeBefore f g) (constraint.SometimeBefore one two)

pub data IsRawForall (Vars : List RawGroup → Type 0) (C : RawConstraint → Type 0) : RawConstraint → Type 0 where
  for_all : (groups : List RawGroup) (c : RawConstraint) → Vars groups → C c → IsRawForall Vars C (constraint.Forall groups c)

pub data IsRawAnd (Cs : List RawConstraint → Type 0) : RawConstraint → Type 0 where
  all_of : (cs : List RawConstraint) → Cs cs → IsRawAnd Cs (constraint.And cs)

-- inside a `forall` where there are variables
abbrev pub IsRawForEach : Bool → List Typed → (RawConstraint → Type 0) → RawConstraint → Type 0
IsRawForEach typed [] C c = C c
IsRawForEach typed (v ∷ vars) C c = IsRawForall (AreRawGroups typed (v ∷ vars)) C c

abbrev pub IsRawConstraint : Bool → Constraint → RawConstraint → Type 0
IsRawConstraint typed c raw = IsRawForEach typed c.vars (IsRawRule typed c.rule) raw

abbrev pub AreRawConstraints : Bool → List Constraint → RawConstraint → Type 0
AreRawConstraints typed cs raw = IsRawAnd (AreEach (IsRawConstraint typed) cs IsEmpty) raw

pub data IsRawMetric : Option Metric → Option RawMetric → Type 0 where
  no_metric : IsRawMetric None None
  a_metric : (m : Metric) (raw : RawMetric) → raw.minimize ≡ m.minimize → IsRawExpr m.value raw.value → IsRawMetric (Some m) (Some raw)

-- ---- the whole

-- for a problem with these features
pub record IsRawDomainWith (f : FeatureSet) (p : Parts) (form : DomainForm) : Type 0 where
  pub name : IsRawName p.domain form.name
  pub types : AreRawGroups true p.types form.types
  pub constants : AreRawGroups (f FlatTyping) (take p.constants p.objects) form.constants
  pub predicates : AreEach (IsRawPredicate (f FlatTyping)) p.predicates IsEmpty form.predicates
  pub functions : AreRawFunctions (f FlatTyping) (f ObjectFluents) p.functions form.functions
  pub actions : AreEach (IsRawAction (f FlatTyping)) p.actions IsEmpty form.actions
  pub constraints : form.constraints ≡ constraint.And []

abbrev pub IsRawDomain : Parts → DomainForm → Type 0
IsRawDomain p form = IsRawDomainWith (carries p) p form

-- for a problem that declares a type or not
pub record IsRawProblemWith (typed : Bool) (p : Parts) (form : ProblemForm) : Type 0 where
  pub name : IsRawName p.name form.name
  pub domain : IsRawName p.domain form.domain
  pub objects : AreRawGroups typed (drop p.constants p.objects) form.objects
  pub init : IsRawInit p form.init
  pub goal : IsRawFormula typed p.goal form.goal
  pub constraints : AreRawConstraints typed p.constraints form.constraints
  pub metric : IsRawMetric p.metric form.metric

abbrev pub IsRawProblem : Parts → ProblemForm → Type 0
IsRawProblem p form = IsRawProblemWith (declares_type p) p form

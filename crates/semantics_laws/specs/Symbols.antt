-- The predicates and functions that a tree names, and the states that agree on them.
use Rattle.std.specs.Prelude.{◌≡◌, ◌⊎◌, ◌↔◌, List, IsSomeAnd}
use Rattle.up_text.specs.declared.name.Name.{Name}
use Rattle.up_text.specs.Lists.{Somewhere, Member}
use Rattle.up_tree.specs.declared.term.Term.{Term, Var, Object, Fluent', Row_of-Term, end_of-Term, more_of-Term}
use Rattle.up_tree.specs.declared.expr.Expr.{Expr, Number, Fluent}
use Rattle.up_tree.specs.declared.formula.Formula.{Formula, And', Or', Atom, Equal, Compare, Row_of-Formula, end_of-Formula, more_of-Formula}
use Rattle.up_tree.specs.declared.action.Effect.{Effect}
use Rattle.up_tree.specs.declared.action.Effect.TheVariants as effect
use Rattle.up_tree.specs.declared.action.Row.{Row}
use Rattle.up_tree.specs.declared.action.Action.{Action}
use Rattle.up_tree.specs.declared.problem.Parts.{Parts}
use Rattle.up_tree.specs.declared.problem.Step.{Step}
use Rattle.up_tree.specs.Nodes.{sum, difference, product, quotient, not, imply, exists, forall}
use Rattle.up_tree.specs.Objects.{action_named}
use Rattle.up_tree.specs.State.{State, Holds, ground, number_at, object_at}

pub data Symbol : Type 0 where
  predicate function : Name → Symbol

unfoldable mutual
  pub TermNames : Term → Symbol → Type 0
  TermNames (Var v) x = ⊥
  TermNames (Object o) x = ⊥
  TermNames (Fluent' f n ts) x = (x ≡ function f) ⊎ ArgumentsName ts x

  pub ArgumentsName : {n : _} → Row_of-Term n → Symbol → Type 0
  ArgumentsName end_of-Term x = ⊥
  ArgumentsName (more_of-Term t ts) x = TermNames t x ⊎ ArgumentsName ts x

abbrev pub TermsName : List Term → Symbol → Type 0
TermsName ts x = Somewhere (λ t. TermNames t x) ts

unfoldable pub ExprNames : Expr → Symbol → Type 0
ExprNames (Number n) x = ⊥
ExprNames (Fluent f ts) x = (x ≡ function f) ⊎ TermsName ts x
ExprNames (sum a b) x = ExprNames a x ⊎ ExprNames b x
ExprNames (difference a b) x = ExprNames a x ⊎ ExprNames b x
ExprNames (product a b) x = ExprNames a x ⊎ ExprNames b x
ExprNames (quotient a b) x = ExprNames a x ⊎ ExprNames b x

unfoldable mutual
  pub FormulaNames : Formula → Symbol → Type 0
  FormulaNames (And' n fs) x = MembersName fs x
  FormulaNames (Or' n fs) x = MembersName fs x
  FormulaNames (not f) x = FormulaNames f x
  FormulaNames (imply f g) x = FormulaNames f x ⊎ FormulaNames g x
  FormulaNames (exists vars f) x = FormulaNames f x
  FormulaNames (forall vars f) x = FormulaNames f x
  FormulaNames (Atom name ts) x = (x ≡ predicate name) ⊎ TermsName ts x
  FormulaNames (Equal t u) x = TermNames t x ⊎ TermNames u x
  FormulaNames (Compare r a b) x = ExprNames a x ⊎ ExprNames b x

  pub MembersName : {n : _} → Row_of-Formula n → Symbol → Type 0
  MembersName end_of-Formula x = ⊥
  MembersName (more_of-Formula f fs) x = FormulaNames f x ⊎ MembersName fs x

abbrev pub EffectNames : Effect → Symbol → Type 0
EffectNames (effect.Add name ts) x = (x ≡ predicate name) ⊎ TermsName ts x
EffectNames (effect.Delete name ts) x = (x ≡ predicate name) ⊎ TermsName ts x
EffectNames (effect.Number change f ts operand) x = (x ≡ function f) ⊎ TermsName ts x ⊎ ExprNames operand x
EffectNames (effect.Object f ts t) x = (x ≡ function f) ⊎ TermsName ts x ⊎ TermNames t x
EffectNames (effect.Undefine f ts) x = (x ≡ function f) ⊎ TermsName ts x

abbrev pub RowNames : Row → Symbol → Type 0
RowNames row x = FormulaNames row.when x ⊎ EffectNames row.effect x

abbrev pub ActionNames : Action → Symbol → Type 0
ActionNames a x = FormulaNames a.pre x ⊎ Somewhere (λ row. RowNames row x) a.rows

-- what the step's action names; a step of no action names nothing
abbrev pub StepNames : Parts → Step → Symbol → Type 0
StepNames p step x = IsSomeAnd (action_named p step.action) (λ a. ActionNames a x)

-- the predicate or function whose atoms or terms an effect changes
abbrev pub target : Effect → Symbol
target (effect.Add name ts) = predicate name
target (effect.Delete name ts) = predicate name
target (effect.Number change f ts operand) = function f
target (effect.Object f ts t) = function f
target (effect.Undefine f ts) = function f

-- an effect of the step's action changes some of its atoms or terms
abbrev pub StepChanges : Parts → Step → Symbol → Type 0
StepChanges p step x = IsSomeAnd (action_named p step.action) (λ a. Somewhere (λ row. x ≡ target row.effect) a.rows)

-- what the goal or an action names
abbrev pub ProblemNames : Parts → Symbol → Type 0
ProblemNames p x = FormulaNames p.goal x ⊎ Somewhere (λ a. ActionNames a x) p.actions

-- the states hold the same atoms of these predicates, and have the same numbers and objects at terms of these functions
pub record AgreeOn (Names : Symbol → Type 0) (s t : State) : Type 0 where
  pub atoms : (p : Name) → Names (predicate p) → (objects : List Name) → Holds s (ground p objects) ↔ Holds t (ground p objects)
  pub numbers : (f : Name) → Names (function f) → (objects : List Name) → number_at s (ground f objects) ≡ number_at t (ground f objects)
  pub values : (f : Name) → Names (function f) → (objects : List Name) → object_at s (ground f objects) ≡ object_at t (ground f objects)

abbrev pub AgreeOnAll : List Symbol → State → State → Type 0
AgreeOnAll symbols s t = AgreeOn (λ x. Member x symbols) s t

-- what the step's action names is among the symbols
abbrev pub AreNamed : Parts → Step → List Symbol → Type 0
AreNamed p step symbols = (x : Symbol) → StepNames p step x → Member x symbols

-- Laws of truth and of steps.
use Rattle.std.specs.Prelude.{◌≡◌, ◌⊎◌, ⊤, List, IsSome}
use Rattle.up_text.specs.Lists.{Every, Member}
use Rattle.up_tree.specs.declared.term.Term.{Term, Var, Object, Fluent'}
use Rattle.up_tree.specs.declared.formula.Formula.{Formula, And', Or', Atom, Equal, Compare, Row_of-Formula, end_of-Formula, more_of-Formula}
use Rattle.up_tree.specs.declared.problem.Parts.{Parts}
use Rattle.up_tree.specs.declared.problem.Step.{Step}
use Rattle.up_tree.specs.declared.truth.Truth.{Truth}
use Rattle.up_tree.specs.Nodes.{not, imply, exists, forall}
use Rattle.up_tree.specs.Objects.{World, Assignment, assign, tuples}
use Rattle.up_tree.specs.State.{State, Ground, Holds}
use Rattle.up_tree.specs.Truth.{True, False}
use Rattle.up_tree.specs.Judged.{Judges}
use Rattle.up_tree.specs.Instances.{Fired}
use Rattle.up_tree.specs.Changes.{added, of_firing, changed}
use Rattle.up_tree.specs.Faults.{CanTake, IsNext}

-- no formula is both true and false
abbrev pub NeverBoth : Type 0
NeverBoth = (w : World) (s : State) (e : Assignment) (f : Formula) → True w s e f → ¬ False w s e f

-- a formula is true, false or undefined, and one of them alone
pub record IsOne (w : World) (s : State) (e : Assignment) (f : Formula) : Type 0 where
  pub truth : Truth
  pub is : Judges w s e f truth
  pub alone : (other : Truth) → Judges w s e f other → other ≡ truth

abbrev pub AlwaysOne : Type 0
AlwaysOne = (w : World) (s : State) (e : Assignment) (f : Formula) → IsOne w s e f

-- a variable that is assigned, or an object
abbrev pub IsPlainTerm : Assignment → Term → Type 0
IsPlainTerm e (Var v) = IsSome (e v)
IsPlainTerm e (Object o) = ⊤
IsPlainTerm e (Fluent' f n ts) = ⊥

-- no comparison and no object function, and each variable is assigned
unfoldable mutual
  pub IsDefined : World → Assignment → Formula → Type 0
  IsDefined w e (And' n fs) = AreDefined w e fs
  IsDefined w e (Or' n fs) = AreDefined w e fs
  IsDefined w e (not f) = IsDefined w e f
  IsDefined w e (imply f g) = IsDefined w e f × IsDefined w e g
  IsDefined w e (exists vars f) = (tuple : List _) → Member tuple (tuples w vars) → IsDefined w (assign vars tuple e) f
  IsDefined w e (forall vars f) = (tuple : List _) → Member tuple (tuples w vars) → IsDefined w (assign vars tuple e) f
  IsDefined w e (Atom name ts) = Every (IsPlainTerm e) ts
  IsDefined w e (Equal t u) = IsPlainTerm e t × IsPlainTerm e u
  IsDefined w e (Compare r a b) = ⊥

  pub AreDefined : World → Assignment → {n : _} → Row_of-Formula n → Type 0
  AreDefined w e end_of-Formula = ⊤
  AreDefined w e (more_of-Formula f fs) = IsDefined w e f × AreDefined w e fs

-- such a formula is true or false
abbrev pub DefinedDecides : Type 0
DefinedDecides = (w : World) (s : State) (e : Assignment) (f : Formula) → IsDefined w e f → True w s e f ⊎ False w s e f

-- a step leaves one state at most
abbrev pub NextIsOne : Type 0
NextIsOne = (p : Parts) (s : State) (step : Step) (t u : State) → IsNext p s step t → IsNext p s step u → t ≡ u

-- a step that can be taken leaves a state
abbrev pub NextIsThere : Type 0
NextIsThere = (p : Parts) (s : State) (step : Step) → CanTake p s step → (t : State) × IsNext p s step t

-- an atom that is both deleted and added holds
abbrev pub AddWins : Type 0
AddWins = (s : State) (firing : List Fired) (a : Ground) → Member a (of_firing added s firing) → Holds (changed s firing) a

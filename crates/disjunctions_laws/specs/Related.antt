-- The states of a problem and of the one without disjunctions that go along with one another.
use Rattle.std.specs.Prelude.{◌≡◌, List, [], ◌∷◌}
use Rattle.up_text.specs.declared.name.Name.{Name}
use Rattle.up_tree.specs.declared.formula.Formula.{Formula}
use Rattle.up_tree.specs.declared.problem.Parts.{Parts}
use Rattle.up_tree.specs.State.{State, Holds, ground}
use Rattle.semantics_laws.specs.Symbols.{Symbol, predicate, AgreeOn}
use Rattle.step_laws.specs.StepLaw.{IsGoal}
use Rattle.disjunctions_laws.specs.Disjunctions.{goal_clauses, goal_fact}

-- any predicate or function but the fact
abbrev pub IsOther : Name → Symbol → Type 0
IsOther fact x = ¬ (x ≡ predicate fact)

-- the states are equal but for the goal fact, which is true only while the source's goal is
pub record GoalFact (p : Parts) (fact : Name) (s t : State) : Type 0 where
  pub agree : AgreeOn (IsOther fact) s t
  pub goal : Holds t (ground fact []) → IsGoal p s

-- where one clause of the goal is left the states are equal, and otherwise equal but for the goal fact
abbrev pub RelatedBy : Parts → List Formula → State → State → Type 0
RelatedBy p (goal ∷ []) s t = s ≡ t
RelatedBy p clauses s t = GoalFact p (goal_fact p) s t

abbrev pub AreRelated : Parts → State → State → Type 0
AreRelated p s t = RelatedBy p (goal_clauses p) s t

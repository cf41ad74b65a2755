-- The features that rewriting keeps, and those that it is known to gain.
use Rattle.std.specs.Prelude.{◌≡◌, ◌⊎◌, Bool, false, not as flip, IsTrue, ◌∷◌, map}
use Rattle.std.specs.List.{list_any}
use Rattle.up_text.specs.Lists.{Every, Somewhere}
use Rattle.up_tree.specs.declared.formula.Formula.{Formula}
use Rattle.up_tree.specs.declared.action.Row.{Row}
use Rattle.up_tree.specs.declared.action.Action.{Action}
use Rattle.up_tree.specs.Objects.{World}
use Rattle.up_tree.specs.Normal.{nnf}
use Rattle.up_tree.specs.Simplify.{Oracle, is_true_formula, is_false_formula, simplified}
use Rattle.up_kind.specs.Carried.{anywhere, is_not, is_disjunctive, is_equal, is_exists, is_forall, is_compare}

-- the test holds of the formula or of one inside it
abbrev pub Has : (Formula → Bool) → Formula → Type 0
Has test f = IsTrue (anywhere test f)

-- the first formula has it only where the second has
abbrev pub NoMore : (Formula → Bool) → Formula → Formula → Type 0
NoMore test g f = Has test g → Has test f

-- a normal form has `not` where the formula had `not`, `imply` or the like, and quantifiers may have changed under a `not`
pub record NormalCarries (f : Formula) : Type 0 where
  pub disjunctive : NoMore is_disjunctive (nnf f) f
  pub equalities : NoMore is_equal (nnf f) f
  pub comparisons : NoMore is_compare (nnf f) f
  pub negations : Has is_not (nnf f) → Has is_not f ⊎ Has is_disjunctive f
  pub existential : Has is_exists (nnf f) → Has is_exists f ⊎ (Has is_forall f × Has is_disjunctive f)
  pub universal : Has is_forall (nnf f) → Has is_forall f ⊎ (Has is_exists f × Has is_disjunctive f)

-- of a simplified formula; `false` is an `or` with no members
pub record SimplifiedCarries (w : World) (oracle : Oracle) (f : Formula) : Type 0 where
  pub negations : NoMore is_not (simplified w oracle f) f
  pub equalities : NoMore is_equal (simplified w oracle f) f
  pub existential : NoMore is_exists (simplified w oracle f) f
  pub universal : NoMore is_forall (simplified w oracle f) f
  pub comparisons : NoMore is_compare (simplified w oracle f) f
  pub disjunctive : is_false_formula (simplified w oracle f) ≡ false → NoMore is_disjunctive (simplified w oracle f) f

-- some condition of the action has it
abbrev pub ActionHas : (Formula → Bool) → Action → Type 0
ActionHas test a = IsTrue (list_any (anywhere test) (a.pre ∷ map (λ r. r.when) a.rows))

-- a row with its condition simplified
pub record IsSimpleRow (w : World) (oracle : Oracle) (q r : Row) : Type 0 where
  pub vars : q.vars ≡ r.vars
  pub effect : q.effect ≡ r.effect
  pub when : q.when ≡ simplified w oracle r.when
  pub possible : is_false_formula q.when ≡ false

-- of an action that simplification gives
pub record ActionCarries (w : World) (oracle : Oracle) (b a : Action) : Type 0 where
  pub name : b.name ≡ a.name
  pub params : b.params ≡ a.params
  pub rows : Every (λ q. Somewhere (λ r. IsSimpleRow w oracle q r) a.rows) b.rows
  pub negations : ActionHas is_not b → ActionHas is_not a
  pub disjunctive : ActionHas is_disjunctive b → ActionHas is_disjunctive a
  pub equalities : ActionHas is_equal b → ActionHas is_equal a
  pub existential : ActionHas is_exists b → ActionHas is_exists a
  pub universal : ActionHas is_forall b → ActionHas is_forall a
  pub comparisons : ActionHas is_compare b → ActionHas is_compare a
  pub conditional : IsTrue (list_any (λ r. flip (is_true_formula r.when)) b.rows) → IsTrue (list_any (λ r. flip (is_true_formula r.when)) a.rows)

-- The guards by which rows don't meet, and what keeps them.
use Rattle.std.specs.Prelude.{◌≡◌, ◌⊎◌, Bool, false, not as flip, IsTrue}
use Rattle.up_text.specs.Names.{same_name}
use Rattle.up_text.specs.Lists.{Every, Somewhere}
use Rattle.up_tree.specs.declared.term.Term.{Term, Object}
use Rattle.up_tree.specs.declared.formula.Formula.{Formula}
use Rattle.up_tree.specs.declared.action.Row.{Row}
use Rattle.up_tree.specs.declared.action.Action.{Action}
use Rattle.up_kind.specs.Meeting.{is_guarded}

-- two objects of different names
abbrev pub are_apart : Term → Term → Bool
are_apart (Object o) (Object q) = flip (same_name o q)
are_apart s t = false

-- what the one formula tells apart, the other does, or it is two objects anyway
abbrev pub KeepsGuards : Formula → Formula → Type 0
KeepsGuards f g = (s t : Term) → IsTrue (is_guarded f s t) → IsTrue (are_apart s t) ⊎ IsTrue (is_guarded g s t)

-- rows of one effect over the same variables
pub record IsRowOf (q r : Row) : Type 0 where
  pub vars : q.vars ≡ r.vars
  pub effect : q.effect ≡ r.effect

-- rows of the other action alone, its parameters, and all its guards
pub record IsGuardedAs (b a : Action) : Type 0 where
  pub params : b.params ≡ a.params
  pub guards : KeepsGuards a.pre b.pre
  pub rows : Every (λ q. Somewhere (λ r. IsRowOf q r) a.rows) b.rows

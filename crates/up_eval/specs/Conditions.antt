-- A condition at each of some tuples of its variables' objects.
use Rattle.std.specs.Prelude.{List, map}
use Rattle.up_text.specs.declared.name.Name.{Name}
use Rattle.up_text.specs.Lists.{Somewhere}
use Rattle.up_tree.specs.declared.term.Typed.{Typed}
use Rattle.up_tree.specs.declared.formula.Formula.{Formula}
use Rattle.up_tree.specs.declared.truth.Truth.{Truth}
use Rattle.up_tree.specs.Objects.{World, Assignment, assign}
use Rattle.up_tree.specs.State.{State}
use Rattle.up_tree.specs.Judged.{truth_of}
use Rattle.up_tree.specs.Big.{BigFormula}

-- what it is at each
abbrev pub truths_at : World → State → Assignment → List Typed → Formula → List (List Name) → List Truth
truths_at w s e vars f tuples = map (λ tuple. truth_of w s (assign vars tuple e) f) tuples

-- at one of them a numeric expression is past the bound
abbrev pub SomeBigAt : World → State → Assignment → List Typed → Formula → List (List Name) → Type 0
SomeBigAt w s e vars f tuples = Somewhere (λ tuple. BigFormula w s (assign vars tuple e) f) tuples

-- Truth at each node as code builds it.
use Rattle.std.proofs.Common.{◌≡◌, ◌⊎◌, List, refl, ap, ◌∙◌}
use Rattle.up_text.specs.Lists.{Every, Somewhere}
use Rattle.up_tree.specs.declared.formula.Formula.{Formula, And, Or, Not, Imply, Row_of-Formula, end_of-Formula, more_of-Formula, items-the_row-Formula, items_hidden-the_row-Formula-0}
use Rattle.up_tree.specs.declared.formula.Formula.TheBlock.{hidden-the_row-Formula-0}
use Rattle.up_tree.specs.Nodes.{built}
use Rattle.up_tree.specs.Objects.{World, Assignment}
use Rattle.up_tree.specs.State.{State}
use Rattle.up_tree.specs.Truth.{True, False, AllTrue, SomeTrue, AllFalse, SomeFalse}

module _ (w : World) (s : State) (e : Assignment) where
  AllTrue-items : {n : _} (fs : Row_of-Formula n) → AllTrue w s e fs ≡ Every (True w s e) (items-the_row-Formula _ fs)
  unfolding AllTrue
  AllTrue-items end_of-Formula = refl
  AllTrue-items (more_of-Formula f fs) = ap (λ X. True w s e f × X) (AllTrue-items fs)

  SomeTrue-items : {n : _} (fs : Row_of-Formula n) → SomeTrue w s e fs ≡ Somewhere (True w s e) (items-the_row-Formula _ fs)
  unfolding SomeTrue
  SomeTrue-items end_of-Formula = refl
  SomeTrue-items (more_of-Formula f fs) = ap (λ X. True w s e f ⊎ X) (SomeTrue-items fs)

  AllFalse-items : {n : _} (fs : Row_of-Formula n) → AllFalse w s e fs ≡ Every (False w s e) (items-the_row-Formula _ fs)
  unfolding AllFalse
  AllFalse-items end_of-Formula = refl
  AllFalse-items (more_of-Formula f fs) = ap (λ X. False w s e f × X) (AllFalse-items fs)

  SomeFalse-items : {n : _} (fs : Row_of-Formula n) → SomeFalse w s e fs ≡ Somewhere (False w s e) (items-the_row-Formula _ fs)
  unfolding SomeFalse
  SomeFalse-items end_of-Formula = refl
  SomeFalse-items (more_of-Formula f fs) = ap (λ X. False w s e f ⊎ X) (SomeFalse-items fs)

  pub True-And : (fs : List Formula) → True w s e (And fs) ≡ Every (True w s e) fs
  unfolding True
  True-And fs = AllTrue-items (hidden-the_row-Formula-0 fs) ∙ ap (Every (True w s e)) (items_hidden-the_row-Formula-0 fs)

  pub True-Or : (fs : List Formula) → True w s e (Or fs) ≡ Somewhere (True w s e) fs
  unfolding True
  True-Or fs = SomeTrue-items (hidden-the_row-Formula-0 fs) ∙ ap (Somewhere (True w s e)) (items_hidden-the_row-Formula-0 fs)

  pub False-And : (fs : List Formula) → False w s e (And fs) ≡ Somewhere (False w s e) fs
  unfolding False
  False-And fs = SomeFalse-items (hidden-the_row-Formula-0 fs) ∙ ap (Somewhere (False w s e)) (items_hidden-the_row-Formula-0 fs)

  pub False-Or : (fs : List Formula) → False w s e (Or fs) ≡ Every (False w s e) fs
  unfolding False
  False-Or fs = AllFalse-items (hidden-the_row-Formula-0 fs) ∙ ap (Every (False w s e)) (items_hidden-the_row-Formula-0 fs)

  pub True-Not : (f : Formula) → True w s e (Not f) ≡ False w s e f
  unfolding True False built
  True-Not f = refl

  pub False-Not : (f : Formula) → False w s e (Not f) ≡ True w s e f
  unfolding True False built
  False-Not f = refl

  pub True-Imply : (f g : Formula) → True w s e (Imply f g) ≡ (False w s e f ⊎ True w s e g)
  unfolding True False built
  True-Imply f g = refl

  pub False-Imply : (f g : Formula) → False w s e (Imply f g) ≡ (True w s e f × False w s e g)
  unfolding True False built
  False-Imply f g = refl

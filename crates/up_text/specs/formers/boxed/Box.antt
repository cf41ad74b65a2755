-- A box as a type that may hold the type that holds it: it stores what its value stores.
use mathlib.Core.Path.{refl}
use mathlib.Core.Former.{Former, this, via}
use denote.RattleType.{RattleType}
use denote.HoleLaws.{Alike}
use denote.HolePlaces.{Recodes, struct_places, laid}
use denote.Hole.Fix.{over}
use denote.Param.Weighed.{Weighed}
use denote.Model.Placed.{view_places}
use Rattle.sqlite_items.specs.formers.boxed.Boxed as held
use Rattle.up_text.specs.declared.boxed.Box.TheInside.{Inside}
use Rattle.up_text.specs.declared.boxed.Box.TheView.{view, invariant}
use Rattle.up_text.specs.contracts.boxed.Box as whole
use Rattle.up_text.specs.contracts.boxed.Box.TheInside as inside

abbrev pub the_former : Former {0} → Former {0}
the_former g = g

abbrev pub the_weighed : {g : Former {0}} → Weighed g → Weighed (the_former g)
the_weighed w = w

-- the one field
abbrev field : Former {0}
field = via (held.the_former this) Inside (λ X a. a.inner) (λ X v. record { inner = v }) (λ X a. refl) (λ X v. refl)

module _ (R S : RattleType) (h : R.Denot → S.Denot) where
  pub the_codes_placed : Recodes R S h → Recodes (whole.the_row R) (whole.the_row S) ((the_former this).map R.Denot S.Denot h)
  the_codes_placed same x = same x

  pub the_places : Alike R S h → Alike (whole.the_row R) (whole.the_row S) ((the_former this).map R.Denot S.Denot h)
  the_places alike = view_places field this view (λ X Y k a. refl) (λ X a. refl) R.Denot S.Denot h (whole.the_row R).coded (whole.the_row S).coded
      (invariant R.Denot) (invariant S.Denot) (λ a p q. refl) (λ a p q. refl) (λ a e. tt) (λ a e. tt)
      (over (inside.the_row R)) (over (inside.the_row S))
      (struct_places (inside.the_type R) (inside.the_type S) (h, tt) _ (λ a. refl) refl (laid _ _ _ (held.the_places R S h alike), tt))

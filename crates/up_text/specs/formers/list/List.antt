-- A list as a type that may hold the type that holds it: it stores what its items store.
use mathlib.Core.Path.{◌≡◌, refl, sym}
use mathlib.Core.List.{List, []}
use mathlib.Core.Former.{Former, this, list, via, children}
use base.Stored.{code_map}
use denote.RattleType.{RattleType}
use denote.HoleLaws.{Alike}
use denote.HolePlaces.{Recodes, struct_places, laid}
use denote.Hole.Carrier.{listed, list-listed}
use denote.Hole.Fix.{over}
use denote.Param.Weighed.{Weighed, w_list}
use denote.Model.Placed.{view_places}
use Rattle.sqlite_items.specs.formers.items.Items as held
use Rattle.up_text.specs.declared.list.List.TheInside.{Inside}
use Rattle.up_text.specs.declared.list.List.TheView.{view, invariant}
use Rattle.up_text.specs.contracts.list.List as whole
use Rattle.up_text.specs.contracts.list.List.TheInside as inside

abbrev pub the_former : Former {0} → Former {0}
the_former g = list g

abbrev pub the_weighed : {g : Former {0}} → Weighed g → Weighed (the_former g)
the_weighed w = w_list w

abbrev pub the_items : (X : Type 0) → List X → List X
the_items X xs = xs

pub the_items_listed : (X : Type 0) (xs : List X) → listed _ (children (the_former this) X xs) ≡ the_items X xs
the_items_listed X xs = list-listed X xs

pub the_empty : List ⊥
the_empty = []

-- the one field
abbrev field : Former {0}
field = via (held.the_former this) Inside (λ X a. a.items) (λ X v. record { items = v }) (λ X a. refl) (λ X v. refl)

module _ (R S : RattleType) (h : R.Denot → S.Denot) where
  pub the_codes_placed : Recodes R S h → Recodes (whole.the_row R) (whole.the_row S) ((the_former this).map R.Denot S.Denot h)
  the_codes_placed same xs = sym (code_map R.coded.code S.coded.code h (λ x. sym (same x)) xs)

  pub the_places : Alike R S h → Alike (whole.the_row R) (whole.the_row S) ((the_former this).map R.Denot S.Denot h)
  the_places alike = view_places field (list this) view (λ X Y k a. refl) (λ X a. refl) R.Denot S.Denot h (whole.the_row R).coded (whole.the_row S).coded
      (invariant R.Denot) (invariant S.Denot) (λ a p q. refl) (λ a p q. refl) (λ a e. tt) (λ a e. tt)
      (over (inside.the_row R)) (over (inside.the_row S))
      (struct_places (inside.the_type R) (inside.the_type S) ((held.the_former this).map R.Denot S.Denot h, tt) _ (λ a. refl) refl
      (laid _ _ _ (held.the_places R S h alike), tt))

-- A fresh key and its value have been read.
use Rattle.std.proofs.Common.{◌≡◌, List, [], ◌∷◌, refl, sym, ◌∙◌}
use Rattle.up_text.specs.declared.place.Place.{Place}
use Rattle.pddl_lex.specs.Parses.{Parse, parsed, rejected, over, over_two}
use Rattle.pddl_lex.specs.declared.tree.Sexp.{Sexp}
use Rattle.pddl_parse.specs.declared.action.ActionKey.{ActionKey}
use Rattle.pddl_parse.specs.declared.action.ActionKeys.{ActionKeys}
use Rattle.pddl_parse.specs.declared.action.ActionPart.{ActionPart}
use Rattle.pddl_parse.specs.declared.action.ActionParts.{ActionParts}
use Rattle.pddl_parse.specs.Actions.{put, filled, fresh_key, with_key, part_of, lacks_value, parts}
use Rattle.pddl_parse.proofs.Filling.{lacks_stale, parts_stale, filled_more}
use Rattle.pddl_parse.proofs.Steps.{first_over, first_two}

pub lacks_on : (keys new : ActionKeys) (tree value : Sexp) (k : ActionKey) (rest behind others : List Sexp)
    → rest ≡ tree ∷ behind → behind ≡ value ∷ others → fresh_key keys tree ≡ parsed k → new ≡ with_key keys k
    → lacks_value keys rest ≡ lacks_value new others
lacks_on keys new tree value k rest behind others one two e more = rw (one, two, more, e) refl

pub parts_on : (action new : ActionParts) (place : Place) (keys taken : ActionKeys) (tree value : Sexp) (k : ActionKey) (p : ActionPart) (rest behind others : List Sexp)
    → rest ≡ tree ∷ behind → behind ≡ value ∷ others → fresh_key keys tree ≡ parsed k → taken ≡ with_key keys k
    → part_of k value ≡ parsed p → new ≡ put action p
    → over (filled action) (parts place keys rest) ≡ over (filled new) (parts place taken others)
parts_on action new place keys taken tree value k p rest behind others one two e more r made =
    rw (one, two, more, made, e, r) (filled_more action p (parts place (with_key keys k) others))

pub ruleset pairing = (lacks_on, parts_on, lacks_stale, parts_stale, filled_more, first_over, first_two)

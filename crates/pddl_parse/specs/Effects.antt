-- Effects of bracket trees.
use Rattle.std.specs.Prelude.{ℕ, Bool, true, false, if◌then◌else◌, List, [], ◌∷◌, map, drop, codes}
use Rattle.std.specs.Str.{bytes_eq}
use Rattle.up_text.specs.declared.place.Place.{Place}
use Rattle.pddl_lex.specs.Trees.{place_of}
use Rattle.pddl_lex.specs.declared.tree.TokenKind.{TokenKind}
use Rattle.pddl_lex.specs.declared.tree.TokenKind.TheVariants as kind
use Rattle.pddl_lex.specs.declared.tree.Sexp.{Sexp, Leaf, Group', Row_of-Sexp, end_of-Sexp, more_of-Sexp, items-the_row-Sexp}
use Rattle.pddl_lex.specs.Parses.{Parse, parsed, rejected, all, over, over_two, followed}
use Rattle.pddl_parse.specs.declared.raw.Ident.{Ident}
use Rattle.pddl_parse.specs.declared.raw.RawTerm.{RawTerm}
use Rattle.pddl_parse.specs.declared.raw.RawCall.{RawCall}
use Rattle.pddl_parse.specs.declared.raw.RawChange.{RawChange}
use Rattle.pddl_parse.specs.declared.raw.RawChange.TheVariants as change
use Rattle.pddl_parse.specs.declared.raw.RawEffect.{RawEffect, And, Forall, When, Add, Delete, Change, Undefine}
use Rattle.pddl_parse.specs.declared.head.EffectHead.{EffectHead}
use Rattle.pddl_parse.specs.declared.head.EffectHead.TheVariants as head
use Rattle.pddl_parse.specs.declared.effect.NewValue.{NewValue}
use Rattle.pddl_parse.specs.declared.effect.NewValue.TheVariants as new
use Rattle.pddl_parse.specs.declared.shape.ShapeError.TheVariants.{Expected}
use Rattle.pddl_parse.specs.Shapes.{Read, misfit_token, ident, extra, one, two}
use Rattle.pddl_parse.specs.Terms.{term}
use Rattle.pddl_parse.specs.TypedLists.{variables}
use Rattle.pddl_parse.specs.Formulas.{formula}
use Rattle.pddl_parse.specs.Brackets.{bracket, is_word, or_empty}

abbrev pub call_of : Place → Ident → List RawTerm → RawCall
call_of place name args = record { place = place; name = name; args = args }

abbrev pub in_call : Place → List Sexp → Read RawCall
in_call place [] = rejected (Expected place) []
in_call place (head ∷ rest) = over_two (call_of place) (ident head) (all (map term rest))

-- a name at arguments
abbrev pub call : Sexp → Read RawCall
call tree = bracket in_call tree

abbrev pub effect_word : List ℕ → EffectHead
effect_word word =
    if bytes_eq word (codes "and") then head.And else
    if bytes_eq word (codes "forall") then head.Forall else
    if bytes_eq word (codes "when") then head.When else
    if bytes_eq word (codes "not") then head.Not else
    if bytes_eq word (codes "assign") then head.Change change.Assign else
    if bytes_eq word (codes "increase") then head.Change change.Increase else
    if bytes_eq word (codes "decrease") then head.Change change.Decrease else
    if bytes_eq word (codes "scale-up") then head.Change change.ScaleUp else
    if bytes_eq word (codes "scale-down") then head.Change change.ScaleDown else head.Other

abbrev pub effect_kind : TokenKind → EffectHead
effect_kind (kind.Word word) = effect_word word
effect_kind _ = head.Other

-- what an effect's first tree says of it
unfoldable pub effect_head : Sexp → EffectHead
effect_head (Leaf token) = effect_kind token.kind
effect_head (Group' place n row) = head.Other

-- the value of an assignment may be `undefined`
abbrev pub is_undefined : RawChange → Sexp → Bool
is_undefined change.Assign tree = is_word (codes "undefined") tree
is_undefined _ tree = false

abbrev pub new_value : RawChange → Sexp → Read NewValue
new_value c tree = if is_undefined c tree then parsed (new.Undefined (place_of tree)) else over new.Value (term tree)

abbrev pub changed : RawChange → RawCall → NewValue → RawEffect
changed c target (new.Value value) = Change c target value
changed c target (new.Undefined place) = Undefine target place

abbrev pub change_effect : Place → RawChange → List Sexp → Read RawEffect
change_effect place c rest = followed (two place (changed c) (map call rest) (map (new_value c) rest)) (extra (drop 2 rest))

abbrev pub deletion : Place → List Sexp → Read RawEffect
deletion place rest = followed (over Delete (one place (map call rest))) (extra (drop 1 rest))

abbrev pub for_all : Place → List Sexp → List (Read RawEffect) → Read RawEffect
for_all place rest each = followed (two place (λ vars e. Forall vars e) (map variables rest) each) (extra (drop 2 rest))

abbrev pub conditional : Place → List Sexp → List (Read RawEffect) → Read RawEffect
conditional place rest each = followed (two place (λ f e. When f e) (map formula rest) each) (extra (drop 2 rest))

abbrev pub by_effect_head : EffectHead → Place → Sexp → List Sexp → List (Read RawEffect) → Read RawEffect
by_effect_head head.And place first rest each = over And (all each)
by_effect_head head.Forall place first rest each = for_all place rest each
by_effect_head head.When place first rest each = conditional place rest each
by_effect_head head.Not place first rest each = deletion place rest
by_effect_head (head.Change c) place first rest each = change_effect place c rest
by_effect_head head.Other place first rest each = over Add (in_call place (first ∷ rest))

-- a bracket with these trees, which are read as these effects where they are effects
abbrev pub in_effect : Place → List Sexp → List (Read RawEffect) → Read RawEffect
in_effect place [] each = rejected (Expected place) []
in_effect place (first ∷ rest) each = by_effect_head (effect_head first) place first rest (drop 1 each)

unfoldable mutual
  pub effect : Sexp → Read RawEffect
  effect (Leaf token) = rejected (misfit_token token.place token) []
  effect (Group' place n row) = in_effect place (items-the_row-Sexp _ row) (effects row)

  pub effects : {n : _} → Row_of-Sexp n → List (Read RawEffect)
  effects end_of-Sexp = []
  effects (more_of-Sexp tree row) = effect tree ∷ effects row

-- the effect of an action
abbrev pub whole_effect : Sexp → Read RawEffect
whole_effect tree = or_empty (And []) (effect tree) tree

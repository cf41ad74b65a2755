-- Actions of bracket trees.
use Rattle.std.specs.Prelude.{ℕ, Bool, true, false, ◌&&◌, if◌then◌else◌, List, [], ◌∷◌, codes}
use Rattle.std.specs.Str.{bytes_eq}
use Rattle.up_text.specs.declared.place.Place.{Place}
use Rattle.pddl_lex.specs.Trees.{place_of}
use Rattle.pddl_lex.specs.declared.tree.TokenKind.{TokenKind}
use Rattle.pddl_lex.specs.declared.tree.TokenKind.TheVariants as kind
use Rattle.pddl_lex.specs.declared.tree.Sexp.{Sexp, Leaf, Group'}
use Rattle.pddl_lex.specs.Parses.{Parse, parsed, rejected, over, over_two, behind}
use Rattle.pddl_parse.specs.declared.raw.Ident.{Ident}
use Rattle.pddl_parse.specs.declared.raw.RawAction.{RawAction}
use Rattle.pddl_parse.specs.declared.raw.RawFormula.{RawFormula}
use Rattle.pddl_parse.specs.declared.raw.RawFormula as formula
use Rattle.pddl_parse.specs.declared.raw.RawEffect as effect
use Rattle.pddl_parse.specs.declared.action.ActionKey.{ActionKey}
use Rattle.pddl_parse.specs.declared.action.ActionKey.TheVariants as key
use Rattle.pddl_parse.specs.declared.action.ActionHead.{ActionHead}
use Rattle.pddl_parse.specs.declared.action.ActionHead.TheVariants as head
use Rattle.pddl_parse.specs.declared.action.ActionKeys.{ActionKeys}
use Rattle.pddl_parse.specs.declared.action.ActionPart.{ActionPart}
use Rattle.pddl_parse.specs.declared.action.ActionPart.TheVariants as chosen
use Rattle.pddl_parse.specs.declared.action.ActionParts.{ActionParts}
use Rattle.pddl_parse.specs.declared.shape.ShapeError.TheVariants.{Expected, LeftOut, Duplicate}
use Rattle.pddl_parse.specs.Shapes.{Read, misfit, ident, lacking}
use Rattle.pddl_parse.specs.TypedLists.{variables}
use Rattle.pddl_parse.specs.Formulas as formulas
use Rattle.pddl_parse.specs.Effects.{whole_effect}
use Rattle.pddl_parse.specs.Brackets.{or_empty}

-- a condition as the whole value of a key or a section
abbrev pub condition : Sexp → Read RawFormula
condition tree = or_empty (formula.And []) (formulas.formula tree) tree

abbrev pub key_word : List ℕ → ActionHead
key_word word =
    if bytes_eq word (codes "parameters") then head.Key key.Parameters else
    if bytes_eq word (codes "precondition") then head.Key key.Precondition else
    if bytes_eq word (codes "effect") then head.Key key.Effect else head.Unknown

abbrev pub key_kind : TokenKind → ActionHead
key_kind (kind.Keyword word) = key_word word
key_kind _ = head.NoKey

-- the key that a tree is
unfoldable pub action_head : Sexp → ActionHead
action_head (Leaf token) = key_kind token.kind
action_head (Group' place n row) = head.NoKey

abbrev pub no_keys : ActionKeys
no_keys = record { parameters = false; precondition = false; effect = false }

abbrev pub has_key : ActionKeys → ActionKey → Bool
has_key keys key.Parameters = keys.parameters
has_key keys key.Precondition = keys.precondition
has_key keys key.Effect = keys.effect

abbrev pub with_key : ActionKeys → ActionKey → ActionKeys
with_key keys key.Parameters = record { parameters = true; precondition = keys.precondition; effect = keys.effect }
with_key keys key.Precondition = record { parameters = keys.parameters; precondition = true; effect = keys.effect }
with_key keys key.Effect = record { parameters = keys.parameters; precondition = keys.precondition; effect = true }

abbrev pub by_head : ActionHead → ActionKeys → Sexp → Read ActionKey
by_head (head.Key k) keys tree = if has_key keys k then rejected (Duplicate (place_of tree)) [] else parsed k
by_head head.Unknown keys tree = rejected (LeftOut (place_of tree)) []
by_head head.NoKey keys tree = rejected (misfit tree) []

-- a key that hasn't stood before
abbrev pub fresh_key : ActionKeys → Sexp → Read ActionKey
fresh_key keys tree = by_head (action_head tree) keys tree

abbrev pub is_fresh : Read ActionKey → Bool
is_fresh (parsed k) = true
is_fresh (rejected f fs) = false

abbrev pub taken : ActionKeys → Read ActionKey → ActionKeys
taken keys (parsed k) = with_key keys k
taken keys (rejected f fs) = keys

-- keys and values alternate, and a fresh key has no value
abbrev pub lacks_value : ActionKeys → List Sexp → Bool
lacks_value keys [] = false
lacks_value keys (key ∷ []) = is_fresh (fresh_key keys key)
lacks_value keys (key ∷ value ∷ rest) = is_fresh (fresh_key keys key) && lacks_value (taken keys (fresh_key keys key)) rest

abbrev pub part_of : ActionKey → Sexp → Read ActionPart
part_of key.Parameters tree = over chosen.Parameters (variables tree)
part_of key.Precondition tree = over chosen.Precondition (condition tree)
part_of key.Effect tree = over chosen.Effect (whole_effect tree)

abbrev pub part : Read ActionKey → Sexp → Read ActionPart
part (parsed k) value = part_of k value
part (rejected f fs) value = rejected f fs

abbrev pub alone : Read ActionKey → Place → Read (List ActionPart)
alone (parsed k) place = rejected (Expected place) []
alone (rejected f fs) place = rejected f fs

-- keys with their values, behind these keys
abbrev pub parts : Place → ActionKeys → List Sexp → Read (List ActionPart)
parts place keys [] = parsed []
parts place keys (key ∷ []) = alone (fresh_key keys key) place
parts place keys (key ∷ value ∷ rest) =
    over_two (λ p ps. p ∷ ps) (part (fresh_key keys key) value) (parts place (taken keys (fresh_key keys key)) rest)

abbrev pub put : ActionParts → ActionPart → ActionParts
put action (chosen.Parameters params) = record { name = action.name; params = params; pre = action.pre; effect = action.effect }
put action (chosen.Precondition pre) = record { name = action.name; params = action.params; pre = pre; effect = action.effect }
put action (chosen.Effect effect) = record { name = action.name; params = action.params; pre = action.pre; effect = effect }

abbrev pub filled : ActionParts → List ActionPart → ActionParts
filled action [] = action
filled action (p ∷ ps) = filled (put action p) ps

-- an action without keys
abbrev pub bare : Ident → ActionParts
bare name = record { name = name; params = []; pre = formula.And []; effect = effect.And [] }

abbrev pub as_action : ActionParts → RawAction
as_action it = record { name = it.name; params = it.params; pre = it.pre; effect = it.effect }

-- what stands in an action's bracket behind `:action`
abbrev pub action : Place → List Sexp → Read RawAction
action place [] = rejected (Expected place) []
action place (name ∷ rest) =
    behind (lacking (lacks_value no_keys rest) place)
    (over as_action (over_two (λ it ps. filled (bare it) ps) (ident name) (parts place no_keys rest)))

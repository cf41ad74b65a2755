-- Typed lists of names and of variables.
use Rattle.std.specs.Prelude.{Bool, true, false, if◌then◌else◌, List, [], ◌∷◌, ◌++◌, Some, None}
use Rattle.up_text.specs.declared.place.Place.{Place}
use Rattle.pddl_lex.specs.declared.tree.Sign.{Sign}
use Rattle.pddl_lex.specs.declared.tree.Sign.TheVariants as sign
use Rattle.pddl_lex.specs.declared.tree.TokenKind.{TokenKind}
use Rattle.pddl_lex.specs.declared.tree.TokenKind.TheVariants as kind
use Rattle.pddl_lex.specs.declared.tree.Sexp.{Sexp, Leaf, Group', items-the_row-Sexp}
use Rattle.pddl_lex.specs.Parses.{Parse, parsed, rejected, faults, over_two, behind}
use Rattle.pddl_parse.specs.declared.raw.Ident.{Ident}
use Rattle.pddl_parse.specs.declared.raw.RawGroup.{RawGroup}
use Rattle.pddl_parse.specs.declared.typed.Item.{Item}
use Rattle.pddl_parse.specs.declared.typed.Item.TheVariants as item
use Rattle.pddl_parse.specs.declared.shape.ShapeError.TheVariants.{Expected}
use Rattle.pddl_parse.specs.Brackets.{short}
use Rattle.pddl_parse.specs.Shapes.{Read, misfit, misfit_token, ident, variable, lacking}

abbrev pub is_minus_kind : TokenKind → Bool
is_minus_kind (kind.Sign sign.Minus) = true
is_minus_kind _ = false

unfoldable pub is_minus : Sexp → Bool
is_minus (Leaf token) = is_minus_kind token.kind
is_minus (Group' place n row) = false

abbrev pub ends_after : Bool → List Sexp → Bool
ends_after ends [] = ends
ends_after ends (tree ∷ rest) = ends_after (is_minus tree) rest

abbrev pub ends_in_minus : List Sexp → Bool
ends_in_minus items = ends_after false items

abbrev pub listed : Item → Sexp → Read Ident
listed item.Name tree = ident tree
listed item.Variable tree = variable tree

-- how the rest of a list is read behind names that have no type yet, where a type is due or not
abbrev pub Go : Type 0
Go = List Ident → Bool → Read (List RawGroup)

-- at the end, where a type is due or not
abbrev pub last_group : Place → List Ident → Bool → Read (List RawGroup)
last_group place names true = rejected (Expected place) []
last_group place [] false = parsed []
last_group place (name ∷ names) false = parsed (record { names = name ∷ names; of = None } ∷ [])

abbrev pub on_minus : Sexp → List Ident → Go → Read (List RawGroup)
on_minus tree [] go = behind (misfit tree ∷ []) (go [] true)
on_minus tree (name ∷ names) go = go (name ∷ names) true

abbrev pub on_name : Read Ident → List Ident → Go → Read (List RawGroup)
on_name (parsed name) names go = go (names ++ name ∷ []) false
on_name (rejected f fs) names go = behind (f ∷ fs) (go names false)

abbrev pub typed_step : Item → Sexp → List Ident → Bool → Go → Read (List RawGroup)
typed_step what tree names true go = over_two (λ t groups. record { names = names; of = Some t } ∷ groups) (ident tree) (go [] false)
typed_step what tree names false go = if is_minus tree then on_minus tree names go else on_name (listed what tree) names go

-- what follows names that have no type yet, where a type is due or not
abbrev pub typed : Item → Place → List Sexp → List Ident → Bool → Read (List RawGroup)
typed what place [] names due = last_group place names due
typed what place (tree ∷ rest) names due = typed_step what tree names due (typed what place rest)

-- the items of a section at this place
abbrev pub typed_list : Item → Place → List Sexp → Read (List RawGroup)
typed_list what place items = behind (lacking (ends_in_minus items) place) (typed what place items [] false)

abbrev pub variable_list : Place → List Sexp → Read (List RawGroup)
variable_list place items = behind (short (ends_in_minus items) place items) (typed item.Variable place items [] false)

-- variables in a bracket
unfoldable pub variables : Sexp → Read (List RawGroup)
variables (Leaf token) = rejected (misfit_token token.place token) []
variables (Group' place n row) = variable_list place (items-the_row-Sexp _ row)

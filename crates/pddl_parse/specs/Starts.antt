-- Initial states and metrics.
use Rattle.std.specs.Prelude.{ℕ, Bool, true, false, if◌then◌else◌, List, [], ◌∷◌, map, drop, codes}
use Rattle.up_text.specs.declared.place.Place.{Place}
use Rattle.pddl_lex.specs.declared.tree.Sign.TheVariants as sign
use Rattle.pddl_lex.specs.declared.tree.TokenKind.{TokenKind}
use Rattle.pddl_lex.specs.declared.tree.TokenKind.TheVariants as kind
use Rattle.pddl_lex.specs.declared.tree.Sexp.{Sexp, Leaf, Group'}
use Rattle.pddl_lex.specs.Parses.{Parse, parsed, rejected, all, over, over_two, followed}
use Rattle.pddl_parse.specs.declared.raw.Ident.{Ident}
use Rattle.pddl_parse.specs.declared.raw.RawTerm.{RawTerm}
use Rattle.pddl_parse.specs.declared.raw.RawGround.{RawGround}
use Rattle.pddl_parse.specs.declared.raw.RawValue.{RawValue}
use Rattle.pddl_parse.specs.declared.raw.RawValue.TheVariants as «value»
use Rattle.pddl_parse.specs.declared.raw.RawInit.{RawInit}
use Rattle.pddl_parse.specs.declared.raw.RawInit.TheVariants.{Atom, Absent, Value}
use Rattle.pddl_parse.specs.declared.raw.RawMetric.{RawMetric}
use Rattle.pddl_parse.specs.declared.head.InitHead.{InitHead}
use Rattle.pddl_parse.specs.declared.head.InitHead.TheVariants as head
use Rattle.pddl_parse.specs.declared.shape.ShapeError.TheVariants.{Expected}
use Rattle.pddl_parse.specs.Shapes.{Read, misfit, kind_ident, ident, extra, one, two}
use Rattle.pddl_parse.specs.Terms.{term}
use Rattle.pddl_parse.specs.Brackets.{bracket, is_word}

abbrev pub ground_of : Place → Ident → List Ident → RawGround
ground_of place name args = record { place = place; name = name; args = args }

abbrev pub in_ground : Place → List Sexp → Read RawGround
in_ground place [] = rejected (Expected place) []
in_ground place (head ∷ rest) = over_two (ground_of place) (ident head) (all (map ident rest))

-- a name at names
abbrev pub ground : Sexp → Read RawGround
ground tree = bracket in_ground tree

abbrev pub kind_value : Place → TokenKind → Read RawValue
kind_value place (kind.Number number) = parsed (value.Number place number)
kind_value place k = over value.Object (kind_ident place k)

-- the value of a function: a number or a name
unfoldable pub initial_value : Sexp → Read RawValue
initial_value (Leaf token) = kind_value token.place token.kind
initial_value (Group' place n row) = rejected (misfit (Group' place n row)) []

abbrev pub is_same_kind : TokenKind → Bool
is_same_kind (kind.Sign sign.Same) = true
is_same_kind _ = false

unfoldable pub is_same : Sexp → Bool
is_same (Leaf token) = is_same_kind token.kind
is_same (Group' place n row) = false

abbrev pub init_head : Sexp → InitHead
init_head tree = if is_word (codes "not") tree then head.Not else if is_same tree then head.Same else head.Other

abbrev pub absent : Place → List Sexp → Read RawInit
absent place rest = followed (over Absent (one place (map ground rest))) (extra (drop 1 rest))

abbrev pub assigned : Place → List Sexp → Read RawInit
assigned place rest = followed (two place (λ g v. Value place g v) (map ground rest) (map initial_value rest)) (extra (drop 2 rest))

abbrev pub by_init_head : InitHead → Place → Sexp → List Sexp → Read RawInit
by_init_head head.Not place first rest = absent place rest
by_init_head head.Same place first rest = assigned place rest
by_init_head head.Other place first rest = over Atom (in_ground place (first ∷ rest))

abbrev pub in_init : Place → List Sexp → Read RawInit
in_init place [] = rejected (Expected place) []
in_init place (first ∷ rest) = by_init_head (init_head first) place first rest

-- a member of the initial state
abbrev pub initial : Sexp → Read RawInit
initial tree = bracket in_init tree

-- whether a metric is minimised
abbrev pub minimizes : Sexp → Read Bool
minimizes tree =
    if is_word (codes "minimize") tree then parsed true else
    if is_word (codes "maximize") tree then parsed false else rejected (misfit tree) []

abbrev pub metric_of : Bool → RawTerm → RawMetric
metric_of minimize value = record { minimize = minimize; value = value }

abbrev pub metric : Place → List Sexp → Read RawMetric
metric place rest = followed (two place metric_of (map minimizes rest) (map term rest)) (extra (drop 2 rest))

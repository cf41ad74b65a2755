-- Initial states and metrics that are read are lawful.
use Rattle.std.proofs.Common.{List, [], ◌∷◌, map, drop}
use Rattle.std.specs.Prelude.{⊤}
use Rattle.up_text.specs.declared.place.Place.{Place}
use Rattle.up_text.specs.Lists.{Every}
use Rattle.pddl_lex.specs.declared.tree.TokenKind.{TokenKind}
use Rattle.pddl_lex.specs.declared.tree.TokenKind.TheVariants as kind
use Rattle.pddl_lex.specs.declared.tree.Sexp.{Sexp, Leaf, Group'}
use Rattle.pddl_lex.specs.Parses.{all, over}
use Rattle.pddl_parse.specs.declared.raw.RawInit.TheVariants.{Atom, Absent, Value}
use Rattle.pddl_parse.specs.declared.raw.RawValue.TheVariants as «value»
use Rattle.pddl_parse.specs.declared.raw.RawMetric.{RawMetric}
use Rattle.pddl_parse.specs.declared.head.InitHead.{InitHead}
use Rattle.pddl_parse.specs.declared.head.InitHead.TheVariants as head
use Rattle.pddl_parse.specs.Shapes.{kind_ident, extra, one, two}
use Rattle.pddl_parse.specs.Terms.{term}
use Rattle.pddl_parse.specs.Starts.{in_ground, ground, kind_value, initial_value, init_head, by_init_head, in_init, initial, minimizes, metric_of, metric}
use Rattle.wellformed_texts.specs.Literals.{IsLiteralKind, HasLiteralLeaves}
use Rattle.wellformed_phrases.specs.Agreement.{IfParsed}
use Rattle.wellformed_phrases.specs.LawfulPhrases.{HasLiterals}
use Rattle.wellformed_phrases.specs.Initial.{IsLawfulValue, IsLawfulInit}
use Rattle.wellformed_phrases.proofs.Parses.{parsed_all}
use Rattle.wellformed_texts.proofs.Parses.{parsed_made, parsed_followed, parsed_both, any_are, each_as, parsed_group}
use Rattle.wellformed_texts.proofs.Conditions.{terms_have}

object_is : (place : Place) (k : TokenKind) → IfParsed (over value.Object (kind_ident place k)) IsLawfulValue
object_is place k = parsed_made IsLawfulValue value.Object (kind_ident place k) (λ it. tt)

kind_value_is : (place : Place) (k : TokenKind) → IsLiteralKind k → IfParsed (kind_value place k) IsLawfulValue
kind_value_is place (kind.Number number) is = is
kind_value_is place (kind.Word word) is = object_is place (kind.Word word)
kind_value_is place kind.Open is = tt
kind_value_is place kind.Close is = tt
kind_value_is place (kind.Variable word) is = tt
kind_value_is place (kind.Keyword word) is = tt
kind_value_is place (kind.Sign sign) is = tt

initial_value_is : (tree : Sexp) → HasLiteralLeaves tree → IfParsed (initial_value tree) IsLawfulValue
unfolding initial_value HasLiteralLeaves
initial_value_is (Leaf token) have = kind_value_is token.place token.kind have
initial_value_is (Group' place n row) have = tt

by_head_is : (h : InitHead) (place : Place) (first : Sexp) (rest : List Sexp) → Every HasLiteralLeaves rest
    → IfParsed (by_init_head h place first rest) IsLawfulInit
by_head_is head.Not place first rest have =
    parsed_followed IsLawfulInit (over Absent (one place (map ground rest))) (extra (drop 1 rest))
    (parsed_made IsLawfulInit Absent (one place (map ground rest)) (λ it. tt))
by_head_is head.Same place first rest have =
    parsed_followed IsLawfulInit (two place (λ g v. Value place g v) (map ground rest) (map initial_value rest)) (extra (drop 2 rest))
    (parsed_both (λ g. ⊤) IsLawfulValue IsLawfulInit place (λ g v. Value place g v) (map ground rest) (map initial_value rest) (λ g v any is. is)
    (any_are (map ground rest)) (each_as HasLiteralLeaves IsLawfulValue initial_value rest initial_value_is have))
by_head_is head.Other place first rest have = parsed_made IsLawfulInit Atom (in_ground place (first ∷ rest)) (λ it. tt)

in_init_is : (place : Place) (items : List Sexp) → Every HasLiteralLeaves items → IfParsed (in_init place items) IsLawfulInit
in_init_is place [] have = tt
in_init_is place (first ∷ rest) have = by_head_is (init_head first) place first rest have.1

initial_is : (tree : Sexp) → HasLiteralLeaves tree → IfParsed (initial tree) IsLawfulInit
initial_is tree have = parsed_group IsLawfulInit in_init in_init_is tree have

pub initials_are : (trees : List Sexp) → Every HasLiteralLeaves trees → IfParsed (all (map initial trees)) (Every IsLawfulInit)
initials_are trees have = parsed_all IsLawfulInit (map initial trees) (each_as HasLiteralLeaves IsLawfulInit initial trees initial_is have)

-- the numbers of a metric are literals
abbrev pub HasLiteralValue : RawMetric → Type 0
HasLiteralValue it = HasLiterals it.value

pub metric_is : (place : Place) (rest : List Sexp) → Every HasLiteralLeaves rest → IfParsed (metric place rest) HasLiteralValue
metric_is place rest have =
    parsed_followed HasLiteralValue (two place metric_of (map minimizes rest) (map term rest)) (extra (drop 2 rest))
    (parsed_both (λ b. ⊤) HasLiterals HasLiteralValue place metric_of (map minimizes rest) (map term rest) (λ b value any is. is) (any_are (map minimizes rest))
    (terms_have rest have))

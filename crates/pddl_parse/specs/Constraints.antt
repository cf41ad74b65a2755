-- Trajectory constraints of bracket trees.
use Rattle.std.specs.Prelude.{ℕ, Bool, true, false, if◌then◌else◌, List, [], ◌∷◌, map, drop, codes}
use Rattle.std.specs.Str.{bytes_eq}
use Rattle.up_text.specs.declared.place.Place.{Place}
use Rattle.pddl_lex.specs.declared.tree.TokenKind.{TokenKind}
use Rattle.pddl_lex.specs.declared.tree.TokenKind.TheVariants as kind
use Rattle.pddl_lex.specs.declared.tree.Sexp.{Sexp, Leaf, Group', Row_of-Sexp, end_of-Sexp, more_of-Sexp, items-the_row-Sexp}
use Rattle.pddl_lex.specs.Parses.{Parse, parsed, rejected, all, over, over_two, followed}
use Rattle.pddl_parse.specs.declared.raw.RawFormula.{RawFormula}
use Rattle.pddl_parse.specs.declared.raw.RawConstraint.{RawConstraint, And, Forall, Always, Sometime, AtMostOnce, SometimeAfter, SometimeBefore}
use Rattle.pddl_parse.specs.declared.head.ConstraintHead.{ConstraintHead}
use Rattle.pddl_parse.specs.declared.head.ConstraintHead.TheVariants as head
use Rattle.pddl_parse.specs.declared.head.Single.{Single}
use Rattle.pddl_parse.specs.declared.head.Single.TheVariants as single
use Rattle.pddl_parse.specs.declared.head.Paired.{Paired}
use Rattle.pddl_parse.specs.declared.head.Paired.TheVariants as paired
use Rattle.pddl_parse.specs.declared.shape.ShapeError.{ShapeError}
use Rattle.pddl_parse.specs.declared.shape.ShapeError.TheVariants.{Expected, LeftOut}
use Rattle.pddl_parse.specs.Shapes.{Read, misfit_token, is_left_out, extra, one, two}
use Rattle.pddl_parse.specs.TypedLists.{variables}
use Rattle.pddl_parse.specs.Formulas.{formula}
use Rattle.pddl_parse.specs.Brackets.{or_empty}

abbrev pub constraint_word : List ℕ → ConstraintHead
constraint_word word =
    if bytes_eq word (codes "and") then head.And else
    if bytes_eq word (codes "forall") then head.Forall else
    if bytes_eq word (codes "always") then head.Single single.Always else
    if bytes_eq word (codes "sometime") then head.Single single.Sometime else
    if bytes_eq word (codes "at-most-once") then head.Single single.AtMostOnce else
    if bytes_eq word (codes "sometime-after") then head.Paired paired.SometimeAfter else
    if bytes_eq word (codes "sometime-before") then head.Paired paired.SometimeBefore else head.Other

abbrev pub constraint_kind : TokenKind → ConstraintHead
constraint_kind (kind.Word word) = constraint_word word
constraint_kind _ = head.Other

-- what a constraint's first tree says of it
unfoldable pub constraint_head : Sexp → ConstraintHead
constraint_head (Leaf token) = constraint_kind token.kind
constraint_head (Group' place n row) = head.Other

abbrev pub unknown_kind : Place → Place → TokenKind → ShapeError
unknown_kind place at (kind.Word word) = if is_left_out word then LeftOut at else LeftOut place
unknown_kind place at _ = LeftOut place

-- the fault of a bracket at this place with another head
unfoldable pub unknown : Place → Sexp → ShapeError
unknown place (Leaf token) = unknown_kind place token.place token.kind
unknown place (Group' at n row) = LeftOut place

abbrev pub of_one : Single → RawFormula → RawConstraint
of_one single.Always f = Always f
of_one single.Sometime f = Sometime f
of_one single.AtMostOnce f = AtMostOnce f

abbrev pub of_two : Paired → RawFormula → RawFormula → RawConstraint
of_two paired.SometimeAfter f g = SometimeAfter f g
of_two paired.SometimeBefore f g = SometimeBefore f g

abbrev pub of_each : Place → List Sexp → List (Read RawConstraint) → Read RawConstraint
of_each place rest each = followed (two place (λ vars c. Forall vars c) (map variables rest) each) (extra (drop 2 rest))

abbrev pub on_one : Place → Single → List Sexp → Read RawConstraint
on_one place s rest = followed (over (of_one s) (one place (map formula rest))) (extra (drop 1 rest))

abbrev pub on_two : Place → Paired → List Sexp → Read RawConstraint
on_two place p rest = followed (two place (of_two p) (map formula rest) (map formula rest)) (extra (drop 2 rest))

abbrev pub by_constraint_head : ConstraintHead → Place → Sexp → List Sexp → List (Read RawConstraint) → Read RawConstraint
by_constraint_head head.And place first rest each = over And (all each)
by_constraint_head head.Forall place first rest each = of_each place rest each
by_constraint_head (head.Single s) place first rest each = on_one place s rest
by_constraint_head (head.Paired p) place first rest each = on_two place p rest
by_constraint_head head.Other place first rest each = rejected (unknown place first) []

abbrev pub in_constraint : Place → List Sexp → List (Read RawConstraint) → Read RawConstraint
in_constraint place [] each = rejected (Expected place) []
in_constraint place (first ∷ rest) each = by_constraint_head (constraint_head first) place first rest (drop 1 each)

unfoldable mutual
  pub constraint : Sexp → Read RawConstraint
  constraint (Leaf token) = rejected (misfit_token token.place token) []
  constraint (Group' place n row) = in_constraint place (items-the_row-Sexp _ row) (constraints row)

  pub constraints : {n : _} → Row_of-Sexp n → List (Read RawConstraint)
  constraints end_of-Sexp = []
  constraints (more_of-Sexp tree row) = constraint tree ∷ constraints row

-- the constraint of a section
abbrev pub whole_constraint : Sexp → Read RawConstraint
whole_constraint tree = or_empty (And []) (constraint tree) tree

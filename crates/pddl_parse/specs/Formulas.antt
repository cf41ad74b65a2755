-- Conditions of bracket trees.
use Rattle.std.specs.Prelude.{ℕ, Bool, true, false, if◌then◌else◌, List, [], ◌∷◌, map, drop, codes}
use Rattle.std.specs.Str.{bytes_eq}
use Rattle.up_text.specs.declared.place.Place.{Place}
use Rattle.pddl_lex.specs.declared.tree.Sign.{Sign}
use Rattle.pddl_lex.specs.declared.tree.Sign.TheVariants as sign
use Rattle.pddl_lex.specs.declared.tree.TokenKind.{TokenKind}
use Rattle.pddl_lex.specs.declared.tree.TokenKind.TheVariants as kind
use Rattle.pddl_lex.specs.declared.tree.Sexp.{Sexp, Leaf, Group', Row_of-Sexp, end_of-Sexp, more_of-Sexp, items-the_row-Sexp}
use Rattle.pddl_lex.specs.Parses.{Parse, parsed, rejected, all, over, over_two, followed}
use Rattle.pddl_parse.specs.declared.raw.Relation.{Relation}
use Rattle.pddl_parse.specs.declared.raw.Relation.TheVariants as relation
use Rattle.pddl_parse.specs.declared.raw.RawGroup.{RawGroup}
use Rattle.pddl_parse.specs.declared.raw.RawFormula.{RawFormula, And, Or, Not, Imply, Exists, Forall, Atom, Compare}
use Rattle.pddl_parse.specs.declared.head.Quantifier.{Quantifier}
use Rattle.pddl_parse.specs.declared.head.Quantifier.TheVariants as quantifier
use Rattle.pddl_parse.specs.declared.head.Head.{Head}
use Rattle.pddl_parse.specs.declared.head.Head.TheVariants as head
use Rattle.pddl_parse.specs.declared.shape.ShapeError.TheVariants.{Expected}
use Rattle.pddl_parse.specs.Shapes.{Read, misfit, misfit_token, ident, extra, one, two}
use Rattle.pddl_parse.specs.Terms.{term}
use Rattle.pddl_parse.specs.TypedLists.{variables}

abbrev pub word_head : List ℕ → Head
word_head word =
    if bytes_eq word (codes "and") then head.And else
    if bytes_eq word (codes "or") then head.Or else
    if bytes_eq word (codes "not") then head.Not else
    if bytes_eq word (codes "imply") then head.Imply else
    if bytes_eq word (codes "exists") then head.Quantifier quantifier.Exists else
    if bytes_eq word (codes "forall") then head.Quantifier quantifier.Forall else head.Other

abbrev pub sign_head : Sign → Head
sign_head sign.Less = head.Compare relation.Less
sign_head sign.LessEqual = head.Compare relation.LessEqual
sign_head sign.Same = head.Compare relation.Same
sign_head sign.GreaterEqual = head.Compare relation.GreaterEqual
sign_head sign.Greater = head.Compare relation.Greater
sign_head _ = head.Other

abbrev pub kind_head : TokenKind → Head
kind_head (kind.Word word) = word_head word
kind_head (kind.Sign sign) = sign_head sign
kind_head _ = head.Other

-- what a condition's first tree says of it
unfoldable pub head_of : Sexp → Head
head_of (Leaf token) = kind_head token.kind
head_of (Group' place n row) = head.Other

abbrev pub negation : Place → List Sexp → List (Read RawFormula) → Read RawFormula
negation place rest each = followed (over Not (one place each)) (extra (drop 1 rest))

abbrev pub implication : Place → List Sexp → List (Read RawFormula) → Read RawFormula
implication place rest each = followed (two place Imply each each) (extra (drop 2 rest))

abbrev pub quantify : Quantifier → List RawGroup → RawFormula → RawFormula
quantify quantifier.Exists vars f = Exists vars f
quantify quantifier.Forall vars f = Forall vars f

abbrev pub quantified : Place → Quantifier → List Sexp → List (Read RawFormula) → Read RawFormula
quantified place q rest each = followed (two place (quantify q) (map variables rest) each) (extra (drop 2 rest))

abbrev pub comparison : Place → Relation → List Sexp → Read RawFormula
comparison place r rest = followed (two place (λ a b. Compare place r a b) (map term rest) (map term rest)) (extra (drop 2 rest))

abbrev pub by_head : Head → Place → Sexp → List Sexp → List (Read RawFormula) → Read RawFormula
by_head head.And place first rest each = over And (all each)
by_head head.Or place first rest each = over Or (all each)
by_head head.Not place first rest each = negation place rest each
by_head head.Imply place first rest each = implication place rest each
by_head (head.Quantifier q) place first rest each = quantified place q rest each
by_head (head.Compare r) place first rest each = comparison place r rest
by_head head.Other place first rest each = over_two (λ p ts. Atom place p ts) (ident first) (all (map term rest))

-- a bracket with these trees, which are read as these conditions where they are conditions
abbrev pub in_formula : Place → List Sexp → List (Read RawFormula) → Read RawFormula
in_formula place [] each = rejected (Expected place) []
in_formula place (first ∷ rest) each = by_head (head_of first) place first rest (drop 1 each)

unfoldable mutual
  pub formula : Sexp → Read RawFormula
  formula (Leaf token) = rejected (misfit_token token.place token) []
  formula (Group' place n row) = in_formula place (items-the_row-Sexp _ row) (formulas row)

  pub formulas : {n : _} → Row_of-Sexp n → List (Read RawFormula)
  formulas end_of-Sexp = []
  formulas (more_of-Sexp tree row) = formula tree ∷ formulas row

-- Object terms and expressions of bracket trees.
use Rattle.std.specs.Prelude.{ℕ, min, Bool, true, false, nat_lt, if◌then◌else◌, List, [], ◌∷◌, take, drop, length, Option, Some, None}
use Rattle.up_text.specs.declared.place.Place.{Place}
use Rattle.up_text.specs.Names.{name_of}
use Rattle.pddl_lex.specs.declared.tree.Token.{Token}
use Rattle.pddl_lex.specs.declared.tree.Sign.{Sign}
use Rattle.pddl_lex.specs.declared.tree.Sign.TheVariants as sign
use Rattle.pddl_lex.specs.declared.tree.TokenKind.{TokenKind}
use Rattle.pddl_lex.specs.declared.tree.TokenKind.TheVariants as kind
use Rattle.pddl_lex.specs.declared.tree.Sexp.{Sexp, Leaf, Group', Row_of-Sexp, end_of-Sexp, more_of-Sexp, items-the_row-Sexp}
use Rattle.pddl_lex.specs.Parses.{Parse, parsed, rejected, all, over, over_two, behind, followed}
use Rattle.pddl_parse.specs.declared.raw.Operator.{Operator}
use Rattle.pddl_parse.specs.declared.raw.Operator.TheVariants as operator
use Rattle.pddl_parse.specs.declared.raw.RawTerm.{RawTerm, Name, Variable, Number, Call, Arithmetic}
use Rattle.pddl_parse.specs.declared.shape.ShapeError.{ShapeError}
use Rattle.pddl_parse.specs.declared.shape.ShapeError.TheVariants.{Expected}
use Rattle.pddl_parse.specs.Shapes.{Read, misfit, kind_ident, kind_variable, ident, extra, lacking}

abbrev pub kind_term : Place → TokenKind → Read RawTerm
kind_term place (kind.Word word) = over Name (kind_ident place (kind.Word word))
kind_term place (kind.Variable name) = over Variable (kind_variable place (kind.Variable name))
kind_term place (kind.Number number) = parsed (Number place number)
kind_term place _ = rejected (Expected place) []

abbrev pub sign_operator : Sign → Option Operator
sign_operator sign.Plus = Some operator.Sum
sign_operator sign.Minus = Some operator.Difference
sign_operator sign.Times = Some operator.Product
sign_operator sign.Slash = Some operator.Quotient
sign_operator _ = None

abbrev pub kind_operator : TokenKind → Option Operator
kind_operator (kind.Sign sign) = sign_operator sign
kind_operator _ = None

-- the operator at the head of a bracket
unfoldable pub operator_of : Sexp → Option Operator
operator_of (Leaf token) = kind_operator token.kind
operator_of (Group' place n row) = None

abbrev pub least : Operator → ℕ
least operator.Difference = 1
least _ = 2

-- how many of the operands that stand there may stand there
abbrev pub most : Operator → ℕ → ℕ
most operator.Difference n = min n 2
most operator.Quotient n = min n 2
most _ n = n

abbrev pub arithmetic : Operator → Place → List Sexp → List (Read RawTerm) → Read RawTerm
arithmetic op place rest each =
    behind (lacking (nat_lt (length rest) (least op)) place)
    (followed (over (λ ts. Arithmetic place op ts) (all (take (most op (length rest)) each))) (extra (drop (most op (length rest)) rest)))

abbrev pub by_operator : Option Operator → Place → Sexp → List Sexp → List (Read RawTerm) → Read RawTerm
by_operator None place head rest each = over_two (λ f ts. Call place f ts) (ident head) (all each)
by_operator (Some op) place head rest each = arithmetic op place rest each

-- a bracket with these trees, which are read as these terms where they are terms
abbrev pub in_term : Place → List Sexp → List (Read RawTerm) → Read RawTerm
in_term place [] each = rejected (Expected place) []
in_term place (head ∷ rest) each = by_operator (operator_of head) place head rest (drop 1 each)

unfoldable mutual
  pub term : Sexp → Read RawTerm
  term (Leaf token) = kind_term token.place token.kind
  term (Group' place n row) = in_term place (items-the_row-Sexp _ row) (terms row)

  pub terms : {n : _} → Row_of-Sexp n → List (Read RawTerm)
  terms end_of-Sexp = []
  terms (more_of-Sexp tree row) = term tree ∷ terms row

-- The numbers of terms that are read are literals.
use Rattle.std.proofs.Common.{List, [], ◌∷◌, length, take, drop, Option, Some, None, sym, subst}
use Rattle.std.specs.Prelude.{⊤, nat_lt}
use Rattle.up_text.specs.declared.place.Place.{Place}
use Rattle.up_text.specs.Lists.{Every}
use Rattle.pddl_lex.specs.declared.tree.TokenKind.{TokenKind}
use Rattle.pddl_lex.specs.declared.tree.TokenKind.TheVariants as kind
use Rattle.pddl_lex.specs.declared.tree.Sexp.{Sexp, Leaf, Group', Row_of-Sexp, end_of-Sexp, more_of-Sexp, items-the_row-Sexp}
use Rattle.pddl_lex.specs.Parses.{all, over, followed}
use Rattle.pddl_parse.specs.declared.raw.Ident.{Ident}
use Rattle.pddl_parse.specs.declared.raw.Operator.{Operator}
use Rattle.pddl_parse.specs.declared.raw.RawTerm.{RawTerm, Name, Variable, Call, Arithmetic, Row_of-RawTerm, end_of-RawTerm, more_of-RawTerm, items-the_row-RawTerm, items_hidden-the_row-RawTerm-0}
use Rattle.pddl_parse.specs.declared.raw.RawTerm.TheBlock.{hidden-the_row-RawTerm-0}
use Rattle.pddl_parse.specs.Shapes.{Read, kind_ident, kind_variable, ident, extra, lacking}
use Rattle.pddl_parse.specs.Terms.{kind_term, operator_of, least, most, by_operator, in_term, term, terms}
use Rattle.wellformed_texts.specs.Literals.{IsLiteralKind, HasLiteralLeaves, HaveLiteralLeaves}
use Rattle.wellformed_phrases.specs.Agreement.{IfParsed}
use Rattle.wellformed_phrases.specs.LawfulPhrases.{HasLiterals, HaveLiterals}
use Rattle.wellformed_phrases.proofs.Parses.{parsed_over, parsed_two, parsed_any, parsed_all}
use Rattle.wellformed_texts.proofs.Parses.{every_rest, parsed_made, parsed_behind, parsed_followed, EachIfParsed}
use Rattle.wellformed_phrases.proofs.Exprs.{every_take}

mutual
  unfolding HasLiterals HaveLiterals

  rows_have : {n : _} (row : Row_of-RawTerm n) → Every HasLiterals (items-the_row-RawTerm _ row) → HaveLiterals row
  rows_have end_of-RawTerm are = tt
  rows_have (more_of-RawTerm t ts) are = (are.0, rows_have ts are.1)

list_has : (ts : List RawTerm) → Every HasLiterals ts → HaveLiterals (hidden-the_row-RawTerm-0 ts)
list_has ts are = rows_have (hidden-the_row-RawTerm-0 ts) (subst (Every HasLiterals) (sym (items_hidden-the_row-RawTerm-0 ts)) are)

call_has : (place : Place) (f : Ident) (ts : List RawTerm) → Every HasLiterals ts → HasLiterals (Call place f ts)
unfolding HasLiterals
call_has place f ts are = list_has ts are

arithmetic_has : (place : Place) (op : Operator) (ts : List RawTerm) → Every HasLiterals ts → HasLiterals (Arithmetic place op ts)
unfolding HasLiterals
arithmetic_has place op ts are = list_has ts are

kind_term_has : (place : Place) (k : TokenKind) → IsLiteralKind k → IfParsed (kind_term place k) HasLiterals
unfolding HasLiterals
kind_term_has place (kind.Word word) is = parsed_made HasLiterals Name (kind_ident place (kind.Word word)) (λ it. tt)
kind_term_has place (kind.Variable word) is = parsed_made HasLiterals Variable (kind_variable place (kind.Variable word)) (λ it. tt)
kind_term_has place (kind.Number number) is = is
kind_term_has place kind.Open is = tt
kind_term_has place kind.Close is = tt
kind_term_has place (kind.Keyword word) is = tt
kind_term_has place (kind.Sign sign) is = tt

by_operator_has : (found : Option Operator) (place : Place) (head : Sexp) (rest : List Sexp) (each : List (Read RawTerm)) → EachIfParsed HasLiterals each
    → IfParsed (by_operator found place head rest each) HasLiterals
by_operator_has None place head rest each are =
    parsed_two (λ f. ⊤) (Every HasLiterals) HasLiterals (λ f ts. Call place f ts) (ident head) (all each) (λ f ts named have. call_has place f ts have)
    (parsed_any (ident head)) (parsed_all HasLiterals each are)
by_operator_has (Some op) place head rest each are =
    let n = most op (length rest) in
    let read = over (λ ts. Arithmetic place op ts) (all (take n each)) in
    parsed_behind HasLiterals (lacking (nat_lt (length rest) (least op)) place) (followed read (extra (drop n rest)))
    (parsed_followed HasLiterals read (extra (drop n rest))
    (parsed_over (Every HasLiterals) HasLiterals (λ ts. Arithmetic place op ts) (all (take n each)) (arithmetic_has place op)
    (parsed_all HasLiterals (take n each) (every_take (λ v. IfParsed v HasLiterals) n each are))))

in_term_has : (place : Place) (items : List Sexp) (each : List (Read RawTerm)) → EachIfParsed HasLiterals each → IfParsed (in_term place items each) HasLiterals
in_term_has place [] each are = tt
in_term_has place (head ∷ rest) each are =
    by_operator_has (operator_of head) place head rest (drop 1 each) (every_rest (λ v. IfParsed v HasLiterals) each are)

mutual
  unfolding term terms HasLiteralLeaves HaveLiteralLeaves

  pub term_has : (tree : Sexp) → HasLiteralLeaves tree → IfParsed (term tree) HasLiterals
  term_has (Leaf token) is = kind_term_has token.place token.kind is
  term_has (Group' place n row) are = in_term_has place (items-the_row-Sexp _ row) (terms row) (terms_have row are)

  terms_have : {n : _} (row : Row_of-Sexp n) → HaveLiteralLeaves row → EachIfParsed HasLiterals (terms row)
  terms_have end_of-Sexp are = tt
  terms_have (more_of-Sexp tree row) are = (term_has tree are.0, terms_have row are.1)

-- Conditions that are read are lawful.
use Rattle.std.proofs.Common.{List, [], ◌∷◌, map, drop, sym, subst}
use Rattle.std.specs.Prelude.{⊤}
use Rattle.up_text.specs.declared.place.Place.{Place}
use Rattle.up_text.specs.Lists.{Every}
use Rattle.pddl_lex.specs.declared.tree.Sexp.{Sexp, Leaf, Group', Row_of-Sexp, end_of-Sexp, more_of-Sexp, items-the_row-Sexp}
use Rattle.pddl_lex.specs.Parses.{all, over}
use Rattle.pddl_parse.specs.declared.raw.Ident.{Ident}
use Rattle.pddl_parse.specs.declared.raw.Relation.{Relation}
use Rattle.pddl_parse.specs.declared.raw.RawTerm.{RawTerm}
use Rattle.pddl_parse.specs.declared.raw.RawGroup.{RawGroup}
use Rattle.pddl_parse.specs.declared.raw.RawFormula.{RawFormula, And, Or, Not, Imply, Atom, Compare, Row_of-RawFormula, end_of-RawFormula, more_of-RawFormula, items-the_row-RawFormula, items_hidden-the_row-RawFormula-0}
use Rattle.pddl_parse.specs.declared.raw.RawFormula.TheBlock.{hidden-the_row-RawFormula-0}
use Rattle.pddl_parse.specs.declared.head.Head.{Head}
use Rattle.pddl_parse.specs.declared.head.Head.TheVariants as head
use Rattle.pddl_parse.specs.declared.head.Quantifier.{Quantifier}
use Rattle.pddl_parse.specs.declared.head.Quantifier.TheVariants as quantifier
use Rattle.pddl_parse.specs.Actions.{condition}
use Rattle.pddl_parse.specs.Shapes.{Read, ident, extra, one, two}
use Rattle.pddl_parse.specs.Terms.{term}
use Rattle.pddl_parse.specs.TypedLists.{variables}
use Rattle.pddl_parse.specs.Formulas.{head_of, quantify, by_head, in_formula, formula, formulas}
use Rattle.up_phrase.specs.Nodes.{built}
use Rattle.wellformed_texts.specs.Literals.{HasLiteralLeaves, HaveLiteralLeaves}
use Rattle.wellformed_phrases.specs.Agreement.{IfParsed}
use Rattle.wellformed_phrases.specs.LawfulPhrases.{HasLiterals, IsLawful, AreLawful}
use Rattle.wellformed_phrases.proofs.Parses.{parsed_over, parsed_two, parsed_any, parsed_all}
use Rattle.wellformed_texts.proofs.Leaves.{every_of_row}
use Rattle.wellformed_texts.proofs.Parses.{every_rest, parsed_followed, parsed_one, parsed_both, parsed_or_empty, EachIfParsed, each_is, each_as}
use Rattle.wellformed_texts.proofs.Typed.{AreGroups, variables_are}
use Rattle.wellformed_texts.proofs.Terms.{term_has}

mutual
  unfolding IsLawful AreLawful

  rows_are : {n : _} (row : Row_of-RawFormula n) → Every IsLawful (items-the_row-RawFormula _ row) → AreLawful row
  rows_are end_of-RawFormula are = tt
  rows_are (more_of-RawFormula f fs) are = (are.0, rows_are fs are.1)

list_is : (fs : List RawFormula) → Every IsLawful fs → AreLawful (hidden-the_row-RawFormula-0 fs)
list_is fs are = rows_are (hidden-the_row-RawFormula-0 fs) (subst (Every IsLawful) (sym (items_hidden-the_row-RawFormula-0 fs)) are)

pub and_is : (fs : List RawFormula) → Every IsLawful fs → IsLawful (And fs)
unfolding IsLawful
and_is fs are = list_is fs are

or_is : (fs : List RawFormula) → Every IsLawful fs → IsLawful (Or fs)
unfolding IsLawful
or_is fs are = list_is fs are

not_is : (f : RawFormula) → IsLawful f → IsLawful (Not f)
unfolding IsLawful built
not_is f is = is

imply_is : (f g : RawFormula) → IsLawful f → IsLawful g → IsLawful (Imply f g)
unfolding IsLawful built
imply_is f g is so = (is, so)

quantify_is : (q : Quantifier) (groups : List RawGroup) (f : RawFormula) → AreGroups groups → IsLawful f → IsLawful (quantify q groups f)
unfolding IsLawful built
quantify_is quantifier.Exists groups f are is = (are.0, is)
quantify_is quantifier.Forall groups f are is = (are.0, is)

atom_is : (place : Place) (p : Ident) (ts : List RawTerm) → IsLawful (Atom place p ts)
unfolding IsLawful
atom_is place p ts = tt

compare_is : (place : Place) (r : Relation) (a b : RawTerm) → HasLiterals a → HasLiterals b → IsLawful (Compare place r a b)
unfolding IsLawful
compare_is place r a b is so = (is, so)

pub terms_have : (trees : List Sexp) → Every HasLiteralLeaves trees → EachIfParsed HasLiterals (map term trees)
terms_have trees have = each_as HasLiteralLeaves HasLiterals term trees term_has have

by_head_is : (h : Head) (place : Place) (first : Sexp) (rest : List Sexp) (each : List (Read RawFormula)) → Every HasLiteralLeaves rest
    → EachIfParsed IsLawful each → IfParsed (by_head h place first rest each) IsLawful
by_head_is head.And place first rest each have are = parsed_over (Every IsLawful) IsLawful And (all each) and_is (parsed_all IsLawful each are)
by_head_is head.Or place first rest each have are = parsed_over (Every IsLawful) IsLawful Or (all each) or_is (parsed_all IsLawful each are)
by_head_is head.Not place first rest each have are =
    parsed_followed IsLawful (over Not (one place each)) (extra (drop 1 rest))
    (parsed_over IsLawful IsLawful Not (one place each) not_is (parsed_one IsLawful place each are))
by_head_is head.Imply place first rest each have are =
    parsed_followed IsLawful (two place Imply each each) (extra (drop 2 rest)) (parsed_both IsLawful IsLawful IsLawful place Imply each each imply_is are are)
by_head_is (head.Quantifier q) place first rest each have are =
    parsed_followed IsLawful (two place (quantify q) (map variables rest) each) (extra (drop 2 rest))
    (parsed_both AreGroups IsLawful IsLawful place (quantify q) (map variables rest) each (quantify_is q) (each_is AreGroups variables rest variables_are) are)
by_head_is (head.Compare r) place first rest each have are =
    parsed_followed IsLawful (two place (λ a b. Compare place r a b) (map term rest) (map term rest)) (extra (drop 2 rest))
    (parsed_both HasLiterals HasLiterals IsLawful place (λ a b. Compare place r a b) (map term rest) (map term rest) (compare_is place r)
    (terms_have rest have) (terms_have rest have))
by_head_is head.Other place first rest each have are =
    parsed_two (λ p. ⊤) (λ ts. ⊤) IsLawful (λ p ts. Atom place p ts) (ident first) (all (map term rest)) (λ p ts named so. atom_is place p ts)
    (parsed_any (ident first)) (parsed_any (all (map term rest)))

in_formula_is : (place : Place) (items : List Sexp) (each : List (Read RawFormula)) → Every HasLiteralLeaves items → EachIfParsed IsLawful each
    → IfParsed (in_formula place items each) IsLawful
in_formula_is place [] each have are = tt
in_formula_is place (first ∷ rest) each have are =
    by_head_is (head_of first) place first rest (drop 1 each) have.1 (every_rest (λ v. IfParsed v IsLawful) each are)

mutual
  unfolding formula formulas HasLiteralLeaves HaveLiteralLeaves

  pub formula_is : (tree : Sexp) → HasLiteralLeaves tree → IfParsed (formula tree) IsLawful
  formula_is (Leaf token) have = tt
  formula_is (Group' place n row) have = in_formula_is place (items-the_row-Sexp _ row) (formulas row) (every_of_row row have) (formulas_are row have)

  formulas_are : {n : _} (row : Row_of-Sexp n) → HaveLiteralLeaves row → EachIfParsed IsLawful (formulas row)
  formulas_are end_of-Sexp have = tt
  formulas_are (more_of-Sexp tree row) have = (formula_is tree have.0, formulas_are row have.1)

pub formulas_lawful : (trees : List Sexp) → Every HasLiteralLeaves trees → EachIfParsed IsLawful (map formula trees)
formulas_lawful trees have = each_as HasLiteralLeaves IsLawful formula trees formula_is have

pub condition_is : (tree : Sexp) → HasLiteralLeaves tree → IfParsed (condition tree) IsLawful
condition_is tree have = parsed_or_empty IsLawful (And []) (formula tree) tree (and_is [] tt) (formula_is tree have)

-- Constraints that are read are lawful.
use Rattle.std.proofs.Common.{List, [], ◌∷◌, map, drop, sym, subst}
use Rattle.up_text.specs.declared.place.Place.{Place}
use Rattle.up_text.specs.Lists.{Every}
use Rattle.pddl_lex.specs.declared.tree.Sexp.{Sexp, Leaf, Group', Row_of-Sexp, end_of-Sexp, more_of-Sexp, items-the_row-Sexp}
use Rattle.pddl_lex.specs.Parses.{all, over}
use Rattle.pddl_parse.specs.declared.raw.RawFormula.{RawFormula}
use Rattle.pddl_parse.specs.declared.raw.RawGroup.{RawGroup}
use Rattle.pddl_parse.specs.declared.raw.RawConstraint.{RawConstraint, And, Forall, Row_of-RawConstraint, end_of-RawConstraint, more_of-RawConstraint, items-the_row-RawConstraint, items_hidden-the_row-RawConstraint-0}
use Rattle.pddl_parse.specs.declared.raw.RawConstraint.TheBlock.{hidden-the_row-RawConstraint-0}
use Rattle.pddl_parse.specs.declared.head.ConstraintHead.{ConstraintHead}
use Rattle.pddl_parse.specs.declared.head.ConstraintHead.TheVariants as head
use Rattle.pddl_parse.specs.declared.head.Single.{Single}
use Rattle.pddl_parse.specs.declared.head.Single.TheVariants as single
use Rattle.pddl_parse.specs.declared.head.Paired.{Paired}
use Rattle.pddl_parse.specs.declared.head.Paired.TheVariants as paired
use Rattle.pddl_parse.specs.Shapes.{Read, extra, one, two}
use Rattle.pddl_parse.specs.TypedLists.{variables}
use Rattle.pddl_parse.specs.Formulas.{formula}
use Rattle.pddl_parse.specs.Constraints.{constraint_head, of_one, of_two, by_constraint_head, in_constraint, constraint, constraints, whole_constraint}
use Rattle.up_check.specs.Nodes.{built}
use Rattle.wellformed_texts.specs.Literals.{HasLiteralLeaves, HaveLiteralLeaves}
use Rattle.wellformed_phrases.specs.Agreement.{IfParsed}
use Rattle.wellformed_phrases.specs.LawfulPhrases.{IsLawful, IsLawfulConstraint, AreLawfulConstraints}
use Rattle.wellformed_phrases.proofs.Parses.{parsed_over, parsed_all}
use Rattle.wellformed_texts.proofs.Leaves.{every_of_row}
use Rattle.wellformed_texts.proofs.Parses.{every_rest, parsed_followed, parsed_one, parsed_both, parsed_or_empty, EachIfParsed, each_is}
use Rattle.wellformed_texts.proofs.Typed.{AreGroups, variables_are}
use Rattle.wellformed_texts.proofs.Conditions.{formulas_lawful}

mutual
  unfolding IsLawfulConstraint AreLawfulConstraints

  rows_are : {n : _} (row : Row_of-RawConstraint n) → Every IsLawfulConstraint (items-the_row-RawConstraint _ row) → AreLawfulConstraints row
  rows_are end_of-RawConstraint are = tt
  rows_are (more_of-RawConstraint c cs) are = (are.0, rows_are cs are.1)

pub and_is : (cs : List RawConstraint) → Every IsLawfulConstraint cs → IsLawfulConstraint (And cs)
unfolding IsLawfulConstraint
and_is cs are = rows_are (hidden-the_row-RawConstraint-0 cs) (subst (Every IsLawfulConstraint) (sym (items_hidden-the_row-RawConstraint-0 cs)) are)

forall_is : (groups : List RawGroup) (c : RawConstraint) → AreGroups groups → IsLawfulConstraint c → IsLawfulConstraint (Forall groups c)
unfolding IsLawfulConstraint built
forall_is groups c are is = (are.0, is)

of_one_is : (s : Single) (f : RawFormula) → IsLawful f → IsLawfulConstraint (of_one s f)
unfolding IsLawfulConstraint
of_one_is single.Always f is = is
of_one_is single.Sometime f is = is
of_one_is single.AtMostOnce f is = is

of_two_is : (p : Paired) (f g : RawFormula) → IsLawful f → IsLawful g → IsLawfulConstraint (of_two p f g)
unfolding IsLawfulConstraint
of_two_is paired.SometimeAfter f g is so = (is, so)
of_two_is paired.SometimeBefore f g is so = (is, so)

by_head_is : (h : ConstraintHead) (place : Place) (first : Sexp) (rest : List Sexp) (each : List (Read RawConstraint)) → Every HasLiteralLeaves rest
    → EachIfParsed IsLawfulConstraint each → IfParsed (by_constraint_head h place first rest each) IsLawfulConstraint
by_head_is head.And place first rest each have are =
    parsed_over (Every IsLawfulConstraint) IsLawfulConstraint And (all each) and_is (parsed_all IsLawfulConstraint each are)
by_head_is head.Forall place first rest each have are =
    parsed_followed IsLawfulConstraint (two place (λ vars c. Forall vars c) (map variables rest) each) (extra (drop 2 rest))
    (parsed_both AreGroups IsLawfulConstraint IsLawfulConstraint place (λ vars c. Forall vars c) (map variables rest) each forall_is
    (each_is AreGroups variables rest variables_are) are)
by_head_is (head.Single s) place first rest each have are =
    parsed_followed IsLawfulConstraint (over (of_one s) (one place (map formula rest))) (extra (drop 1 rest))
    (parsed_over IsLawful IsLawfulConstraint (of_one s) (one place (map formula rest)) (of_one_is s)
    (parsed_one IsLawful place (map formula rest) (formulas_lawful rest have)))
by_head_is (head.Paired p) place first rest each have are =
    parsed_followed IsLawfulConstraint (two place (of_two p) (map formula rest) (map formula rest)) (extra (drop 2 rest))
    (parsed_both IsLawful IsLawful IsLawfulConstraint place (of_two p) (map formula rest) (map formula rest) (of_two_is p) (formulas_lawful rest have)
    (formulas_lawful rest have))
by_head_is head.Other place first rest each have are = tt

in_constraint_is : (place : Place) (items : List Sexp) (each : List (Read RawConstraint)) → Every HasLiteralLeaves items
    → EachIfParsed IsLawfulConstraint each → IfParsed (in_constraint place items each) IsLawfulConstraint
in_constraint_is place [] each have are = tt
in_constraint_is place (first ∷ rest) each have are =
    by_head_is (constraint_head first) place first rest (drop 1 each) have.1 (every_rest (λ v. IfParsed v IsLawfulConstraint) each are)

mutual
  unfolding constraint constraints HasLiteralLeaves HaveLiteralLeaves

  constraint_is : (tree : Sexp) → HasLiteralLeaves tree → IfParsed (constraint tree) IsLawfulConstraint
  constraint_is (Leaf token) have = tt
  constraint_is (Group' place n row) have =
      in_constraint_is place (items-the_row-Sexp _ row) (constraints row) (every_of_row row have) (constraints_are row have)

  constraints_are : {n : _} (row : Row_of-Sexp n) → HaveLiteralLeaves row → EachIfParsed IsLawfulConstraint (constraints row)
  constraints_are end_of-Sexp have = tt
  constraints_are (more_of-Sexp tree row) have = (constraint_is tree have.0, constraints_are row have.1)

pub whole_constraint_is : (tree : Sexp) → HasLiteralLeaves tree → IfParsed (whole_constraint tree) IsLawfulConstraint
whole_constraint_is tree have = parsed_or_empty IsLawfulConstraint (And []) (constraint tree) tree (and_is [] tt) (constraint_is tree have)

-- Effects that are read are lawful.
use Rattle.std.proofs.Common.{List, [], ◌∷◌, map, drop, sym, subst}
use Rattle.std.specs.Prelude.{⊤}
use Rattle.up_text.specs.declared.place.Place.{Place}
use Rattle.up_text.specs.Lists.{Every}
use Rattle.pddl_lex.specs.Trees.{place_of}
use Rattle.pddl_lex.specs.declared.tree.Sexp.{Sexp, Leaf, Group', Row_of-Sexp, end_of-Sexp, more_of-Sexp, items-the_row-Sexp}
use Rattle.pddl_lex.specs.Parses.{parsed, all, over}
use Rattle.pddl_parse.specs.declared.raw.RawCall.{RawCall}
use Rattle.pddl_parse.specs.declared.raw.RawChange.{RawChange}
use Rattle.pddl_parse.specs.declared.raw.RawFormula.{RawFormula}
use Rattle.pddl_parse.specs.declared.raw.RawGroup.{RawGroup}
use Rattle.pddl_parse.specs.declared.raw.RawEffect.{RawEffect, And, Forall, When, Add, Delete, Row_of-RawEffect, end_of-RawEffect, more_of-RawEffect, items-the_row-RawEffect, items_hidden-the_row-RawEffect-0}
use Rattle.pddl_parse.specs.declared.raw.RawEffect.TheBlock.{hidden-the_row-RawEffect-0}
use Rattle.pddl_parse.specs.declared.head.EffectHead.{EffectHead}
use Rattle.pddl_parse.specs.declared.head.EffectHead.TheVariants as head
use Rattle.pddl_parse.specs.declared.effect.NewValue.{NewValue}
use Rattle.pddl_parse.specs.declared.effect.NewValue.TheVariants as new
use Rattle.pddl_parse.specs.Shapes.{Read, extra, one, two}
use Rattle.pddl_parse.specs.Terms.{term}
use Rattle.pddl_parse.specs.TypedLists.{variables}
use Rattle.pddl_parse.specs.Formulas.{formula}
use Rattle.pddl_parse.specs.Effects.{in_call, call, effect_head, is_undefined, new_value, changed, by_effect_head, in_effect, effect, effects, whole_effect}
use Rattle.up_effect.specs.Nodes.{built}
use Rattle.wellformed_texts.specs.Literals.{HasLiteralLeaves, HaveLiteralLeaves}
use Rattle.wellformed_phrases.specs.Agreement.{IfParsed}
use Rattle.wellformed_phrases.specs.LawfulPhrases.{HasLiterals, IsLawful, IsLawfulEffect, AreLawfulEffects}
use Rattle.wellformed_phrases.proofs.Parses.{parsed_over, parsed_all}
use Rattle.wellformed_texts.proofs.Leaves.{every_of_row}
use Rattle.wellformed_texts.proofs.Parses.{every_rest, parsed_made, parsed_if, parsed_followed, parsed_both, parsed_or_empty, any_are, EachIfParsed, each_is, each_as}
use Rattle.wellformed_texts.proofs.Typed.{AreGroups, variables_are}
use Rattle.wellformed_texts.proofs.Terms.{term_has}
use Rattle.wellformed_texts.proofs.Conditions.{formulas_lawful}

mutual
  unfolding IsLawfulEffect AreLawfulEffects

  rows_are : {n : _} (row : Row_of-RawEffect n) → Every IsLawfulEffect (items-the_row-RawEffect _ row) → AreLawfulEffects row
  rows_are end_of-RawEffect are = tt
  rows_are (more_of-RawEffect e es) are = (are.0, rows_are es are.1)

pub and_is : (es : List RawEffect) → Every IsLawfulEffect es → IsLawfulEffect (And es)
unfolding IsLawfulEffect
and_is es are = rows_are (hidden-the_row-RawEffect-0 es) (subst (Every IsLawfulEffect) (sym (items_hidden-the_row-RawEffect-0 es)) are)

forall_is : (groups : List RawGroup) (e : RawEffect) → AreGroups groups → IsLawfulEffect e → IsLawfulEffect (Forall groups e)
unfolding IsLawfulEffect built
forall_is groups e are is = (are.0, is)

when_is : (f : RawFormula) (e : RawEffect) → IsLawful f → IsLawfulEffect e → IsLawfulEffect (When f e)
unfolding IsLawfulEffect built
when_is f e is so = (is, so)

add_is : (it : RawCall) → IsLawfulEffect (Add it)
unfolding IsLawfulEffect
add_is it = tt

delete_is : (it : RawCall) → IsLawfulEffect (Delete it)
unfolding IsLawfulEffect
delete_is it = tt

abbrev IsNew : NewValue → Type 0
IsNew (new.Value value) = HasLiterals value
IsNew (new.Undefined place) = ⊤

changed_is : (c : RawChange) (target : RawCall) (value : NewValue) → ⊤ → IsNew value → IsLawfulEffect (changed c target value)
unfolding IsLawfulEffect
changed_is c target (new.Value value) any is = is
changed_is c target (new.Undefined place) any is = tt

new_value_is : (c : RawChange) (tree : Sexp) → HasLiteralLeaves tree → IfParsed (new_value c tree) IsNew
new_value_is c tree have =
    parsed_if IsNew (is_undefined c tree) (parsed (new.Undefined (place_of tree))) (over new.Value (term tree)) tt
    (parsed_over HasLiterals IsNew new.Value (term tree) (λ value is. is) (term_has tree have))

by_head_is : (h : EffectHead) (place : Place) (first : Sexp) (rest : List Sexp) (each : List (Read RawEffect)) → Every HasLiteralLeaves rest
    → EachIfParsed IsLawfulEffect each → IfParsed (by_effect_head h place first rest each) IsLawfulEffect
by_head_is head.And place first rest each have are = parsed_over (Every IsLawfulEffect) IsLawfulEffect And (all each) and_is (parsed_all IsLawfulEffect each are)
by_head_is head.Forall place first rest each have are =
    parsed_followed IsLawfulEffect (two place (λ vars e. Forall vars e) (map variables rest) each) (extra (drop 2 rest))
    (parsed_both AreGroups IsLawfulEffect IsLawfulEffect place (λ vars e. Forall vars e) (map variables rest) each forall_is
    (each_is AreGroups variables rest variables_are) are)
by_head_is head.When place first rest each have are =
    parsed_followed IsLawfulEffect (two place (λ f e. When f e) (map formula rest) each) (extra (drop 2 rest))
    (parsed_both IsLawful IsLawfulEffect IsLawfulEffect place (λ f e. When f e) (map formula rest) each when_is (formulas_lawful rest have) are)
by_head_is head.Not place first rest each have are =
    parsed_followed IsLawfulEffect (over Delete (one place (map call rest))) (extra (drop 1 rest))
    (parsed_made IsLawfulEffect Delete (one place (map call rest)) delete_is)
by_head_is (head.Change c) place first rest each have are =
    parsed_followed IsLawfulEffect (two place (changed c) (map call rest) (map (new_value c) rest)) (extra (drop 2 rest))
    (parsed_both (λ it. ⊤) IsNew IsLawfulEffect place (changed c) (map call rest) (map (new_value c) rest) (changed_is c) (any_are (map call rest))
    (each_as HasLiteralLeaves IsNew (new_value c) rest (new_value_is c) have))
by_head_is head.Other place first rest each have are = parsed_made IsLawfulEffect Add (in_call place (first ∷ rest)) add_is

in_effect_is : (place : Place) (items : List Sexp) (each : List (Read RawEffect)) → Every HasLiteralLeaves items → EachIfParsed IsLawfulEffect each
    → IfParsed (in_effect place items each) IsLawfulEffect
in_effect_is place [] each have are = tt
in_effect_is place (first ∷ rest) each have are =
    by_head_is (effect_head first) place first rest (drop 1 each) have.1 (every_rest (λ v. IfParsed v IsLawfulEffect) each are)

mutual
  unfolding effect effects HasLiteralLeaves HaveLiteralLeaves

  effect_is : (tree : Sexp) → HasLiteralLeaves tree → IfParsed (effect tree) IsLawfulEffect
  effect_is (Leaf token) have = tt
  effect_is (Group' place n row) have = in_effect_is place (items-the_row-Sexp _ row) (effects row) (every_of_row row have) (effects_are row have)

  effects_are : {n : _} (row : Row_of-Sexp n) → HaveLiteralLeaves row → EachIfParsed IsLawfulEffect (effects row)
  effects_are end_of-Sexp have = tt
  effects_are (more_of-Sexp tree row) have = (effect_is tree have.0, effects_are row have.1)

pub whole_effect_is : (tree : Sexp) → HasLiteralLeaves tree → IfParsed (whole_effect tree) IsLawfulEffect
whole_effect_is tree have = parsed_or_empty IsLawfulEffect (And []) (effect tree) tree (and_is [] tt) (effect_is tree have)

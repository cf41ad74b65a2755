-- Actions that are read are lawful.
use Rattle.std.proofs.Common.{List, [], ◌∷◌}
use Rattle.up_text.specs.declared.place.Place.{Place}
use Rattle.up_text.specs.Names.{IsName}
use Rattle.up_text.specs.Lists.{Every}
use Rattle.pddl_lex.specs.declared.tree.Sexp.{Sexp}
use Rattle.pddl_lex.specs.Parses.{parsed, rejected, over, over_two}
use Rattle.pddl_parse.specs.declared.raw.Ident.{Ident}
use Rattle.pddl_parse.specs.declared.raw.RawAction.{RawAction}
use Rattle.pddl_parse.specs.declared.action.ActionKey.{ActionKey}
use Rattle.pddl_parse.specs.declared.action.ActionKey.TheVariants as key
use Rattle.pddl_parse.specs.declared.action.ActionKeys.{ActionKeys}
use Rattle.pddl_parse.specs.declared.action.ActionPart.{ActionPart}
use Rattle.pddl_parse.specs.declared.action.ActionPart.TheVariants as chosen
use Rattle.pddl_parse.specs.declared.action.ActionParts.{ActionParts}
use Rattle.pddl_parse.specs.Shapes.{Read, ident, lacking}
use Rattle.pddl_parse.specs.TypedLists.{variables}
use Rattle.pddl_parse.specs.Effects.{whole_effect}
use Rattle.pddl_parse.specs.Actions.{condition, no_keys, fresh_key, taken, lacks_value, part_of, part, alone, parts, put, filled, bare, as_action, action}
use Rattle.wellformed_texts.specs.Literals.{HasLiteralLeaves}
use Rattle.wellformed_phrases.specs.Agreement.{IfParsed}
use Rattle.wellformed_phrases.specs.LawfulPhrases.{HaveNames, IsLawful, IsLawfulEffect, IsLawfulAction}
use Rattle.wellformed_phrases.proofs.Parses.{parsed_over, parsed_two}
use Rattle.wellformed_texts.proofs.Parses.{parsed_behind}
use Rattle.wellformed_texts.proofs.Typed.{IsNamed, ident_is, AreGroups, variables_are}
use Rattle.wellformed_texts.proofs.Conditions as conditions
use Rattle.wellformed_texts.proofs.Conditions.{condition_is}
use Rattle.wellformed_texts.proofs.Effects as effects
use Rattle.wellformed_texts.proofs.Effects.{whole_effect_is}

abbrev IsPart : ActionPart → Type 0
IsPart (chosen.Parameters params) = HaveNames params
IsPart (chosen.Precondition pre) = IsLawful pre
IsPart (chosen.Effect e) = IsLawfulEffect e

record AreParts (it : ActionParts) : Type 0 where
  named : IsName it.name.name
  params : HaveNames it.params
  pre : IsLawful it.pre
  effect : IsLawfulEffect it.effect

part_of_is : (k : ActionKey) (tree : Sexp) → HasLiteralLeaves tree → IfParsed (part_of k tree) IsPart
part_of_is key.Parameters tree have = parsed_over AreGroups IsPart chosen.Parameters (variables tree) (λ groups are. are.0) (variables_are tree)
part_of_is key.Precondition tree have = parsed_over IsLawful IsPart chosen.Precondition (condition tree) (λ f is. is) (condition_is tree have)
part_of_is key.Effect tree have = parsed_over IsLawfulEffect IsPart chosen.Effect (whole_effect tree) (λ e is. is) (whole_effect_is tree have)

part_is : (v : Read ActionKey) (tree : Sexp) → HasLiteralLeaves tree → IfParsed (part v tree) IsPart
part_is (parsed k) tree have = part_of_is k tree have
part_is (rejected f fs) tree have = tt

alone_is : (v : Read ActionKey) (place : Place) → IfParsed (alone v place) (Every IsPart)
alone_is (parsed k) place = tt
alone_is (rejected f fs) place = tt

parts_are : (place : Place) (keys : ActionKeys) (items : List Sexp) → Every HasLiteralLeaves items → IfParsed (parts place keys items) (Every IsPart)
parts_are place keys [] have = tt
parts_are place keys (key ∷ []) have = alone_is (fresh_key keys key) place
parts_are place keys (key ∷ value ∷ rest) have =
    parsed_two IsPart (Every IsPart) (Every IsPart) (λ p ps. p ∷ ps) (part (fresh_key keys key) value) (parts place (taken keys (fresh_key keys key)) rest)
    (λ p ps is are. (is, are)) (part_is (fresh_key keys key) value have.1.0) (parts_are place (taken keys (fresh_key keys key)) rest have.1.1)

put_is : (it : ActionParts) (p : ActionPart) → AreParts it → IsPart p → AreParts (put it p)
put_is it (chosen.Parameters params) are is = record { named = are.named; params = is; pre = are.pre; effect = are.effect }
put_is it (chosen.Precondition pre) are is = record { named = are.named; params = are.params; pre = is; effect = are.effect }
put_is it (chosen.Effect e) are is = record { named = are.named; params = are.params; pre = are.pre; effect = is }

filled_is : (it : ActionParts) (ps : List ActionPart) → AreParts it → Every IsPart ps → AreParts (filled it ps)
filled_is it [] are is = are
filled_is it (p ∷ ps) are is = filled_is (put it p) ps (put_is it p are is.0) is.1

bare_is : (name : Ident) → IsNamed name → AreParts (bare name)
bare_is name named = record { named = named; params = tt; pre = conditions.and_is [] tt; effect = effects.and_is [] tt }

-- an action that is read has a name that may be declared and is lawful
abbrev pub IsRead : RawAction → Type 0
IsRead raw = IsName raw.name.name × IsLawfulAction raw

pub action_is : (place : Place) (items : List Sexp) → Every HasLiteralLeaves items → IfParsed (action place items) IsRead
action_is place [] have = tt
action_is place (name ∷ rest) have =
    let read = over_two (λ it ps. filled (bare it) ps) (ident name) (parts place no_keys rest) in
    parsed_behind IsRead (lacking (lacks_value no_keys rest) place) (over as_action read)
    (parsed_over AreParts IsRead as_action read (λ it are. (are.named, record { params = are.params; pre = are.pre; effect = are.effect }))
    (parsed_two IsNamed (Every IsPart) AreParts (λ it ps. filled (bare it) ps) (ident name) (parts place no_keys rest)
    (λ it ps named are. filled_is (bare it) ps (bare_is it named) are) (ident_is name) (parts_are place no_keys rest have.1)))

-- Trees that are read as the keywords of an action spell them.
use Rattle.std.proofs.Common.{◌≡◌, List, [], ◌∷◌, refl, ap, sym, subst, ◌∙◌, false}
use Rattle.std.specs.Prelude.{Option, Some, None}
use Rattle.up_text.specs.declared.place.Place.{Place}
use Rattle.pddl_lex.specs.declared.tree.Sexp.{Sexp}
use Rattle.pddl_lex.specs.Parses.{parsed, rejected, over, over_two}
use Rattle.pddl_parse.specs.declared.raw.RawGroup.{RawGroup}
use Rattle.pddl_parse.specs.declared.raw.RawFormula.{RawFormula}
use Rattle.pddl_parse.specs.declared.raw.RawEffect.{RawEffect}
use Rattle.pddl_parse.specs.declared.action.ActionKey.{ActionKey}
use Rattle.pddl_parse.specs.declared.action.ActionKey.TheVariants as key
use Rattle.pddl_parse.specs.declared.action.ActionKeys.{ActionKeys}
use Rattle.pddl_parse.specs.declared.action.ActionPart.{ActionPart}
use Rattle.pddl_parse.specs.declared.action.ActionPart.TheVariants as chosen
use Rattle.pddl_parse.specs.declared.action.ActionParts.{ActionParts}
use Rattle.pddl_parse.specs.Shapes.{Read, ident, lacking}
use Rattle.pddl_parse.specs.TypedLists.{variables}
use Rattle.pddl_parse.specs.Effects.{whole_effect}
use Rattle.pddl_parse.specs.Actions.{condition, no_keys, has_key, with_key, fresh_key, taken, lacks_value, part_of, part, alone, parts, put, filled, bare, as_action, action}
use Rattle.pddl_parse.specs.Forms.{IsIdent}
use Rattle.pddl_parse.proofs.Spelled.{Sound, sound_over, sound_two, sound_behind, ident_sound}
use Rattle.pddl_parse.proofs.SpelledFormulas.{AreVars, vars}
use Rattle.pddl_parse.proofs.SpelledLists.{vars_sound}
use Rattle.grammar_shapes.specs.Effects.{IsWholeEffect}
use Rattle.grammar_shapes.specs.Actions as spelled
use Rattle.grammar_shapes.specs.Actions.{IsCondition, AreKeys, with_parameters, with_precondition, with_effect, IsAction, an_action}
use Rattle.grammar_shapes.proofs.ActionKeys.{key_text, IsKeyword, IsFresh, fresh_is, open_none, open_free, open_stood, AreOpen, with_values}
use Rattle.grammar_shapes.proofs.Conditions.{condition_sound}
use Rattle.grammar_shapes.proofs.Effects.{whole_effect_sound}

-- what these trees spell where these parts are read of them after these keys
record AreSpelled (keys : ActionKeys) (trees : List Sexp) (ps : List ActionPart) : Type 0 where
  params : Option (List RawGroup)
  pre : Option RawFormula
  e : Option RawEffect
  are : AreKeys trees params pre e
  may : AreOpen keys params pre e
  fill : (it : ActionParts) → filled it ps ≡ with_values it params pre e

-- what is read of a key's value
abbrev IsPart : ActionKey → Sexp → ActionPart → Type 0
IsPart key.Parameters value (chosen.Parameters groups) = AreVars value groups
IsPart key.Precondition value (chosen.Precondition f) = IsCondition value f
IsPart key.Effect value (chosen.Effect e) = IsWholeEffect value e
IsPart _ value _ = ⊥

part_sound : (k : ActionKey) (value : Sexp) → Sound (part_of k value) (IsPart k value)
part_sound key.Parameters value =
    sound_over (AreVars value) (IsPart key.Parameters value) chosen.Parameters (variables value) (λ groups are. are) (vars_sound value)
part_sound key.Precondition value =
    sound_over (IsCondition value) (IsPart key.Precondition value) chosen.Precondition (condition value) (λ f is. is) (condition_sound value)
part_sound key.Effect value =
    sound_over (IsWholeEffect value) (IsPart key.Effect value) chosen.Effect (whole_effect value) (λ e is. is) (whole_effect_sound value)

params_joined : (keys : ActionKeys) (tree value : Sexp) (rest : List Sexp) (groups : List RawGroup) (ps : List ActionPart)
    → has_key keys key.Parameters ≡ false → IsKeyword tree (key_text key.Parameters) → AreVars value groups
    → AreSpelled (with_key keys key.Parameters) rest ps → AreSpelled keys (tree ∷ value ∷ rest) (chosen.Parameters groups ∷ ps)
params_joined keys tree value rest groups ps free is (vars vars_at trees whole are) others =
    let none : others.params ≡ None = open_stood others.params others.may.of_params in
    let left : AreKeys rest None others.pre others.e = subst (λ v. AreKeys rest v others.pre others.e) none others.are in
    record {
      params = Some groups;
      pre = others.pre;
      e = others.e;
      are = rw (is.is, whole) (with_parameters is.at vars_at trees groups rest others.pre others.e are left);
      may = record { of_params = open_free keys.parameters groups free; of_pre = others.may.of_pre; of_effect = others.may.of_effect };
      fill = λ it. others.fill (put it (chosen.Parameters groups))
          ∙ ap (λ v. with_values (put it (chosen.Parameters groups)) v others.pre others.e) none;
    }

pre_joined : (keys : ActionKeys) (tree value : Sexp) (rest : List Sexp) (f : RawFormula) (ps : List ActionPart)
    → has_key keys key.Precondition ≡ false → IsKeyword tree (key_text key.Precondition) → IsCondition value f
    → AreSpelled (with_key keys key.Precondition) rest ps → AreSpelled keys (tree ∷ value ∷ rest) (chosen.Precondition f ∷ ps)
pre_joined keys tree value rest f ps free is holds others =
    let none : others.pre ≡ None = open_stood others.pre others.may.of_pre in
    let left : AreKeys rest others.params None others.e = subst (λ v. AreKeys rest others.params v others.e) none others.are in
    record {
      params = others.params;
      pre = Some f;
      e = others.e;
      are = rw is.is (with_precondition is.at value f rest others.params others.e holds left);
      may = record { of_params = others.may.of_params; of_pre = open_free keys.precondition f free; of_effect = others.may.of_effect };
      fill = λ it. others.fill (put it (chosen.Precondition f))
          ∙ ap (λ v. with_values (put it (chosen.Precondition f)) others.params v others.e) none;
    }

effect_joined : (keys : ActionKeys) (tree value : Sexp) (rest : List Sexp) (e : RawEffect) (ps : List ActionPart)
    → has_key keys key.Effect ≡ false → IsKeyword tree (key_text key.Effect) → IsWholeEffect value e
    → AreSpelled (with_key keys key.Effect) rest ps → AreSpelled keys (tree ∷ value ∷ rest) (chosen.Effect e ∷ ps)
effect_joined keys tree value rest e ps free is changes others =
    let none : others.e ≡ None = open_stood others.e others.may.of_effect in
    let left : AreKeys rest others.params others.pre None = subst (AreKeys rest others.params others.pre) none others.are in
    record {
      params = others.params;
      pre = others.pre;
      e = Some e;
      are = rw is.is (with_effect is.at value e rest others.params others.pre changes left);
      may = record { of_params = others.may.of_params; of_pre = others.may.of_pre; of_effect = open_free keys.effect e free };
      fill = λ it. others.fill (put it (chosen.Effect e)) ∙ ap (with_values (put it (chosen.Effect e)) others.params others.pre) none;
    }

joined : (keys : ActionKeys) (tree value : Sexp) (rest : List Sexp) (k : ActionKey) (p : ActionPart) (ps : List ActionPart)
    → has_key keys k ≡ false → IsKeyword tree (key_text k) → IsPart k value p
    → AreSpelled (with_key keys k) rest ps → AreSpelled keys (tree ∷ value ∷ rest) (p ∷ ps)
joined keys tree value rest key.Parameters (chosen.Parameters groups) ps free is so others =
    params_joined keys tree value rest groups ps free is so others
joined keys tree value rest key.Precondition (chosen.Precondition f) ps free is so others =
    pre_joined keys tree value rest f ps free is so others
joined keys tree value rest key.Effect (chosen.Effect e) ps free is so others =
    effect_joined keys tree value rest e ps free is so others
joined keys tree value rest _ _ ps free is so others = absurd so

step_sound : (place : Place) (keys : ActionKeys) (tree value : Sexp) (rest : List Sexp) (v : Read ActionKey) → IsFresh keys tree v
    → Sound (parts place (taken keys v) rest) (AreSpelled (taken keys v) rest)
    → Sound (over_two (λ p ps. p ∷ ps) (part v value) (parts place (taken keys v) rest)) (AreSpelled keys (tree ∷ value ∷ rest))
step_sound place keys tree value rest (parsed k) is others =
    sound_two (IsPart k value) (AreSpelled (with_key keys k) rest) (AreSpelled keys (tree ∷ value ∷ rest)) (λ p ps. p ∷ ps)
    (part_of k value) (parts place (with_key keys k) rest)
    (λ p ps so are. joined keys tree value rest k p ps is.0 is.1 so are) (part_sound k value) others
step_sound place keys tree value rest (rejected f fs) is others = tt

alone_sound : (P : List ActionPart → Type 0) (v : Read ActionKey) (place : Place) → Sound (alone v place) P
alone_sound P (parsed k) place = tt
alone_sound P (rejected f fs) place = tt

parts_sound : (place : Place) (keys : ActionKeys) (trees : List Sexp) → Sound (parts place keys trees) (AreSpelled keys trees)
parts_sound place keys [] =
    record {
      params = None;
      pre = None;
      e = None;
      are = spelled.no_keys;
      may = record {
        of_params = open_none keys.parameters None refl;
        of_pre = open_none keys.precondition None refl;
        of_effect = open_none keys.effect None refl;
      };
      fill = λ it. refl;
    }
parts_sound place keys (tree ∷ []) = alone_sound (AreSpelled keys (tree ∷ [])) (fresh_key keys tree) place
parts_sound place keys (tree ∷ value ∷ rest) =
    step_sound place keys tree value rest (fresh_key keys tree) (fresh_is keys tree)
    (parts_sound place (taken keys (fresh_key keys tree)) rest)

pub action_sound : (place : Place) (trees : List Sexp) → Sound (action place trees) (IsAction trees)
action_sound place [] = tt
action_sound place (head ∷ rest) =
    let IsSo : ActionParts → Type 0 = λ it. IsAction (head ∷ rest) (as_action it) in
    let read = over_two (λ name ps. filled (bare name) ps) (ident head) (parts place no_keys rest) in
    sound_behind (IsAction (head ∷ rest)) (lacking (lacks_value no_keys rest) place) (over as_action read) (λ whole.
    sound_over IsSo (IsAction (head ∷ rest)) as_action read (λ it is. is)
    (sound_two (IsIdent head) (AreSpelled no_keys rest) IsSo (λ name ps. filled (bare name) ps) (ident head) (parts place no_keys rest)
    (λ name ps is so. subst IsSo (sym (so.fill (bare name))) (an_action head name rest so.params so.pre so.e is so.are))
    (ident_sound head) (parts_sound place no_keys rest)))

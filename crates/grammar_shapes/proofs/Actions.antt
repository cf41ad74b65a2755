-- Trees spell an action exactly where they are read as it.
use Rattle.std.proofs.Common.{◌≡◌, List, [], ◌∷◌, refl, subst, false}
use Rattle.std.specs.Prelude.{Option, None}
use Rattle.up_text.specs.declared.place.Place.{Place}
use Rattle.pddl_lex.specs.declared.tree.TokenKind.TheVariants as kind
use Rattle.pddl_lex.specs.declared.tree.Sexp.{Sexp, Group}
use Rattle.pddl_lex.specs.Parses.{parsed}
use Rattle.pddl_parse.specs.declared.raw.Ident.{Ident}
use Rattle.pddl_parse.specs.declared.raw.RawAction.{RawAction}
use Rattle.pddl_parse.specs.declared.raw.RawGroup.{RawGroup}
use Rattle.pddl_parse.specs.declared.raw.RawFormula.{RawFormula}
use Rattle.pddl_parse.specs.declared.raw.RawEffect.{RawEffect}
use Rattle.pddl_parse.specs.declared.action.ActionKey.{ActionKey}
use Rattle.pddl_parse.specs.declared.action.ActionKey.TheVariants as key
use Rattle.pddl_parse.specs.declared.action.ActionKeys.{ActionKeys}
use Rattle.pddl_parse.specs.declared.action.ActionPart.{ActionPart}
use Rattle.pddl_parse.specs.declared.action.ActionPart.TheVariants as chosen
use Rattle.pddl_parse.specs.declared.action.ActionParts.{ActionParts}
use Rattle.pddl_parse.specs.Shapes.{ident}
use Rattle.pddl_parse.specs.Actions.{no_keys, has_key, with_key, lacks_value, part_of, parts, put, filled, bare, as_action, action}
use Rattle.pddl_parse.specs.Forms.{leaf}
use Rattle.pddl_parse.proofs.Nodes.{variables-Group}
use Rattle.pddl_parse.proofs.Read.{ident_read, typed_read}
use Rattle.pddl_parse.proofs.Spelled.{Sound}
use Rattle.grammar_shapes.specs.Actions as keys
use Rattle.grammar_shapes.specs.Actions.{AreKeys, with_parameters, with_precondition, with_effect, IsAction, an_action}
use Rattle.grammar_shapes.proofs.ActionKeys.{key_text, fresh_read, open_some, AreOpen, with_values}
pub use Rattle.grammar_shapes.proofs.Conditions.{condition_read, condition_spelled}
use Rattle.grammar_shapes.proofs.Effects.{whole_effect_read}
use Rattle.grammar_shapes.proofs.SpelledActions.{action_sound}

-- what is read of the keywords that these trees spell
record AreRead (place : Place) (keys : ActionKeys) (trees : List Sexp)
    (params : Option (List RawGroup)) (pre : Option RawFormula) (e : Option RawEffect) : Type 0 where
  made : List ActionPart
  read : parts place keys trees ≡ parsed made
  whole : lacks_value keys trees ≡ false
  fill : (it : ActionParts) → filled it made ≡ with_values it params pre e

part_read : (place : Place) (keys : ActionKeys) (k : ActionKey) (at : Place)
    (value : Sexp) (rest : List Sexp) (p : ActionPart) (ps : List ActionPart)
    → has_key keys k ≡ false → part_of k value ≡ parsed p → parts place (with_key keys k) rest ≡ parsed ps
    → parts place keys (leaf (kind.Keyword (key_text k)) at ∷ value ∷ rest) ≡ parsed (p ∷ ps)
part_read place keys k at value rest p ps free is others = rw (fresh_read k at keys free, is, others) refl

none_lacks : (keys : ActionKeys) (k : ActionKey) (at : Place) (value : Sexp) (rest : List Sexp)
    → has_key keys k ≡ false → lacks_value (with_key keys k) rest ≡ false
    → lacks_value keys (leaf (kind.Keyword (key_text k)) at ∷ value ∷ rest) ≡ false
none_lacks keys k at value rest free others = rw (fresh_read k at keys free) others

keys_read : (place : Place) (trees : List Sexp) (params : Option (List RawGroup)) (pre : Option RawFormula) (e : Option RawEffect)
    → AreKeys trees params pre e → (keys : ActionKeys) → AreOpen keys params pre e → AreRead place keys trees params pre e
keys_read place _ _ _ _ keys.no_keys keys may = record { made = []; read = refl; whole = refl; fill = λ it. refl }
keys_read place _ _ _ _ (with_parameters at vars_at vars groups rest pre e are others) keys may =
    let free : keys.parameters ≡ false = open_some keys.parameters groups may.of_params in
    let after : AreRead place (with_key keys key.Parameters) rest None pre e =
    keys_read place rest None pre e others (with_key keys key.Parameters)
    (record { of_params = tt; of_pre = may.of_pre; of_effect = may.of_effect }) in
    record {
      made = chosen.Parameters groups ∷ after.made;
      read = part_read place keys key.Parameters at (Group vars_at vars) rest (chosen.Parameters groups) after.made free
          (rw (variables-Group vars_at vars, typed_read vars_at vars groups are) refl) after.read;
      whole = none_lacks keys key.Parameters at (Group vars_at vars) rest free after.whole;
      fill = λ it. after.fill (put it (chosen.Parameters groups));
    }
keys_read place _ _ _ _ (with_precondition at tree f rest params e is others) keys may =
    let free : keys.precondition ≡ false = open_some keys.precondition f may.of_pre in
    let after : AreRead place (with_key keys key.Precondition) rest params None e =
    keys_read place rest params None e others (with_key keys key.Precondition)
    (record { of_params = may.of_params; of_pre = tt; of_effect = may.of_effect }) in
    record {
      made = chosen.Precondition f ∷ after.made;
      read = part_read place keys key.Precondition at tree rest (chosen.Precondition f) after.made free
          (rw (condition_read tree f is) refl) after.read;
      whole = none_lacks keys key.Precondition at tree rest free after.whole;
      fill = λ it. after.fill (put it (chosen.Precondition f));
    }
keys_read place _ _ _ _ (with_effect at tree e rest params pre is others) keys may =
    let free : keys.effect ≡ false = open_some keys.effect e may.of_effect in
    let after : AreRead place (with_key keys key.Effect) rest params pre None =
    keys_read place rest params pre None others (with_key keys key.Effect)
    (record { of_params = may.of_params; of_pre = may.of_pre; of_effect = tt }) in
    record {
      made = chosen.Effect e ∷ after.made;
      read = part_read place keys key.Effect at tree rest (chosen.Effect e) after.made free
          (rw (whole_effect_read tree e is) refl) after.read;
      whole = none_lacks keys key.Effect at tree rest free after.whole;
      fill = λ it. after.fill (put it (chosen.Effect e));
    }

joined : (place : Place) (head : Sexp) (name : Ident) (rest : List Sexp)
    (params : Option (List RawGroup)) (pre : Option RawFormula) (e : Option RawEffect) (a : RawAction)
    → AreRead place no_keys rest params pre e → ident head ≡ parsed name
    → a ≡ as_action (with_values (bare name) params pre e) → action place (head ∷ rest) ≡ parsed a
joined place head name rest params pre e a are is whole = rw (are.whole, is, are.read, are.fill (bare name), whole) refl

pub action_read : (place : Place) (trees : List Sexp) (a : RawAction) → IsAction trees a → action place trees ≡ parsed a
action_read place _ _ (an_action head name rest params pre e is are) =
    joined place head name rest params pre e _
    (keys_read place rest params pre e are no_keys (record { of_params = tt; of_pre = tt; of_effect = tt })) (ident_read head name is) refl

-- ---- what trees are read as, they spell

pub action_spelled : (place : Place) (trees : List Sexp) (a : RawAction) → action place trees ≡ parsed a → IsAction trees a
action_spelled place trees a read = subst (λ v. Sound v (IsAction trees)) read (action_sound place trees)

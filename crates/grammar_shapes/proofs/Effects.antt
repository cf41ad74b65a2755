-- A tree spells an effect exactly where it is read as it.
use Rattle.std.proofs.Common.{◌≡◌, List, [], ◌∷◌, map, refl, ap, sym, subst, ◌∙◌}
use Rattle.std.specs.Prelude.{codes}
use Rattle.up_text.specs.declared.place.Place.{Place}
use Rattle.pddl_lex.specs.Trees.{place_of}
use Rattle.pddl_lex.specs.declared.tree.TokenKind.TheVariants as kind
use Rattle.pddl_lex.specs.declared.tree.Sexp.{Sexp, Group}
use Rattle.pddl_lex.specs.Parses.{parsed, rejected, all}
use Rattle.pddl_parse.specs.declared.raw.RawCall.{RawCall}
use Rattle.pddl_parse.specs.declared.raw.RawChange.TheVariants as change
use Rattle.pddl_parse.specs.declared.raw.RawEffect.{RawEffect, And}
use Rattle.pddl_parse.specs.declared.effect.NewValue.TheVariants as new
use Rattle.pddl_parse.specs.declared.shape.ShapeError.TheVariants.{Expected}
use Rattle.pddl_parse.specs.Brackets.{is_word}
use Rattle.pddl_parse.specs.Effects.{in_call, call, new_value, effect, whole_effect}
use Rattle.pddl_parse.specs.Forms.{leaf}
use Rattle.pddl_parse.proofs.Nodes.{bracket-Group, effect-Group, effect_head-Leaf, variables-Group}
use Rattle.pddl_parse.proofs.Read.{ident_read, terms_read, typed_read, formula_read}
use Rattle.grammar_shapes.specs.Effects.{IsCall, a_call, IsEffect, of_and, of_forall, of_when, an_add, a_delete, a_change, an_undefine, AreEffects, no_effects, more_effects, IsWholeEffect, no_effect, an_effect}
use Rattle.pddl_parse.proofs.Spelled.{Sound}
use Rattle.grammar_shapes.proofs.EffectWords.{ident_other, value_read, change_read}
use Rattle.grammar_shapes.proofs.SpelledEffects.{call_sound, effect_sound}
use Rattle.grammar_shapes.proofs.Parses.{sound_map}
use Rattle.grammar_shapes.proofs.Wholes.{IsEmpty, nothing_read, some_read, whole_sound}

pub call_read : (tree : Sexp) (it : RawCall) → IsCall tree it → call tree ≡ parsed it
call_read _ _ (a_call place head name trees args is are) =
    rw (bracket-Group in_call place (head ∷ trees), ident_read head name is, terms_read trees args are) refl

undefined_read : (at : Place) → new_value change.Assign (leaf (kind.Word (codes "undefined")) at) ≡ parsed (new.Undefined at)
unfolding is_word place_of
undefined_read at = refl

mutual
  pub effect_read : (tree : Sexp) (e : RawEffect) → IsEffect tree e → effect tree ≡ parsed e
  effect_read _ _ (of_and place at trees es are) =
      rw (effect-Group place (leaf (kind.Word (codes "and")) at ∷ trees), effect_head-Leaf, effects_read trees es are) refl
  effect_read _ _ (of_forall place at vars_at vars groups tree e are is) =
      rw (
        effect-Group place (leaf (kind.Word (codes "forall")) at ∷ Group vars_at vars ∷ tree ∷ []),
        effect_head-Leaf,
        variables-Group vars_at vars,
        typed_read vars_at vars groups are,
        effect_read tree e is,
      ) refl
  effect_read _ _ (of_when place at one two f e holds is) =
      rw (
        effect-Group place (leaf (kind.Word (codes "when")) at ∷ one ∷ two ∷ []),
        effect_head-Leaf,
        formula_read one f holds,
        effect_read two e is,
      ) refl
  effect_read _ _ (an_add _ _ (a_call place head name trees args is are)) =
      rw (effect-Group place (head ∷ trees), ident_other head name is, ident_read head name is, terms_read trees args are) refl
  effect_read _ _ (a_delete place at tree atom is) =
      rw (effect-Group place (leaf (kind.Word (codes "not")) at ∷ tree ∷ []), effect_head-Leaf, call_read tree atom is) refl
  effect_read _ _ (a_change place at word c one two target value changes is of) =
      rw (
        effect-Group place (leaf (kind.Word word) at ∷ one ∷ two ∷ []),
        effect_head-Leaf,
        change_read word c changes,
        call_read one target is,
        value_read c two value of,
      ) refl
  effect_read _ _ (an_undefine place at undefined_at tree target is) =
      rw (
        effect-Group place (leaf (kind.Word (codes "assign")) at ∷ tree ∷ leaf (kind.Word (codes "undefined")) undefined_at ∷ []),
        effect_head-Leaf,
        call_read tree target is,
        undefined_read undefined_at,
      ) refl

  pub effects_read : (trees : List Sexp) (es : List RawEffect) → AreEffects trees es → all (map effect trees) ≡ parsed es
  effects_read _ _ no_effects = refl
  effects_read _ _ (more_effects tree e trees es is others) = rw (effect_read tree e is, effects_read trees es others) refl

no_empty_effect : (tree : Sexp) (e : RawEffect) → effect tree ≡ parsed e → IsEmpty tree → ⊥
no_empty_effect tree e is empty =
    let none : effect tree ≡ rejected (Expected empty.place) [] = ap effect empty.is ∙ effect-Group empty.place [] in absurd cc

pub whole_effect_read : (tree : Sexp) (e : RawEffect) → IsWholeEffect tree e → whole_effect tree ≡ parsed e
whole_effect_read _ _ (no_effect place) = nothing_read (And []) (effect (Group place [])) place
whole_effect_read _ _ (an_effect tree e is) =
    some_read (And []) (effect tree) tree e (effect_read tree e is) (no_empty_effect tree e (effect_read tree e is))

-- ---- what a tree is read as, it spells

pub call_spelled : (tree : Sexp) (it : RawCall) → call tree ≡ parsed it → IsCall tree it
call_spelled tree it e = subst (λ v. Sound v (IsCall tree)) e (call_sound tree)

pub effect_spelled : (tree : Sexp) (e : RawEffect) → effect tree ≡ parsed e → IsEffect tree e
effect_spelled tree e read = subst (λ v. Sound v (IsEffect tree)) read (effect_sound tree)

nothing_is : (tree : Sexp) → IsEmpty tree → IsWholeEffect tree (And [])
nothing_is tree empty = subst (λ x. IsWholeEffect x (And [])) (sym empty.is) (no_effect empty.place)

pub whole_effect_sound : (tree : Sexp) → Sound (whole_effect tree) (IsWholeEffect tree)
whole_effect_sound tree =
    whole_sound (IsWholeEffect tree) (And []) (effect tree) tree (nothing_is tree)
    (sound_map (IsEffect tree) (IsWholeEffect tree) (effect tree) (λ e is. an_effect tree e is) (effect_sound tree))

pub whole_effect_spelled : (tree : Sexp) (e : RawEffect) → whole_effect tree ≡ parsed e → IsWholeEffect tree e
whole_effect_spelled tree e read = subst (λ v. Sound v (IsWholeEffect tree)) read (whole_effect_sound tree)

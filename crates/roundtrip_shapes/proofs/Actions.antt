-- The trees and the abstract syntax of written actions.
use Rattle.std.proofs.Common.{◌≡◌, Bool, false, List, [], ◌∷◌, ◌++◌, take, refl, ap, ◌∙◌, append_assoc}
use Rattle.std.specs.Prelude.{codes, flat_map}
use Rattle.up_text.specs.declared.place.Place.{Place}
use Rattle.up_text.specs.Names.{IsName}
use Rattle.up_tree.specs.declared.term.Typed.{Typed}
use Rattle.up_tree.specs.declared.action.Action.{Action}
use Rattle.up_tree.specs.declared.problem.Parts.{Parts}
use Rattle.up_tree.specs.WellFormed.{IsAction, IsWellFormed}
use Rattle.pddl_lex.specs.declared.tree.Token.{Token}
use Rattle.pddl_lex.specs.declared.tree.TokenKind.{TokenKind}
use Rattle.pddl_lex.specs.declared.tree.TokenKind.TheVariants as kind
use Rattle.pddl_lex.specs.declared.tree.Sexp.{Sexp, Leaf, Group, Group'}
use Rattle.pddl_lex.specs.Brackets.{Bracketed}
use Rattle.pddl_lex.specs.Parses.{parsed}
use Rattle.pddl_parse.specs.declared.raw.Ident.{Ident}
use Rattle.pddl_parse.specs.declared.raw.RawGroup.{RawGroup}
use Rattle.pddl_parse.specs.declared.raw.RawEffect.{RawEffect}
use Rattle.pddl_parse.specs.declared.raw.RawFormula.{RawFormula}
use Rattle.pddl_parse.specs.declared.raw.RawAction.{RawAction}
use Rattle.pddl_parse.specs.Shapes.{Read}
use Rattle.pddl_parse.specs.Brackets.{is_empty, is_none}
use Rattle.pddl_parse.specs.Effects as parse
use Rattle.pddl_parse.specs.Actions.{action, action_head}
use Rattle.pddl_parse.specs.Forms as forms
use Rattle.pddl_parse.proofs.Nodes.{is_empty-Group}
use Rattle.pddl_parse.proofs.Read.{ident_read, formula_read}
use Rattle.roundtrip_tokens.specs.Tokens.{group, variables_tokens, formula_tokens}
use Rattle.roundtrip_tokens.specs.EffectTokens.{effect_row_tokens, action_tokens}
use Rattle.roundtrip_tokens.proofs.Named.{every-map, every-take}
use Rattle.roundtrip_shapes.specs.Formed.{FormsAction, AllNamed}
use Rattle.roundtrip_shapes.specs.Raw.{IsFirst, first, IsRawFormula}
use Rattle.roundtrip_shapes.specs.RawEffects.{IsRawAll, AreRawRows, IsRawAction}
use Rattle.roundtrip_shapes.proofs.Trees.{kinds_of, group_formed, Formed, Rowed, first_rowed, Led, led, Alone, alone, Bracket, bracket, led_rowed, alone_rowed}
use Rattle.roundtrip_shapes.proofs.Names.{well_named}
use Rattle.roundtrip_shapes.proofs.Terms.{SpellsName, spells_name, name_formed}
use Rattle.roundtrip_shapes.proofs.Groups.{SpellGroups, spell_groups}
use Rattle.roundtrip_shapes.proofs.Formulas.{SpellsFormula, spells_formula, formula_formed, list_formed}
use Rattle.roundtrip_shapes.proofs.Effects.{SpellsEffect, spells_effect}
use Rattle.roundtrip_shapes.proofs.Rows.{variables_read, all_formed}
use Rattle.roundtrip_tokens.specs.Spelled.{AreOfKinds}

-- no condition and no effect is `()`
pub some_formula : (tree : Sexp) (f : RawFormula) → forms.IsFormula tree f → is_empty tree ≡ false
some_formula _ _ (forms.of_and place there trees fs is) = is_empty-Group place _
some_formula _ _ (forms.of_or place there trees fs is) = is_empty-Group place _
some_formula _ _ (forms.of_not place there tree f is) = is_empty-Group place _
some_formula _ _ (forms.of_imply place there one two f g is also) = is_empty-Group place _
some_formula _ _ (forms.of_exists place there vars_at vars groups tree f are is) = is_empty-Group place _
some_formula _ _ (forms.of_forall place there vars_at vars groups tree f are is) = is_empty-Group place _
some_formula _ _ (forms.an_atom place head p trees terms is are) = is_empty-Group place _
some_formula _ _ (forms.a_comparison place there sign r one two a b is is_a is_b) = is_empty-Group place _

some_items : (place : Place) (items : List Sexp) (each : List (Read RawEffect)) (e : RawEffect) → parse.in_effect place items each ≡ parsed e → is_none items ≡ false
some_items place [] each e is = absurd cc
some_items place (tree ∷ items) each e is = refl

some_effect : (tree : Sexp) (e : RawEffect) → parse.effect tree ≡ parsed e → is_empty tree ≡ false
unfolding parse.effect is_empty
some_effect (Leaf token) e is = refl
some_effect (Group' place n row) e is = some_items place _ _ e is

-- what the three keys and their values are read as
action_read : (place params_at pre_at effect_at vars_at : Place) (name : Sexp) (it : Ident) (vars : List Sexp) (groups : List RawGroup) (pre : Sexp) (f : RawFormula) (last : Sexp) (e : RawEffect)
    → forms.IsIdent name it → forms.AreTyped vars groups → forms.IsFormula pre f → parse.effect last ≡ parsed e
    → action place (
    name ∷ forms.leaf (kind.Keyword (codes "parameters")) params_at ∷ Group vars_at vars ∷ forms.leaf (kind.Keyword (codes "precondition")) pre_at ∷ pre
    ∷ forms.leaf (kind.Keyword (codes "effect")) effect_at ∷ last ∷ []
    ) ≡ parsed (record { name = it; params = groups; pre = f; effect = e })
unfolding action_head
action_read place params_at pre_at effect_at vars_at name it vars groups pre f last e is are is_f is_e =
    rw (ident_read name it is, variables_read vars_at vars groups are, some_formula pre f is_f, formula_read pre f is_f, some_effect last e is_e, is_e) refl

-- the trees of an action
abbrev EffectRow : Bool → Action → List Sexp → Type 0
EffectRow typed a trees = Led (kind.Keyword (codes "effect")) (Alone (SpellsEffect (IsRawAll (AreRawRows typed a.rows)))) trees

abbrev PreRow : Bool → Action → List Sexp → Type 0
PreRow typed a trees = Led (kind.Keyword (codes "precondition")) (IsFirst (SpellsFormula (IsRawFormula typed a.pre)) (EffectRow typed a)) trees

abbrev ParamsRow : Bool → Action → List Sexp → Type 0
ParamsRow typed a trees = Led (kind.Keyword (codes "parameters")) (IsFirst (Bracket (SpellGroups typed a.params)) (PreRow typed a)) trees

abbrev ActionRow : Bool → Action → List Sexp → Type 0
ActionRow typed a trees = Led (kind.Keyword (codes "action")) (IsFirst (SpellsName a.name) (ParamsRow typed a)) trees

abbrev effect_kinds : Bool → Action → List TokenKind
effect_kinds typed a = kind.Keyword (codes "effect") ∷ group (kind.Word (codes "and") ∷ flat_map (effect_row_tokens typed) a.rows)

abbrev pre_kinds : Bool → Action → List TokenKind
pre_kinds typed a = kind.Keyword (codes "precondition") ∷ (formula_tokens typed a.pre ++ effect_kinds typed a)

-- a bracket whose trees after `:action` are read as the action
data SpellsBracket (typed : Bool) (a : Action) : Sexp → Type 0 where
  spells_bracket : (place key : Place) (rest : List Sexp) (form : RawAction) → action place rest ≡ parsed form → IsRawAction typed a form
      → SpellsBracket typed a (Group place (forms.leaf (kind.Keyword (codes "action")) key ∷ rest))

action_made : (typed : Bool) (a : Action) (place : Place) (trees : List Sexp) → ActionRow typed a trees → SpellsBracket typed a (Group place trees)
action_made typed a place _ (
    led key _ (
    first name _ (spells_name it is_name so_name) (
    led params_at _ (
    first _ _ (bracket vars_at vars (spell_groups groups are raws)) (led pre_at _ (first pre _ (spells_formula f is_f so_f) (led effect_at _ (alone last (spells_effect e is_e so_e)))))
    )
    )
    )
    ) =
    spells_bracket place key _ (record { name = it; params = groups; pre = f; effect = e })
    (action_read place params_at pre_at effect_at vars_at name it vars groups pre f last e is_name are is_f is_e)
    (record { name = so_name; params = raws; pre = so_f; effect = so_e })

module _ (p : Parts) (well : IsWellFormed p) (typed : Bool) (a : Action) (named : IsName a.name) (is : IsAction p a) where
  objects_named : AllNamed (take p.constants p.objects)
  objects_named =
      every-take (λ o. IsName o.name) p.constants p.objects (every-map (λ (o : Typed). o.name) IsName (λ o. IsName o.name) (λ o is. is) p.objects well.objects.names_all)

  effect_rowed : (tokens : List Token) → kinds_of tokens ≡ effect_kinds typed a → Rowed tokens (EffectRow typed a)
  effect_rowed =
      led_rowed (kind.Keyword (codes "effect")) refl (group (kind.Word (codes "and") ∷ flat_map (effect_row_tokens typed) a.rows))
      (Alone (SpellsEffect (IsRawAll (AreRawRows typed a.rows))))
      (λ back there. alone_rowed (all_formed p (well_named p well) (take p.constants p.objects) objects_named typed a.params is.params.names_all a.rows is.rows back there))

  pre_rowed : (tokens : List Token) → kinds_of tokens ≡ pre_kinds typed a → Rowed tokens (PreRow typed a)
  pre_rowed =
      led_rowed (kind.Keyword (codes "precondition")) refl (formula_tokens typed a.pre ++ effect_kinds typed a)
      (IsFirst (SpellsFormula (IsRawFormula typed a.pre)) (EffectRow typed a))
      (λ back there. first_rowed back (formula_tokens typed a.pre) (effect_kinds typed a) there (SpellsFormula (IsRawFormula typed a.pre)) (EffectRow typed a)
      (formula_formed p (well_named p well) (take p.constants p.objects) objects_named typed a.params is.params.names_all a.pre is.pre) effect_rowed
      (IsFirst (SpellsFormula (IsRawFormula typed a.pre)) (EffectRow typed a)) first)

  params_rowed : (tokens : List Token) → kinds_of tokens ≡ kind.Keyword (codes "parameters") ∷ (group (variables_tokens typed a.params) ++ pre_kinds typed a) → Rowed tokens (ParamsRow typed a)
  params_rowed =
      led_rowed (kind.Keyword (codes "parameters")) refl (group (variables_tokens typed a.params) ++ pre_kinds typed a)
      (IsFirst (Bracket (SpellGroups typed a.params)) (PreRow typed a))
      (λ back there. first_rowed back (group (variables_tokens typed a.params)) (pre_kinds typed a) there (Bracket (SpellGroups typed a.params)) (PreRow typed a)
      (list_formed p (well_named p well) (take p.constants p.objects) objects_named typed [] a.params is.params) pre_rowed
      (IsFirst (Bracket (SpellGroups typed a.params)) (PreRow typed a)) first)

  action_rowed : (tokens : List Token)
      → kinds_of tokens ≡ kind.Keyword (codes "action") ∷ kind.Word a.name ∷ kind.Keyword (codes "parameters") ∷ (group (variables_tokens typed a.params) ++ pre_kinds typed a)
      → Rowed tokens (ActionRow typed a)
  action_rowed =
      led_rowed (kind.Keyword (codes "action")) refl (kind.Word a.name ∷ kind.Keyword (codes "parameters") ∷ (group (variables_tokens typed a.params) ++ pre_kinds typed a))
      (IsFirst (SpellsName a.name) (ParamsRow typed a))
      (λ back there. first_rowed back (kind.Word a.name ∷ []) (kind.Keyword (codes "parameters") ∷ (group (variables_tokens typed a.params) ++ pre_kinds typed a)) there
      (SpellsName a.name) (ParamsRow typed a) (name_formed a.name named) params_rowed (IsFirst (SpellsName a.name) (ParamsRow typed a)) first)

  action_formed : (tokens : List Token) → kinds_of tokens ≡ action_tokens typed a → Formed tokens (SpellsBracket typed a)
  action_formed tokens kinds =
      group_formed tokens (kind.Keyword (codes "action") ∷ kind.Word a.name ∷ kind.Keyword (codes "parameters") ∷ (group (variables_tokens typed a.params) ++ pre_kinds typed a))
      (kinds ∙ ap (λ (more : List TokenKind). group (kind.Keyword (codes "action") ∷ kind.Word a.name ∷ kind.Keyword (codes "parameters") ∷ more))
      (append_assoc (group (variables_tokens typed a.params)) (kind.Keyword (codes "precondition") ∷ formula_tokens typed a.pre) (effect_kinds typed a)))
      (ActionRow typed a) action_rowed (SpellsBracket typed a) (action_made typed a)

spelled : (typed : Bool) (a : Action) (tokens : List Token) (tree : Sexp) → Bracketed tokens (tree ∷ []) → SpellsBracket typed a tree → FormsAction typed a tokens
spelled typed a tokens _ b (spells_bracket place key rest form read is) = record { place = place; key = key; rest = rest; form = form; bracketed = b; read = read; is = is }

pub actions_are_formed : (p : Parts) → IsWellFormed p → (typed : Bool) (a : Action) → IsName a.name → IsAction p a
    → (tokens : List Token) → AreOfKinds tokens (action_tokens typed a) → FormsAction typed a tokens
actions_are_formed p well typed a named is tokens kinds =
    let formed = action_formed p well typed a named is tokens kinds in
    spelled typed a tokens formed.tree formed.bracketed formed.is

-- A tree that is read as an effect spells it.
use Rattle.std.proofs.Common.{◌≡◌, ℕ, List, [], ◌∷◌, map, refl, ap, sym, subst, true, false, Bool}
use Rattle.std.specs.Prelude.{⊤, codes, if◌then◌else◌}
use Rattle.std.specs.Str.{bytes_eq}
use Rattle.std.proofs.lemmas.Slice.Eq.{bytes_eq-Decides}
use Rattle.up_text.specs.declared.place.Place.{Place}
use Rattle.up_text.specs.Lists.{Every}
use Rattle.pddl_lex.specs.Trees.{place_of}
use Rattle.pddl_lex.specs.declared.tree.TokenKind.{TokenKind}
use Rattle.pddl_lex.specs.declared.tree.TokenKind.TheVariants as kind
use Rattle.pddl_lex.specs.declared.tree.Sexp.{Sexp, Leaf, Group, Group', Row_of-Sexp, end_of-Sexp, more_of-Sexp, items-the_row-Sexp}
use Rattle.pddl_lex.specs.Parses.{parsed, all, over, over_two}
use Rattle.pddl_parse.specs.declared.raw.RawCall.{RawCall}
use Rattle.pddl_parse.specs.declared.raw.RawChange.{RawChange}
use Rattle.pddl_parse.specs.declared.raw.RawChange.TheVariants as change
use Rattle.pddl_parse.specs.declared.raw.RawGroup.{RawGroup}
use Rattle.pddl_parse.specs.declared.raw.RawEffect.{RawEffect, And, Forall, When, Add, Delete, Change}
use Rattle.pddl_parse.specs.declared.head.EffectHead.{EffectHead}
use Rattle.pddl_parse.specs.declared.head.EffectHead.TheVariants as head
use Rattle.pddl_parse.specs.declared.effect.NewValue.{NewValue}
use Rattle.pddl_parse.specs.declared.effect.NewValue.TheVariants as new
use Rattle.pddl_parse.specs.Shapes.{ident, extra}
use Rattle.pddl_parse.specs.Brackets.{bracket, is_word, is_word_kind}
use Rattle.pddl_parse.specs.Terms.{term}
use Rattle.pddl_parse.specs.TypedLists.{variables}
use Rattle.pddl_parse.specs.Formulas.{formula}
use Rattle.pddl_parse.specs.Effects.{call_of, in_call, call, effect_word, effect_kind, effect_head, new_value, changed, change_effect, deletion, for_all, conditional, by_effect_head, in_effect, effect, effects}
use Rattle.pddl_parse.specs.Forms.{leaf, IsIdent, IsTerm, AreTerms, IsFormula}
use Rattle.pddl_parse.proofs.Nodes.{effects-items}
use Rattle.pddl_parse.proofs.Rebuilt.{rebuilt}
use Rattle.pddl_parse.proofs.Spelled.{Sound, sound_over, sound_two, sound_followed, ident_sound, term_sound, terms_sound, all_sound}
use Rattle.pddl_parse.proofs.SpelledFormulas.{IsWord, word_is, AreVars, vars, formula_sound}
use Rattle.pddl_parse.proofs.SpelledLists.{vars_sound}
use Rattle.grammar_shapes.specs.Effects.{IsCall, a_call, IsChange, assign, increase, decrease, scale_up, scale_down, IsEffect, of_and, of_forall, of_when, an_add, a_delete, a_change, an_undefine, AreEffects, no_effects, more_effects}
use Rattle.grammar_shapes.proofs.Parses.{sound_if}

-- ---- calls

in_call_sound : (place : Place) (items : List Sexp) → Sound (in_call place items) (IsCall (Group place items))
in_call_sound place [] = tt
in_call_sound place (head ∷ trees) =
    sound_two (IsIdent head) (AreTerms trees) (IsCall (Group place (head ∷ trees))) (call_of place) (ident head) (all (map term trees))
    (λ name args is are. a_call place head name trees args is are) (ident_sound head) (terms_sound trees (all_sound trees))

pub call_sound : (tree : Sexp) → Sound (call tree) (IsCall tree)
unfolding bracket
call_sound (Leaf token) = tt
call_sound (Group' place n row) = rw (rebuilt place n row) (in_call_sound place (items-the_row-Sexp _ row))

-- ---- what the first tree says

abbrev change_word : RawChange → List ℕ
change_word change.Assign = codes "assign"
change_word change.Increase = codes "increase"
change_word change.Decrease = codes "decrease"
change_word change.ScaleUp = codes "scale-up"
change_word change.ScaleDown = codes "scale-down"

change_is : (c : RawChange) → IsChange (change_word c) c
change_is change.Assign = assign
change_is change.Increase = increase
change_is change.Decrease = decrease
change_is change.ScaleUp = scale_up
change_is change.ScaleDown = scale_down

-- what the head of an effect says of its first tree
abbrev IsOf : Sexp → EffectHead → Type 0
IsOf first head.And = IsWord first (codes "and")
IsOf first head.Forall = IsWord first (codes "forall")
IsOf first head.When = IsWord first (codes "when")
IsOf first head.Not = IsWord first (codes "not")
IsOf first (head.Change c) = IsWord first (change_word c)
IsOf first head.Other = ⊤

if_is : (P : EffectHead → Type 0) (b : Bool) (here rest : EffectHead) → (b ≡ true → P here) → P rest → P (if b then here else rest)
if_is P true here rest h n = h refl
if_is P false here rest h n = n

effect_word_is : (word : List ℕ) (at : Place) → IsOf (leaf (kind.Word word) at) (effect_word word)
effect_word_is word at =
    let P : EffectHead → Type 0 = IsOf (leaf (kind.Word word) at) in
    if_is P (bytes_eq word (codes "and")) head.And _ (word_is word (codes "and") at)
    (if_is P (bytes_eq word (codes "forall")) head.Forall _ (word_is word (codes "forall") at)
    (if_is P (bytes_eq word (codes "when")) head.When _ (word_is word (codes "when") at)
    (if_is P (bytes_eq word (codes "not")) head.Not _ (word_is word (codes "not") at)
    (if_is P (bytes_eq word (codes "assign")) (head.Change change.Assign) _ (word_is word (codes "assign") at)
    (if_is P (bytes_eq word (codes "increase")) (head.Change change.Increase) _ (word_is word (codes "increase") at)
    (if_is P (bytes_eq word (codes "decrease")) (head.Change change.Decrease) _ (word_is word (codes "decrease") at)
    (if_is P (bytes_eq word (codes "scale-up")) (head.Change change.ScaleUp) _ (word_is word (codes "scale-up") at)
    (if_is P (bytes_eq word (codes "scale-down")) (head.Change change.ScaleDown) head.Other (word_is word (codes "scale-down") at) tt))))))))

kind_head_is : (at : Place) (k : TokenKind) → IsOf (leaf k at) (effect_kind k)
kind_head_is at (kind.Word word) = effect_word_is word at
kind_head_is at (kind.Sign s) = tt
kind_head_is at kind.Open = tt
kind_head_is at kind.Close = tt
kind_head_is at (kind.Variable word) = tt
kind_head_is at (kind.Keyword word) = tt
kind_head_is at (kind.Number number) = tt

head_is : (first : Sexp) → IsOf first (effect_head first)
unfolding effect_head
head_is (Leaf token) = kind_head_is token.place token.kind
head_is (Group' place n row) = tt

-- ---- new values

kind_undefined : (at : Place) (k : TokenKind) → is_word_kind (codes "undefined") k ≡ true
    → leaf k at ≡ leaf (kind.Word (codes "undefined")) at
kind_undefined at (kind.Word word) e = ap (λ w. leaf (kind.Word w) at) ((bytes_eq-Decides word (codes "undefined")).0 e)
kind_undefined at _ e = cc

undefined_is : (tree : Sexp) → is_word (codes "undefined") tree ≡ true → tree ≡ leaf (kind.Word (codes "undefined")) (place_of tree)
unfolding is_word place_of
undefined_is (Leaf token) e = kind_undefined token.place token.kind e
undefined_is (Group' place n row) e = cc

-- what a tree is as what a function is changed by
abbrev IsNew : RawChange → Sexp → NewValue → Type 0
IsNew c tree (new.Value value) = IsTerm tree value
IsNew change.Assign tree (new.Undefined place) = tree ≡ leaf (kind.Word (codes "undefined")) place
IsNew _ tree (new.Undefined place) = ⊥

term_new : (c : RawChange) (tree : Sexp) → Sound (over new.Value (term tree)) (IsNew c tree)
term_new c tree = sound_over (IsTerm tree) (IsNew c tree) new.Value (term tree) (λ value is. is) (term_sound tree)

value_sound : (c : RawChange) (tree : Sexp) → Sound (new_value c tree) (IsNew c tree)
value_sound change.Assign tree =
    sound_if (IsNew change.Assign tree) (is_word (codes "undefined") tree) (parsed (new.Undefined (place_of tree))) (over new.Value (term tree))
    (undefined_is tree) (λ e. term_new change.Assign tree)
value_sound change.Increase tree = term_new change.Increase tree
value_sound change.Decrease tree = term_new change.Decrease tree
value_sound change.ScaleUp tree = term_new change.ScaleUp tree
value_sound change.ScaleDown tree = term_new change.ScaleDown tree

changed_is : (place : Place) (first : Sexp) (c : RawChange) (a b : Sexp) (target : RawCall) (value : NewValue) → IsWord first (change_word c)
    → IsCall a target → IsNew c b value → IsEffect (Group place (first ∷ a ∷ b ∷ [])) (changed c target value)
changed_is place first c a b target (new.Value value) is of so =
    subst (λ h. IsEffect (Group place (h ∷ a ∷ b ∷ [])) (Change c target value)) (sym is.is)
    (a_change place is.at (change_word c) c a b target value (change_is c) of so)
changed_is place first change.Assign a b target (new.Undefined at) is of so =
    rw (is.is, so) (an_undefine place is.at at a target of)
changed_is place first _ a b target (new.Undefined at) is of so = absurd so

-- ---- effects

abbrev IsRead : Sexp → Type 0
IsRead tree = Sound (effect tree) (IsEffect tree)

effects_sound : (trees : List Sexp) → Every IsRead trees → Sound (all (map effect trees)) (AreEffects trees)
effects_sound [] are = no_effects
effects_sound (tree ∷ trees) are =
    sound_two (IsEffect tree) (AreEffects trees) (AreEffects (tree ∷ trees)) (λ e es. e ∷ es) (effect tree) (all (map effect trees))
    (λ e es is others. more_effects tree e trees es is others) are.0 (effects_sound trees are.1)

delete_sound : (place : Place) (first : Sexp) (trees : List Sexp) → IsWord first (codes "not")
    → Sound (deletion place trees) (IsEffect (Group place (first ∷ trees)))
delete_sound place first [] is = tt
delete_sound place first (a ∷ []) is =
    sound_followed (IsEffect (Group place (first ∷ a ∷ []))) (over Delete (call a)) [] (λ ended.
    sound_over (IsCall a) (IsEffect (Group place (first ∷ a ∷ []))) Delete (call a)
    (λ atom of. subst (λ h. IsEffect (Group place (h ∷ a ∷ [])) (Delete atom)) (sym is.is) (a_delete place is.at a atom of)) (call_sound a))
delete_sound place first (a ∷ b ∷ others) is =
    sound_followed (IsEffect (Group place (first ∷ a ∷ b ∷ others))) (over Delete (call a)) (extra (b ∷ others))
    (λ ended. let e : extra (b ∷ others) ≡ [] = ended in cc)

change_sound : (place : Place) (first : Sexp) (c : RawChange) (trees : List Sexp) → IsWord first (change_word c)
    → Sound (change_effect place c trees) (IsEffect (Group place (first ∷ trees)))
change_sound place first c [] is = tt
change_sound place first c (a ∷ []) is = tt
change_sound place first c (a ∷ b ∷ []) is =
    sound_followed (IsEffect (Group place (first ∷ a ∷ b ∷ []))) (over_two (changed c) (call a) (new_value c b)) [] (λ ended.
    sound_two (IsCall a) (IsNew c b) (IsEffect (Group place (first ∷ a ∷ b ∷ []))) (changed c) (call a) (new_value c b)
    (λ target value of so. changed_is place first c a b target value is of so) (call_sound a) (value_sound c b))
change_sound place first c (a ∷ b ∷ d ∷ others) is =
    sound_followed (IsEffect (Group place (first ∷ a ∷ b ∷ d ∷ others))) (over_two (changed c) (call a) (new_value c b)) (extra (d ∷ others))
    (λ ended. let e : extra (d ∷ others) ≡ [] = ended in cc)

forall_is : (place : Place) (first a b : Sexp) → IsWord first (codes "forall") → (groups : List RawGroup) (e : RawEffect)
    → AreVars a groups → IsEffect b e → IsEffect (Group place (first ∷ a ∷ b ∷ [])) (Forall groups e)
forall_is place first a b is groups e (vars at trees whole are) of =
    rw (is.is, whole) (of_forall place is.at at trees groups b e are of)

forall_sound : (place : Place) (first : Sexp) (trees : List Sexp) → IsWord first (codes "forall") → Every IsRead trees
    → Sound (for_all place trees (map effect trees)) (IsEffect (Group place (first ∷ trees)))
forall_sound place first [] is are = tt
forall_sound place first (a ∷ []) is are = tt
forall_sound place first (a ∷ b ∷ []) is are =
    sound_followed (IsEffect (Group place (first ∷ a ∷ b ∷ []))) (over_two (λ vars e. Forall vars e) (variables a) (effect b)) [] (λ ended.
    sound_two (AreVars a) (IsEffect b) (IsEffect (Group place (first ∷ a ∷ b ∷ []))) (λ vars e. Forall vars e) (variables a) (effect b)
    (λ groups e. forall_is place first a b is groups e) (vars_sound a) are.1.0)
forall_sound place first (a ∷ b ∷ c ∷ others) is are =
    sound_followed (IsEffect (Group place (first ∷ a ∷ b ∷ c ∷ others))) (over_two (λ vars e. Forall vars e) (variables a) (effect b))
    (extra (c ∷ others)) (λ ended. let e : extra (c ∷ others) ≡ [] = ended in cc)

when_sound : (place : Place) (first : Sexp) (trees : List Sexp) → IsWord first (codes "when") → Every IsRead trees
    → Sound (conditional place trees (map effect trees)) (IsEffect (Group place (first ∷ trees)))
when_sound place first [] is are = tt
when_sound place first (a ∷ []) is are = tt
when_sound place first (a ∷ b ∷ []) is are =
    sound_followed (IsEffect (Group place (first ∷ a ∷ b ∷ []))) (over_two (λ f e. When f e) (formula a) (effect b)) [] (λ ended.
    sound_two (IsFormula a) (IsEffect b) (IsEffect (Group place (first ∷ a ∷ b ∷ []))) (λ f e. When f e) (formula a) (effect b)
    (λ f e holds of. subst (λ h. IsEffect (Group place (h ∷ a ∷ b ∷ [])) (When f e)) (sym is.is) (of_when place is.at a b f e holds of))
    (formula_sound vars_sound a) are.1.0)
when_sound place first (a ∷ b ∷ c ∷ others) is are =
    sound_followed (IsEffect (Group place (first ∷ a ∷ b ∷ c ∷ others))) (over_two (λ f e. When f e) (formula a) (effect b))
    (extra (c ∷ others)) (λ ended. let e : extra (c ∷ others) ≡ [] = ended in cc)

by_sound : (place : Place) (first : Sexp) (trees : List Sexp) (h : EffectHead) → IsOf first h → Every IsRead trees
    → Sound (by_effect_head h place first trees (map effect trees)) (IsEffect (Group place (first ∷ trees)))
by_sound place first trees head.And is are =
    sound_over (AreEffects trees) (IsEffect (Group place (first ∷ trees))) And (all (map effect trees))
    (λ es of. subst (λ h. IsEffect (Group place (h ∷ trees)) (And es)) (sym is.is) (of_and place is.at trees es of)) (effects_sound trees are)
by_sound place first trees head.Forall is are = forall_sound place first trees is are
by_sound place first trees head.When is are = when_sound place first trees is are
by_sound place first trees head.Not is are = delete_sound place first trees is
by_sound place first trees (head.Change c) is are = change_sound place first c trees is
by_sound place first trees head.Other is are =
    sound_over (IsCall (Group place (first ∷ trees))) (IsEffect (Group place (first ∷ trees))) Add (in_call place (first ∷ trees))
    (λ atom of. an_add (Group place (first ∷ trees)) atom of) (in_call_sound place (first ∷ trees))

group_sound : (place : Place) (items : List Sexp) → Every IsRead items
    → Sound (in_effect place items (map effect items)) (IsEffect (Group place items))
group_sound place [] are = tt
group_sound place (first ∷ trees) are = by_sound place first trees (effect_head first) (head_is first) are.1

mutual
  unfolding effect effects

  pub effect_sound : (tree : Sexp) → Sound (effect tree) (IsEffect tree)
  effect_sound (Leaf token) = tt
  effect_sound (Group' place n row) =
      rw (rebuilt place n row, effects-items row) (group_sound place (items-the_row-Sexp _ row) (row_sound row))

  row_sound : {n : _} (row : Row_of-Sexp n) → Every IsRead (items-the_row-Sexp _ row)
  row_sound end_of-Sexp = tt
  row_sound (more_of-Sexp tree row) = (effect_sound tree, row_sound row)

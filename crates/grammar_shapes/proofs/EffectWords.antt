-- The words that effects begin with.
use Rattle.std.proofs.Common.{◌≡◌, ℕ, Bool, true, false, List, ◌∷◌, refl}
use Rattle.std.specs.Prelude.{◌||◌, codes}
use Rattle.std.specs.Str.{bytes_eq}
use Rattle.up_text.specs.Names.{is_spelled, is_reserved, reserved_words}
use Rattle.pddl_lex.specs.declared.tree.TokenKind.TheVariants as kind
use Rattle.pddl_lex.specs.declared.tree.Sexp.{Sexp}
use Rattle.pddl_lex.specs.Parses.{parsed}
use Rattle.pddl_parse.specs.declared.raw.Ident.{Ident}
use Rattle.pddl_parse.specs.declared.raw.RawTerm.{RawTerm}
use Rattle.pddl_parse.specs.declared.raw.RawChange.{RawChange}
use Rattle.pddl_parse.specs.declared.raw.RawChange.TheVariants as change
use Rattle.pddl_parse.specs.declared.head.EffectHead.TheVariants as head
use Rattle.pddl_parse.specs.declared.effect.NewValue.TheVariants as new
use Rattle.pddl_parse.specs.Brackets.{is_word}
use Rattle.pddl_parse.specs.Effects.{effect_word, effect_head, new_value}
use Rattle.pddl_parse.specs.Forms.{leaf, IsIdent, ident, variable, IsTerm, a_name, a_variable, a_number, a_call, an_expression}
use Rattle.pddl_parse.proofs.Nodes.{is_word-Group}
use Rattle.pddl_parse.proofs.Read.{not_reserved, term_read}
use Rattle.grammar_shapes.specs.Effects.{IsChange, assign, increase, decrease, scale_up, scale_down}

or_parts : (a b : Bool) → (a || b) ≡ false → (a ≡ false) × (b ≡ false)
or_parts true b h = absurd cc
or_parts false b h = (refl, h)

-- the words that effects begin with, `undefined` and `number` are no names
pub record IsFree (word : List ℕ) : Type 0 where
  pub no_and : bytes_eq word (codes "and") ≡ false
  pub no_forall : bytes_eq word (codes "forall") ≡ false
  pub no_when : bytes_eq word (codes "when") ≡ false
  pub no_not : bytes_eq word (codes "not") ≡ false
  pub no_assign : bytes_eq word (codes "assign") ≡ false
  pub no_increase : bytes_eq word (codes "increase") ≡ false
  pub no_decrease : bytes_eq word (codes "decrease") ≡ false
  pub no_scale_up : bytes_eq word (codes "scale-up") ≡ false
  pub no_scale_down : bytes_eq word (codes "scale-down") ≡ false
  pub no_undefined : bytes_eq word (codes "undefined") ≡ false
  pub no_number : bytes_eq word (codes "number") ≡ false

pub free : (word : List ℕ) → is_reserved word ≡ false → IsFree word
unfolding reserved_words
free word none =
    let (no_and, after_and) = or_parts (bytes_eq word (codes "and")) _ none in
    let (no_or, after_or) = or_parts (bytes_eq word (codes "or")) _ after_and in
    let (no_not, after_not) = or_parts (bytes_eq word (codes "not")) _ after_or in
    let (no_imply, after_imply) = or_parts (bytes_eq word (codes "imply")) _ after_not in
    let (no_exists, after_exists) = or_parts (bytes_eq word (codes "exists")) _ after_imply in
    let (no_forall, after_forall) = or_parts (bytes_eq word (codes "forall")) _ after_exists in
    let (no_when, after_when) = or_parts (bytes_eq word (codes "when")) _ after_forall in
    let (no_assign, after_assign) = or_parts (bytes_eq word (codes "assign")) _ after_when in
    let (no_increase, after_increase) = or_parts (bytes_eq word (codes "increase")) _ after_assign in
    let (no_decrease, after_decrease) = or_parts (bytes_eq word (codes "decrease")) _ after_increase in
    let (no_up, after_up) = or_parts (bytes_eq word (codes "scale-up")) _ after_decrease in
    let (no_down, after_down) = or_parts (bytes_eq word (codes "scale-down")) _ after_up in
    let (no_either, after_either) = or_parts (bytes_eq word (codes "either")) _ after_down in
    let (no_undefined, after_undefined) = or_parts (bytes_eq word (codes "undefined")) _ after_either in
    let (no_number, after_number) = or_parts (bytes_eq word (codes "number")) _ after_undefined in
    record {
      no_and = no_and;
      no_forall = no_forall;
      no_when = no_when;
      no_not = no_not;
      no_assign = no_assign;
      no_increase = no_increase;
      no_decrease = no_decrease;
      no_scale_up = no_up;
      no_scale_down = no_down;
      no_undefined = no_undefined;
      no_number = no_number;
    }

word_other : (word : List ℕ) → IsFree word → effect_word word ≡ head.Other
word_other word f =
    rw (f.no_and, f.no_forall, f.no_when, f.no_not, f.no_assign, f.no_increase, f.no_decrease, f.no_scale_up, f.no_scale_down) refl

pub ident_other : (tree : Sexp) (it : Ident) → IsIdent tree it → effect_head tree ≡ head.Other
unfolding effect_head
ident_other _ _ (ident word name place is) = word_other word (free word (not_reserved (is_spelled word) (is_reserved word) word name is))

-- no term is the word `undefined`
no_undefined_term : (tree : Sexp) (t : RawTerm) → IsTerm tree t → is_word (codes "undefined") tree ≡ false
unfolding is_word
no_undefined_term _ _ (a_name _ _ (ident word name place is)) =
    (free word (not_reserved (is_spelled word) (is_reserved word) word name is)).no_undefined
no_undefined_term _ _ (a_variable _ _ (variable word name place is)) = refl
no_undefined_term _ _ (a_number value place) = refl
no_undefined_term _ _ (a_call place head f trees ts is args) = is_word-Group (codes "undefined") place (head ∷ trees)
no_undefined_term _ _ (an_expression place at sign op trees ts is args) =
    is_word-Group (codes "undefined") place (leaf (kind.Sign sign) at ∷ trees)

pub value_read : (c : RawChange) (tree : Sexp) (t : RawTerm) → IsTerm tree t → new_value c tree ≡ parsed (new.Value t)
value_read change.Assign tree t is = rw (no_undefined_term tree t is, term_read tree t is) refl
value_read change.Increase tree t is = rw (term_read tree t is) refl
value_read change.Decrease tree t is = rw (term_read tree t is) refl
value_read change.ScaleUp tree t is = rw (term_read tree t is) refl
value_read change.ScaleDown tree t is = rw (term_read tree t is) refl

pub change_read : (word : List ℕ) (c : RawChange) → IsChange word c → effect_word word ≡ head.Change c
change_read _ _ assign = refl
change_read _ _ increase = refl
change_read _ _ decrease = refl
change_read _ _ scale_up = refl
change_read _ _ scale_down = refl

-- What is read of a phrase is so, if what is read of its parts is.
use Rattle.std.proofs.Common.{◌≡◌, ℕ, List, [], ◌∷◌, map, drop, refl, ap, sym, subst, true, false, Bool}
use Rattle.std.specs.Prelude.{if◌then◌else◌, Some}
use Rattle.std.specs.Str.{bytes_eq}
use Rattle.std.proofs.lemmas.Slice.Eq.{bytes_eq-Decides}
use Rattle.up_text.specs.declared.place.Place.{Place}
use Rattle.up_text.specs.Names.{name_of, is_spelled, is_reserved}
use Rattle.pddl_lex.specs.declared.tree.TokenKind.{TokenKind}
use Rattle.pddl_lex.specs.declared.tree.TokenKind.TheVariants as kind
use Rattle.pddl_lex.specs.declared.tree.Sexp.{Sexp, Leaf, Group, Group', items-the_row-Sexp}
use Rattle.pddl_lex.specs.Parses.{Parse, parsed, rejected, all, over, over_two, behind, followed}
use Rattle.pddl_parse.specs.Shapes.{Read, extra, one, two}
use Rattle.pddl_parse.specs.Brackets.{bracket, is_word_kind, is_word}
use Rattle.pddl_parse.specs.declared.raw.Ident.{Ident}
use Rattle.pddl_parse.specs.Forms.{leaf, IsIdent, ident}
use Rattle.pddl_parse.proofs.Read.{not_reserved}
use Rattle.pddl_parse.proofs.Rebuilt.{rebuilt}
use Rattle.pddl_parse.proofs.Spelled.{Sound, sound_over, sound_two, sound_followed}
use Rattle.pddl_parse.proofs.SpelledFormulas.{IsWord, word_is}

-- what is so of what is read
pub sound_is : {F A : Type 0} (P : A → Type 0) (v : Parse F A) (a : A) → Sound v P → v ≡ parsed a → P a
sound_is P v a is e = subst (λ w. Sound w P) e is

pub sound_map : {F A : Type 0} (P Q : A → Type 0) (v : Parse F A) → ((a : A) → P a → Q a) → Sound v P → Sound v Q
sound_map P Q (parsed a) h p = h a p
sound_map P Q (rejected f fs) h p = tt

pub sound_if : {F A : Type 0} (P : A → Type 0) (b : Bool) (v w : Parse F A) → (b ≡ true → Sound v P) → (b ≡ false → Sound w P)
    → Sound (if b then v else w) P
sound_if P true v w h n = h refl
sound_if P false v w h n = n refl

pub if_so : {X : Type 0} (P : X → Type 0) (b : Bool) (x y : X) → (b ≡ true → P x) → (b ≡ false → P y) → P (if b then x else y)
if_so P true x y h n = h refl
if_so P false x y h n = n refl

-- a relation to a row of trees, tree by tree
pub sound_all : {F X A : Type 0} (P : X → A → Type 0) (R : List X → List A → Type 0) (f : X → Parse F A) → R [] []
    → ((x : X) (a : A) (xs : List X) (bs : List A) → P x a → R xs bs → R (x ∷ xs) (a ∷ bs))
    → ((x : X) → Sound (f x) (P x)) → (xs : List X) → Sound (all (map f xs)) (R xs)
sound_all P R f none more each [] = none
sound_all P R f none more each (x ∷ xs) =
    sound_two (P x) (R xs) (R (x ∷ xs)) (λ a bs. a ∷ bs) (f x) (all (map f xs)) (λ a bs is others. more x a xs bs is others) (each x)
    (sound_all P R f none more each xs)

-- one tree that is made into a form, and none after it
pub sound_one : {A B : Type 0} (P : Sexp → A → Type 0) (Q : List Sexp → B → Type 0) (place : Place) (g : A → B) (f : Sexp → Read A)
    → ((tree : Sexp) (a : A) → P tree a → Q (tree ∷ []) (g a)) → ((tree : Sexp) → Sound (f tree) (P tree))
    → (trees : List Sexp) → Sound (followed (over g (one place (map f trees))) (extra (drop 1 trees))) (Q trees)
sound_one P Q place g f made each [] = tt
sound_one P Q place g f made each (x ∷ []) =
    sound_followed (Q (x ∷ [])) (over g (f x)) [] (λ ended. sound_over (P x) (Q (x ∷ [])) g (f x) (λ a is. made x a is) (each x))
sound_one P Q place g f made each (x ∷ y ∷ others) =
    sound_followed (Q (x ∷ y ∷ others)) (over g (f x)) (extra (y ∷ others)) (λ ended. let e : extra (y ∷ others) ≡ [] = ended in cc)

-- two trees, each read by its own kind, and none after them
pub sound_pair : {A B C : Type 0} (P : Sexp → A → Type 0) (Q : Sexp → B → Type 0) (R : List Sexp → C → Type 0) (place : Place)
    (g : A → B → C) (f : Sexp → Read A) (h : Sexp → Read B)
    → ((x y : Sexp) (a : A) (b : B) → P x a → Q y b → R (x ∷ y ∷ []) (g a b))
    → ((tree : Sexp) → Sound (f tree) (P tree)) → ((tree : Sexp) → Sound (h tree) (Q tree))
    → (trees : List Sexp) → Sound (followed (two place g (map f trees) (map h trees)) (extra (drop 2 trees))) (R trees)
sound_pair P Q R place g f h made one_each two_each [] = tt
sound_pair P Q R place g f h made one_each two_each (x ∷ []) = tt
sound_pair P Q R place g f h made one_each two_each (x ∷ y ∷ []) =
    sound_followed (R (x ∷ y ∷ [])) (over_two g (f x) (h y)) [] (λ ended.
    sound_two (P x) (Q y) (R (x ∷ y ∷ [])) g (f x) (h y) (λ a b is so. made x y a b is so) (one_each x) (two_each y))
sound_pair P Q R place g f h made one_each two_each (x ∷ y ∷ z ∷ others) =
    sound_followed (R (x ∷ y ∷ z ∷ others)) (over_two g (f x) (h y)) (extra (z ∷ others))
    (λ ended. let e : extra (z ∷ others) ≡ [] = ended in cc)

-- ---- trees

-- a bracket that is read by f
pub sound_bracket : {A : Type 0} (P : Sexp → A → Type 0) (f : Place → List Sexp → Read A)
    → ((place : Place) (items : List Sexp) → Sound (f place items) (P (Group place items)))
    → (tree : Sexp) → Sound (bracket f tree) (P tree)
unfolding bracket
sound_bracket P f h (Leaf token) = tt
sound_bracket P f h (Group' place n row) =
    subst (λ tree. Sound (f place (items-the_row-Sexp _ row)) (P tree)) (sym (rebuilt place n row)) (h place (items-the_row-Sexp _ row))

kind_word_is : (word : List ℕ) (at : Place) (k : TokenKind) → is_word_kind word k ≡ true → IsWord (leaf k at) word
kind_word_is word at (kind.Word own) e = word_is own word at e
kind_word_is word at _ e = cc

-- what is a word is a leaf with it
pub is_word_is : (word : List ℕ) (tree : Sexp) → is_word word tree ≡ true → IsWord tree word
unfolding is_word
is_word_is word (Leaf token) e = kind_word_is word token.place token.kind e
is_word_is word (Group' place n row) e = cc

-- ---- words that are no names

unreserved : (word name : List ℕ) → name_of word ≡ Some name → is_reserved word ≡ false
unreserved word name is = not_reserved (is_spelled word) (is_reserved word) word name is

word_unlike : (word other : List ℕ) → is_reserved word ≡ false → is_reserved other ≡ true → bytes_eq word other ≡ false
word_unlike word other free taken = by (bytes_eq word other) refl
  where
    by : (b : Bool) → bytes_eq word other ≡ b → b ≡ false
    by true e =
        let same : word ≡ other = (bytes_eq-Decides word other).0 e in
        let is : is_reserved word ≡ is_reserved other = ap is_reserved same in cc
    by false e = refl

-- a name is no reserved word
pub ident_unlike : (other : List ℕ) → is_reserved other ≡ true → (tree : Sexp) (it : Ident) → IsIdent tree it → is_word other tree ≡ false
unfolding is_word
ident_unlike other taken _ _ (ident word name place is) = word_unlike word other (unreserved word name is) taken

-- ---- faults in front

pub none_before : {F A : Type 0} (fs : List F) (v : Parse F A) (a : A) → behind fs v ≡ parsed a → fs ≡ []
none_before [] v a e = refl
none_before (f ∷ fs) v a e = cc

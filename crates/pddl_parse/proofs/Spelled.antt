-- A tree that is read as a raw form spells it.
use Rattle.std.proofs.Common.{◌≡◌, ℕ, zero, suc, ◌≤◌, ◌++◌, append_assoc, append-nil, length, List, [], ◌∷◌, map, take, drop, refl, ap, sym, subst, ◌∙◌, true, false, Bool, arith}
use Rattle.std.specs.Prelude.{⊤, ◌≢◌, nat_lt, min, Option, Some, None, codes, if◌then◌else◌}
use Rattle.std.specs.Str.{bytes_eq}
use Rattle.std.proofs.lemmas.List.{take-map}
use Rattle.std.proofs.lemmas.Slice.Eq.{bytes_eq-Decides}
use Rattle.std.proofs.lemmas.Bool.Decides.{nat_tests}
use Rattle.up_text.specs.declared.place.Place.{Place}
use Rattle.up_text.specs.Lists.{Every}
use Rattle.up_text.specs.Names.{name_of}
use Rattle.pddl_lex.specs.declared.tree.Token.{Token}
use Rattle.pddl_lex.specs.declared.tree.TokenKind.{TokenKind}
use Rattle.pddl_lex.specs.declared.tree.TokenKind.TheVariants as kind
use Rattle.pddl_lex.specs.declared.tree.Sign.{Sign}
use Rattle.pddl_lex.specs.declared.tree.Sign.TheVariants as sign
use Rattle.pddl_lex.specs.declared.tree.Sexp.{Sexp, Leaf, Group, Group', Row_of-Sexp, end_of-Sexp, more_of-Sexp, items-the_row-Sexp}
use Rattle.pddl_lex.specs.Parses.{Parse, parsed, rejected, all, over, over_two, behind, followed}
use Rattle.pddl_parse.specs.declared.raw.Ident.{Ident}
use Rattle.pddl_parse.specs.declared.raw.Operator.{Operator}
use Rattle.pddl_parse.specs.declared.raw.Operator.TheVariants as operator
use Rattle.pddl_parse.specs.declared.raw.Relation.{Relation}
use Rattle.pddl_parse.specs.declared.raw.Relation.TheVariants as relation
use Rattle.pddl_parse.specs.declared.raw.RawTerm.{RawTerm, Name, Variable, Number, Call, Arithmetic}
use Rattle.pddl_parse.specs.declared.shape.ShapeError.{ShapeError}
use Rattle.pddl_parse.specs.Shapes as shape
use Rattle.pddl_parse.specs.Shapes.{Read, lacking, extra, named, kind_ident}
use Rattle.pddl_parse.specs.Terms.{term, terms, in_term, kind_term, by_operator, sign_operator, kind_operator, operator_of, least, most, arithmetic}
use Rattle.pddl_parse.specs.Forms.{leaf, IsIdent, ident, ident_at, IsVariable, variable, IsOperator, sum, product, negative, difference, quotient, IsRelation, less, less_equal, same, greater_equal, greater, IsTerm, a_name, a_variable, a_number, a_call, an_expression, AreTerms, no_terms, more_terms}
use Rattle.pddl_parse.proofs.Nodes.{terms-items}
use Rattle.pddl_parse.proofs.Rebuilt.{rebuilt}

-- what is read, if anything, is so
abbrev pub Sound : {F A : Type 0} → Parse F A → (A → Type 0) → Type 0
Sound (parsed a) P = P a
Sound (rejected f fs) P = ⊤

pub sound_over : {F A B : Type 0} (P : A → Type 0) (Q : B → Type 0) (g : A → B) (v : Parse F A)
    → ((a : A) → P a → Q (g a)) → Sound v P → Sound (over g v) Q
sound_over P Q g (parsed a) h p = h a p
sound_over P Q g (rejected f fs) h p = tt

pub sound_two : {F A B C : Type 0} (P : A → Type 0) (Q : B → Type 0) (R : C → Type 0) (g : A → B → C) (v : Parse F A) (w : Parse F B)
    → ((a : A) (b : B) → P a → Q b → R (g a b)) → Sound v P → Sound w Q → Sound (over_two g v w) R
sound_two P Q R g (parsed a) (parsed b) h p q = h a b p q
sound_two P Q R g (parsed a) (rejected f fs) h p q = tt
sound_two P Q R g (rejected f fs) w h p q = tt

pub sound_followed : {F A : Type 0} (P : A → Type 0) (v : Parse F A) (fs : List F) → (fs ≡ [] → Sound v P) → Sound (followed v fs) P
sound_followed P (parsed a) [] h = h refl
sound_followed P (parsed a) (f ∷ fs) h = tt
sound_followed P (rejected f gs) fs h = tt

pub sound_behind : {F A : Type 0} (P : A → Type 0) (fs : List F) (v : Parse F A) → (fs ≡ [] → Sound v P) → Sound (behind fs v) P
sound_behind P [] v h = h refl
sound_behind P (f ∷ fs) v h = tt

-- ---- names

pub named_sound : (P : Ident → Type 0) (place : Place) (fault : ShapeError) (found : Option (List ℕ))
    → ((name : List ℕ) → found ≡ Some name → P (ident_at name place)) → Sound (named place fault found) P
named_sound P place fault (Some name) h = h name refl
named_sound P place fault None h = tt

pub kind_ident_sound : (place : Place) (k : TokenKind) → Sound (kind_ident place k) (IsIdent (leaf k place))
kind_ident_sound place (kind.Word word) = named_sound (IsIdent (leaf (kind.Word word) place)) place _ (name_of word) (λ name is. ident word name place is)
kind_ident_sound place kind.Open = tt
kind_ident_sound place kind.Close = tt
kind_ident_sound place (kind.Variable word) = tt
kind_ident_sound place (kind.Keyword word) = tt
kind_ident_sound place (kind.Number number) = tt
kind_ident_sound place (kind.Sign sign) = tt

pub ident_sound : (tree : Sexp) → Sound (shape.ident tree) (IsIdent tree)
unfolding shape.ident
ident_sound (Leaf token) = kind_ident_sound token.place token.kind
ident_sound (Group' place n row) = tt

-- ---- terms

-- what the operator at the head of a bracket says of the head
pub record IsHead (head : Sexp) (op : Operator) : Type 0 where
  at : Place
  mark : Sign
  is : head ≡ leaf (kind.Sign mark) at
  known : sign_operator mark ≡ Some op

abbrev IsOf : Sexp → Option Operator → Type 0
IsOf head None = ⊤
IsOf head (Some op) = IsHead head op

sign_of : (at : Place) (s : Sign) (found : Option Operator) → sign_operator s ≡ found → IsOf (leaf (kind.Sign s) at) found
sign_of at s None e = tt
sign_of at s (Some op) e = record { at = at; mark = s; is = refl; known = e }

kind_head_is : (place : Place) (k : TokenKind) → IsOf (leaf k place) (kind_operator k)
kind_head_is place (kind.Sign sign) = sign_of place sign (sign_operator sign) refl
kind_head_is place (kind.Word word) = tt
kind_head_is place kind.Open = tt
kind_head_is place kind.Close = tt
kind_head_is place (kind.Variable word) = tt
kind_head_is place (kind.Keyword word) = tt
kind_head_is place (kind.Number number) = tt

head_is : (head : Sexp) → IsOf head (operator_of head)
unfolding operator_of
head_is (Leaf token) = kind_head_is token.place token.kind
head_is (Group' place n row) = tt

-- how many operands an operator may have
data HasCount : Operator → ℕ → Type 0 where
  sums : (n : ℕ) → 2 ≤ n → HasCount operator.Sum n
  products : (n : ℕ) → 2 ≤ n → HasCount operator.Product n
  one : HasCount operator.Difference 1
  two : HasCount operator.Difference 2
  halves : HasCount operator.Quotient 2

operator_is : (s : Sign) (op : Operator) (n : ℕ) → HasCount op n → sign_operator s ≡ Some op → IsOperator s op n
operator_is sign.Plus _ _ (sums n h) e = sum n h
operator_is _ _ _ (sums n h) e = cc
operator_is sign.Times _ _ (products n h) e = product n h
operator_is _ _ _ (products n h) e = cc
operator_is sign.Minus _ _ one e = negative
operator_is _ _ _ one e = cc
operator_is sign.Minus _ _ two e = difference
operator_is _ _ _ two e = cc
operator_is sign.Slash _ _ halves e = quotient
operator_is _ _ _ halves e = cc

abbrev pub IsRead : Sexp → Type 0
IsRead tree = Sound (term tree) (IsTerm tree)

pub terms_sound : (trees : List Sexp) → Every IsRead trees → Sound (all (map term trees)) (AreTerms trees)
terms_sound [] are = no_terms
terms_sound (tree ∷ trees) are =
    sound_two (IsTerm tree) (AreTerms trees) (AreTerms (tree ∷ trees)) (λ t ts. t ∷ ts) (term tree) (all (map term trees))
    (λ t ts is others. more_terms tree t trees ts is others) are.0 (terms_sound trees are.1)

leaf_sound : (place : Place) (k : TokenKind) → Sound (kind_term place k) (IsTerm (leaf k place))
leaf_sound place (kind.Word word) =
    sound_over (IsIdent (leaf (kind.Word word) place)) (IsTerm (leaf (kind.Word word) place)) Name _ (λ it is. a_name _ it is) (kind_ident_sound place (kind.Word word))
leaf_sound place (kind.Variable word) =
    sound_over (IsVariable (leaf (kind.Variable word) place)) (IsTerm (leaf (kind.Variable word) place)) Variable _ (λ it is. a_variable _ it is)
    (named_sound (IsVariable (leaf (kind.Variable word) place)) place _ (name_of word) (λ name is. variable word name place is))
leaf_sound place (kind.Number value) = a_number value place
leaf_sound place kind.Open = tt
leaf_sound place kind.Close = tt
leaf_sound place (kind.Keyword word) = tt
leaf_sound place (kind.Sign sign) = tt

pub take_whole : {A : Type 0} (xs : List A) → take (length xs) xs ≡ xs
take_whole [] = refl
take_whole (x ∷ xs) = ap (λ ys. x ∷ ys) (take_whole xs)

pub enough_two : (n : ℕ) (place : Place) → lacking (nat_lt n 2) place ≡ [] → 2 ≤ n
enough_two zero place e = cc
enough_two (suc zero) place e = cc
enough_two (suc (suc n)) place e = omega arith

pub min_two : (n : ℕ) → min (suc (suc (suc n))) 2 ≡ 2
min_two n = omega arith

count_is : (op : Operator) (place : Place) (trees : List Sexp)
    → lacking (nat_lt (length trees) (least op)) place ≡ [] → extra (drop (most op (length trees)) trees) ≡ [] → HasCount op (length trees)
count_is operator.Sum place trees enough ended = sums (length trees) (enough_two (length trees) place enough)
count_is operator.Product place trees enough ended = products (length trees) (enough_two (length trees) place enough)
count_is operator.Difference place [] enough ended = cc
count_is operator.Difference place (a ∷ []) enough ended = one
count_is operator.Difference place (a ∷ b ∷ []) enough ended = two
count_is operator.Difference place (a ∷ b ∷ c ∷ trees) enough ended =
    let h : extra (c ∷ trees) ≡ [] = sym (ap (λ n. extra (drop n (a ∷ b ∷ c ∷ trees))) (min_two (length trees))) ∙ ended in cc
count_is operator.Quotient place [] enough ended = cc
count_is operator.Quotient place (a ∷ []) enough ended = cc
count_is operator.Quotient place (a ∷ b ∷ []) enough ended = halves
count_is operator.Quotient place (a ∷ b ∷ c ∷ trees) enough ended =
    let h : extra (c ∷ trees) ≡ [] = sym (ap (λ n. extra (drop n (a ∷ b ∷ c ∷ trees))) (min_two (length trees))) ∙ ended in cc

most_is : (op : Operator) (n : ℕ) → HasCount op n → most op n ≡ n
most_is _ _ (sums n h) = refl
most_is _ _ (products n h) = refl
most_is _ _ one = refl
most_is _ _ two = refl
most_is _ _ halves = refl

arithmetic_sound : (place : Place) (head : Sexp) (op : Operator) (trees : List Sexp) → IsHead head op → Every IsRead trees
    → Sound (arithmetic op place trees (map term trees)) (IsTerm (Group place (head ∷ trees)))
arithmetic_sound place head op trees is are =
    sound_behind (IsTerm (Group place (head ∷ trees))) (lacking (nat_lt (length trees) (least op)) place) _ (λ enough.
    sound_followed (IsTerm (Group place (head ∷ trees))) _ (extra (drop (most op (length trees)) trees)) (λ ended.
    let count : HasCount op (length trees) = count_is op place trees enough ended in
    let built : (ts : List RawTerm) → AreTerms trees ts → IsTerm (Group place (head ∷ trees)) (Arithmetic place op ts) =
    λ ts args. subst (λ h. IsTerm (Group place (h ∷ trees)) (Arithmetic place op ts)) (sym is.is)
    (an_expression place is.at is.mark op trees ts (operator_is is.mark op (length trees) count is.known) args) in
    sound_over (AreTerms trees) (IsTerm (Group place (head ∷ trees))) (λ ts. Arithmetic place op ts) _ built
    (rw (take-map term (most op (length trees)) trees, most_is op (length trees) count, take_whole trees) (terms_sound trees are))))

by_sound : (place : Place) (head : Sexp) (trees : List Sexp) (found : Option Operator) → IsOf head found → Every IsRead trees
    → Sound (by_operator found place head trees (map term trees)) (IsTerm (Group place (head ∷ trees)))
by_sound place head trees None is are =
    sound_two (IsIdent head) (AreTerms trees) (IsTerm (Group place (head ∷ trees))) (λ f ts. Call place f ts) (shape.ident head) (all (map term trees))
    (λ f ts is args. a_call place head f trees ts is args) (ident_sound head) (terms_sound trees are)
by_sound place head trees (Some op) is are = arithmetic_sound place head op trees is are

group_sound : (place : Place) (items : List Sexp) → Every IsRead items → Sound (in_term place items (map term items)) (IsTerm (Group place items))
group_sound place [] are = tt
group_sound place (head ∷ trees) are = by_sound place head trees (operator_of head) (head_is head) are.1

mutual
  unfolding term terms

  pub term_sound : (tree : Sexp) → Sound (term tree) (IsTerm tree)
  term_sound (Leaf token) = leaf_sound token.place token.kind
  term_sound (Group' place n row) =
      rw (rebuilt place n row, terms-items row) (group_sound place (items-the_row-Sexp _ row) (row_sound row))

  row_sound : {n : _} (row : Row_of-Sexp n) → Every IsRead (items-the_row-Sexp _ row)
  row_sound end_of-Sexp = tt
  row_sound (more_of-Sexp tree row) = (term_sound tree, row_sound row)

-- what a tree is read as, it spells
pub term_spelled : (tree : Sexp) (t : RawTerm) → term tree ≡ parsed t → IsTerm tree t
term_spelled tree t e = subst (λ v. Sound v (IsTerm tree)) e (term_sound tree)

pub all_sound : (trees : List Sexp) → Every IsRead trees
all_sound [] = tt
all_sound (tree ∷ trees) = (term_sound tree, all_sound trees)

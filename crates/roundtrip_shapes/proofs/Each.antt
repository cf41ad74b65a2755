-- Rows of trees, each of which is read as a member.
use Rattle.std.proofs.Common.{◌≡◌, ℕ, List, [], ◌∷◌, ◌++◌, map, refl, sym, ◌∙◌, append_assoc, append-nil}
use Rattle.std.specs.Prelude.{flat_map}
use Rattle.up_text.specs.declared.place.Place.{Place}
use Rattle.up_text.specs.Lists.{Every}
use Rattle.pddl_lex.specs.declared.tree.Token.{Token}
use Rattle.pddl_lex.specs.declared.tree.TokenKind.{TokenKind}
use Rattle.pddl_lex.specs.declared.tree.TokenKind.TheVariants as kind
use Rattle.pddl_lex.specs.declared.tree.Sexp.{Sexp, Group}
use Rattle.pddl_lex.specs.Parses.{parsed, all}
use Rattle.pddl_parse.specs.Shapes.{Read}
use Rattle.pddl_parse.specs.Forms.{leaf}
use Rattle.roundtrip_tokens.specs.Tokens.{group}
use Rattle.roundtrip_shapes.specs.Raw.{IsEmpty, empty, IsFirst, first}
use Rattle.roundtrip_shapes.proofs.Trees.{kinds_of, Formed, Rowed, group_formed, none_rowed, first_rowed, Led, led, led_rowed}
use Rattle.roundtrip_shapes.specs.RawFiles.{AreEach}

-- tokens of these kinds are those of one tree, or of a row of trees, of which this is so
abbrev pub TreeOf : List TokenKind → (Sexp → Type 0) → Type 0
TreeOf ks P = (tokens : List Token) → kinds_of tokens ≡ ks → Formed tokens P

abbrev pub RowOf : List TokenKind → (List Sexp → Type 0) → Type 0
RowOf ks Q = (tokens : List Token) → kinds_of tokens ≡ ks → Rowed tokens Q

pub row_as : {ks ls : List TokenKind} {Q : List Sexp → Type 0} → ls ≡ ks → RowOf ks Q → RowOf ls Q
row_as is row tokens kinds = row tokens (kinds ∙ is)

pub tree_as : {ks ls : List TokenKind} {P : Sexp → Type 0} → ls ≡ ks → TreeOf ks P → TreeOf ls P
tree_as is tree tokens kinds = tree tokens (kinds ∙ is)

-- a tree in front of a row
pub in_front : (ks ls : List TokenKind) (P : Sexp → Type 0) (Q R : List Sexp → Type 0) → TreeOf ks P → RowOf ls Q
    → ((tree : Sexp) (trees : List Sexp) → P tree → Q trees → R (tree ∷ trees)) → RowOf (ks ++ ls) R
in_front ks ls P Q R one more each tokens kinds = first_rowed tokens ks ls kinds P Q one more R each

-- brackets that begin with this keyword
pub data Section (word : List ℕ) (Q : List Sexp → Type 0) : Sexp → Type 0 where
  begun : (place at : Place) (rest : List Sexp) → Q rest → Section word Q (Group place (leaf (kind.Keyword word) at ∷ rest))

pub section_of : (word : List ℕ) (ks : List TokenKind) (Q : List Sexp → Type 0) → RowOf ks Q → TreeOf (group (kind.Keyword word ∷ ks)) (Section word Q)
section_of word ks Q more tokens kinds =
    group_formed tokens (kind.Keyword word ∷ ks) kinds (Led (kind.Keyword word) Q) (led_rowed (kind.Keyword word) refl ks Q more) (Section word Q) made
  where
    made : (place : Place) (trees : List Sexp) → Led (kind.Keyword word) Q trees → Section word Q (Group place trees)
    made place _ (led there rest so) = begun place there rest so

module _ {Y : Type 0} (read : Sexp → Read Y) where
  -- a tree that is read as something of which this is so
  pub data ReadsOne (P : Y → Type 0) (tree : Sexp) : Type 0 where
    reads_one : (y : Y) → read tree ≡ parsed y → P y → ReadsOne P tree

  -- trees that are read as members of which this is so
  pub data ReadsAll (P : List Y → Type 0) (trees : List Sexp) : Type 0 where
    reads_all : (ys : List Y) → all (map read trees) ≡ parsed ys → P ys → ReadsAll P trees

  more_read : (P : Y → Type 0) (Q : List Y → Type 0) (tree : Sexp) (trees : List Sexp) → ReadsOne P tree → ReadsAll Q trees → ReadsAll (IsFirst P Q) (tree ∷ trees)
  more_read P Q tree trees (reads_one y is so) (reads_all ys are all_so) = reads_all (y ∷ ys) (rw (is, are) refl) (first y ys so all_so)

  module _ {X : Type 0} (tokens_of : X → List TokenKind) (Is : X → Y → Type 0) (Fits : X → Type 0) (one : (x : X) → Fits x → TreeOf (tokens_of x) (ReadsOne (Is x))) where
    pub each_then : (xs : List X) → Every Fits xs → (ks : List TokenKind) (Rest : List Y → Type 0) → RowOf ks (ReadsAll Rest) → RowOf (flat_map tokens_of xs ++ ks) (ReadsAll (AreEach Is xs Rest))
    each_then [] fit ks Rest more = more
    each_then (x ∷ xs) fit ks Rest more =
        row_as (append_assoc (tokens_of x) (flat_map tokens_of xs) ks)
        (in_front (tokens_of x) (flat_map tokens_of xs ++ ks) (ReadsOne (Is x)) (ReadsAll (AreEach Is xs Rest)) (ReadsAll (AreEach Is (x ∷ xs) Rest))
        (one x fit.0) (each_then xs fit.1 ks Rest more) (more_read (Is x) (AreEach Is xs Rest)))

    pub each_read : (xs : List X) → Every Fits xs → RowOf (flat_map tokens_of xs) (ReadsAll (AreEach Is xs IsEmpty))
    each_read xs fit =
        row_as (sym (append-nil (flat_map tokens_of xs)))
        (each_then xs fit [] IsEmpty (λ tokens kinds. none_rowed tokens kinds (ReadsAll IsEmpty) (reads_all [] refl empty)))

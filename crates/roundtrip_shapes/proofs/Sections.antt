-- Written sections are read in order.
use Rattle.std.proofs.Common.{◌≡◌, ℕ, Bool, true, false, List, [], ◌∷◌, ◌++◌, refl}
use Rattle.std.specs.Prelude.{flat_map, ◌||◌, ◌&&◌}
use Rattle.std.specs.Str.{bytes_eq}
use Rattle.up_text.specs.declared.name.Name.{Name}
use Rattle.up_text.specs.declared.place.Place.{Place}
use Rattle.up_text.specs.Names.{IsName}
use Rattle.up_text.specs.Lists.{Every}
use Rattle.pddl_lex.specs.declared.tree.TokenKind.{TokenKind}
use Rattle.pddl_lex.specs.declared.tree.TokenKind.TheVariants as kind
use Rattle.pddl_lex.specs.declared.tree.Sexp.{Sexp, Group}
use Rattle.pddl_lex.specs.Parses.{behind}
use Rattle.pddl_parse.specs.Brackets.{is_section, has_section}
use Rattle.pddl_parse.specs.Texts.{title, in_title}
use Rattle.pddl_parse.specs.Forms.{leaf, ident_at}
use Rattle.pddl_parse.proofs.Nodes.{bracket-Group, is_section-Group, is_keyword-Leaf, is_word-Leaf}
use Rattle.pddl_parse.proofs.Read.{ident_read}
use Rattle.roundtrip_tokens.specs.Tokens.{group}
use Rattle.roundtrip_tokens.specs.FileTokens.{section_tokens}
use Rattle.roundtrip_shapes.specs.Raw.{IsRawName, at}
use Rattle.roundtrip_shapes.proofs.Trees.{rowed_as, group_formed, Led, led, led_rowed, none_rowed}
use Rattle.roundtrip_shapes.proofs.Names.{word_is}
use Rattle.roundtrip_shapes.proofs.Each.{TreeOf, RowOf, in_front, Section, section_of, ReadsOne, reads_one}
use Rattle.grammar_shapes.proofs.Keywords.{or_second}

-- ---- which sections stand

-- a section that begins with another keyword
pub other_section : (word other : List ℕ) → bytes_eq word other ≡ false → (place there : Place) (rest : List Sexp)
    → is_section other (Group place (leaf (kind.Keyword word) there ∷ rest)) ≡ false
other_section word other differ place there rest = rw (is_section-Group other place (leaf (kind.Keyword word) there ∷ rest), is_keyword-Leaf, differ) refl

-- a section that begins with this keyword
pub same_section : (word : List ℕ) → bytes_eq word word ≡ true → (place there : Place) (rest : List Sexp)
    → is_section word (Group place (leaf (kind.Keyword word) there ∷ rest)) ≡ true
same_section word same place there rest = rw (is_section-Group word place (leaf (kind.Keyword word) there ∷ rest), is_keyword-Leaf, same) refl

neither : (a b : Bool) → a ≡ false → b ≡ false → (a || b) ≡ false
neither a b no_a no_b = rw (no_a, no_b) refl

first_none : (a b : Bool) → (a || b) ≡ false → a ≡ false
first_none true b is = absurd cc
first_none false b is = refl

has_none : (word : List ℕ) (trees : List Sexp) (tree : Sexp) → has_section word trees ≡ false → is_section word tree ≡ false → has_section word (trees ++ tree ∷ []) ≡ false
has_none word [] tree none one = rw one refl
has_none word (t ∷ trees) tree none one =
    neither (is_section word t) (has_section word (trees ++ tree ∷ [])) (first_none (is_section word t) (has_section word trees) none)
    (has_none word trees tree (or_second (is_section word t) (has_section word trees) none) one)

-- none of the sections that begin with these keywords stands
abbrev pub NoneOf : List (List ℕ) → List Sexp → Type 0
NoneOf words trees = Every (λ w. has_section w trees ≡ false) words

pub none_behind : (words : List (List ℕ)) (trees : List Sexp) → NoneOf words trees → (word : List ℕ) → Every (λ w. bytes_eq word w ≡ false) words
    → (place there : Place) (rest : List Sexp) → NoneOf words (trees ++ Group place (leaf (kind.Keyword word) there ∷ rest) ∷ [])
none_behind [] trees none word differ place there rest = tt
none_behind (w ∷ words) trees none word differ place there rest =
    (has_none w trees (Group place (leaf (kind.Keyword word) there ∷ rest)) none.0 (other_section word w differ.0 place there rest), none_behind words trees none.1 word differ.1 place there rest)

pub none_before : (words : List (List ℕ)) → NoneOf words []
none_before [] = tt
none_before (w ∷ words) = (refl, none_before words)

pub and_false : (a : Bool) → (a && false) ≡ false
and_false true = refl
and_false false = refl

-- ---- titles

-- no trees
pub data IsNone : List Sexp → Type 0 where
  no_tree : IsNone []

pub title_read : (sort : List ℕ) → bytes_eq sort sort ≡ true → (name : Name) → IsName name → TreeOf (group (kind.Word sort ∷ kind.Word name ∷ [])) (ReadsOne (title sort) (IsRawName name))
title_read sort same name is tokens kinds =
    group_formed tokens (kind.Word sort ∷ kind.Word name ∷ []) kinds (Led (kind.Word sort) (Led (kind.Word name) IsNone))
    (led_rowed (kind.Word sort) refl (kind.Word name ∷ []) (Led (kind.Word name) IsNone) (led_rowed (kind.Word name) refl [] IsNone (λ back there. none_rowed back there IsNone no_tree)))
    (ReadsOne (title sort) (IsRawName name)) made
  where
    made : (place : Place) (trees : List Sexp) → Led (kind.Word sort) (Led (kind.Word name) IsNone) trees → ReadsOne (title sort) (IsRawName name) (Group place trees)
    made place _ (led there _ (led behind _ no_tree)) =
        reads_one (ident_at name behind)
        (rw (bracket-Group (in_title sort) place (leaf (kind.Word sort) there ∷ leaf (kind.Word name) behind ∷ []), is_word-Leaf, same, ident_read _ _ (word_is name is behind)) refl)
        (at behind)

-- ---- a section that is left out where it has no member

module _ {X : Type 0} (word : List ℕ) (tokens_of : X → List TokenKind) (Q R P : List Sexp → Type 0) (ks : List TokenKind) (more : RowOf ks R) where
  pub section_rowed : (xs : List X) → (xs ≡ [] → (trees : List Sexp) → R trees → P trees)
      → RowOf (flat_map tokens_of xs) Q → ((tree : Sexp) (trees : List Sexp) → Section word Q tree → R trees → P (tree ∷ trees))
      → RowOf (section_tokens word tokens_of xs ++ ks) P
  section_rowed [] absent body present = λ tokens kinds. rowed_as (more tokens kinds) (absent refl)
  section_rowed (x ∷ xs) absent body present =
      in_front (group (kind.Keyword word ∷ flat_map tokens_of (x ∷ xs))) ks (Section word Q) R P (section_of word (flat_map tokens_of (x ∷ xs)) Q body) more present

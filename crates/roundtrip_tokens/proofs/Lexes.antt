-- Texts of tokens of these kinds, whatever stands after them.
use Rattle.std.proofs.Common.{◌≡◌, ℕ, Bool, true, false, not, List, [], ◌∷◌, ◌++◌, map, refl, ap, sym, ◌∙◌, subst, append_assoc, append-nil, arith}
use Rattle.std.specs.Prelude.{Option, Some, codes, ◌||◌, ◌==◌, IsTrue}
use Rattle.std.specs.List.{list_all}
use Rattle.std.proofs.lemmas.Bool.{and_parts}
use Rattle.std.proofs.lemmas.Bool.Decides.{nat_tests}
use Rattle.std.proofs.lemmas.List.{map-append}
use Rattle.up_text.specs.Names as lower
use Rattle.up_text.specs.Names.{is_spelled, all_go_on}
use Rattle.pddl_lex.specs.declared.shape.Shape.TheVariants as shape
use Rattle.pddl_lex.specs.declared.tree.TokenKind.{TokenKind}
use Rattle.pddl_lex.specs.declared.tree.TokenKind.TheVariants.{Open, Close, Word, Variable, Keyword}
use Rattle.pddl_lex.specs.Bytes.{is_letter, is_name_byte, fold_byte}
use Rattle.pddl_lex.specs.Next.{next, sign}
use Rattle.pddl_lex.specs.Spells.{stops, IsName}
use Rattle.roundtrip_tokens.proofs.Placeless.{kinds, token_first}

-- no token in front of this text goes on into it
abbrev pub is_apart : List ℕ → Bool
is_apart text = stops (λ byte. is_name_byte byte || byte == 46) text

-- the text is of these kinds, whatever stands after it
pub record Shut (text : List ℕ) (ks : List TokenKind) : Type 0 where
  pub before : (rest : List ℕ) → kinds (text ++ rest) ≡ map Some ks ++ kinds rest

-- the text is of these kinds before a text that is apart
pub record Lexes (text : List ℕ) (ks : List TokenKind) : Type 0 where
  pub before : (rest : List ℕ) → is_apart rest ≡ true → kinds (text ++ rest) ≡ map Some ks ++ kinds rest

-- ---- one text after another

both : (a b rest : List ℕ) (ks ls : List TokenKind) → kinds (a ++ (b ++ rest)) ≡ map Some ks ++ kinds (b ++ rest) → kinds (b ++ rest) ≡ map Some ls ++ kinds rest
    → kinds ((a ++ b) ++ rest) ≡ map Some (ks ++ ls) ++ kinds rest
both a b rest ks ls one two =
    ap kinds (append_assoc a b rest) ∙ one ∙ ap (λ (more : List (Option TokenKind)). map Some ks ++ more) two
    ∙ sym (append_assoc (map Some ks) (map Some ls) (kinds rest))
    ∙ ap (λ (all : List (Option TokenKind)). all ++ kinds rest) (sym (map-append Some ks ls))

pub apart-append : (a b : List ℕ) → is_apart a ≡ true → is_apart b ≡ true → is_apart (a ++ b) ≡ true
apart-append [] b one two = two
apart-append (byte ∷ a) b one two = one

pub behind : {a b : List ℕ} {ks ls : List TokenKind} → Shut a ks → Lexes b ls → Lexes (a ++ b) (ks ++ ls)
behind {a} {b} {ks} {ls} one two = record { before = λ rest apart. both a b rest ks ls (one.before (b ++ rest)) (two.before rest apart) }

pub follows : {a b : List ℕ} {ks ls : List TokenKind} → Lexes a ks → is_apart b ≡ true → Lexes b ls → Lexes (a ++ b) (ks ++ ls)
follows {a} {b} {ks} {ls} one between two =
    record { before = λ rest apart. both a b rest ks ls (one.before (b ++ rest) (apart-append b rest between apart)) (two.before rest apart) }

-- a text that is not empty, and apart
abbrev pub is_cut : List ℕ → Bool
is_cut [] = false
is_cut (byte ∷ behind) = is_apart (byte ∷ behind)

pub apart_cut : (b rest : List ℕ) → is_cut b ≡ true → is_apart (b ++ rest) ≡ true
apart_cut [] rest cut = absurd cc
apart_cut (byte ∷ b) rest cut = cut

pub cut_by : {a b : List ℕ} {ks ls : List TokenKind} → Lexes a ks → is_cut b ≡ true → Shut b ls → Shut (a ++ b) (ks ++ ls)
cut_by {a} {b} {ks} {ls} one cut two =
    record { before = λ rest. both a b rest ks ls (one.before (b ++ rest) (apart_cut b rest cut)) (two.before rest) }

pub shut : {a : List ℕ} {ks : List TokenKind} → Shut a ks → Lexes a ks
shut one = record { before = λ rest apart. one.before rest }

pub no_text : Lexes [] []
no_text = record { before = λ rest apart. refl }

-- ---- brackets and spaces

pub open_bracket : Shut (codes "(") (Open ∷ [])
unfolding next sign
open_bracket = record { before = λ rest. refl }

pub close_bracket : Lexes (codes ")") (Close ∷ [])
unfolding next sign
close_bracket = record { before = λ rest apart. refl }

pub one_space : Shut (codes " ") []
unfolding next
one_space = record { before = λ rest. refl }

-- ---- names

apart_name : (rest : List ℕ) → is_apart rest ≡ true → stops is_name_byte rest ≡ true
apart_name [] apart = refl
apart_name (byte ∷ rest) apart = neither (is_name_byte byte) (byte == 46) apart
  where
    neither : (b c : Bool) → not (b || c) ≡ true → not b ≡ true
    neither true c h = h
    neither false c h = refl

letter_is : (byte : ℕ) → lower.is_letter byte ≡ true → is_letter byte ≡ true
letter_is byte is = grind (arith, nat_tests)

name_byte_is : (byte : ℕ) → lower.goes_on byte ≡ true → is_name_byte byte ≡ true
name_byte_is byte is = grind (arith, nat_tests)

letter_folded : (byte : ℕ) → lower.is_letter byte ≡ true → fold_byte byte ≡ byte
letter_folded byte is = grind (arith, nat_tests)

name_byte_folded : (byte : ℕ) → lower.goes_on byte ≡ true → fold_byte byte ≡ byte
name_byte_folded byte is = grind (arith, nat_tests)

name_bytes_are : (bytes : List ℕ) → all_go_on bytes ≡ true → list_all is_name_byte bytes ≡ true
name_bytes_are [] is = refl
name_bytes_are (byte ∷ bytes) is =
    let (here, others) = and_parts (lower.goes_on byte) (all_go_on bytes) is in
    rw (name_byte_is byte here) (name_bytes_are bytes others)

name_bytes_folded : (bytes : List ℕ) → all_go_on bytes ≡ true → map fold_byte bytes ≡ bytes
name_bytes_folded [] is = refl
name_bytes_folded (byte ∷ bytes) is =
    let (here, others) = and_parts (lower.goes_on byte) (all_go_on bytes) is in
    rw (name_byte_folded byte here, name_bytes_folded bytes others) refl

is_name : (name : List ℕ) → IsTrue (is_spelled name) → IsName name
is_name [] is = absurd cc
is_name (byte ∷ behind) is =
    let (here, others) = and_parts (lower.is_letter byte) (all_go_on behind) is in
    (letter_is byte here, name_bytes_are behind others)

folded_is : (name : List ℕ) → IsTrue (is_spelled name) → map fold_byte name ≡ name
folded_is [] is = refl
folded_is (byte ∷ behind) is =
    let (here, others) = and_parts (lower.is_letter byte) (all_go_on behind) is in
    rw (letter_folded byte here, name_bytes_folded behind others) refl

pub word : (name : List ℕ) → IsTrue (is_spelled name) → Lexes name (Word name ∷ [])
word [] is = absurd cc
word (byte ∷ behind) is = record {
  before = λ rest apart.
      token_first shape.Word byte behind rest (is_name (byte ∷ behind) is) (apart_name rest apart)
      ∙ ap (λ (name : List ℕ). Some (Word name) ∷ kinds rest) (folded_is (byte ∷ behind) is);
}

pub variable : (name : List ℕ) → IsTrue (is_spelled name) → Lexes (codes "?" ++ name) (Variable name ∷ [])
variable name is = record {
  before = λ rest apart.
      token_first shape.Variable 63 name rest (refl, is_name name is) (apart_name rest apart)
      ∙ ap (λ (folded : List ℕ). Some (Variable folded) ∷ kinds rest) (folded_is name is);
}

pub keyword : (name : List ℕ) → IsTrue (is_spelled name) → Lexes (codes ":" ++ name) (Keyword name ∷ [])
keyword name is = record {
  before = λ rest apart.
      token_first shape.Keyword 58 name rest (refl, is_name name is) (apart_name rest apart)
      ∙ ap (λ (folded : List ℕ). Some (Keyword folded) ∷ kinds rest) (folded_is name is);
}

-- ---- groups

pub spaced_off : {a : List ℕ} {ks : List TokenKind} → Lexes a ks → Shut (a ++ codes " ") ks
spaced_off {a} {ks} one = subst (Shut (a ++ codes " ")) (append-nil ks) (cut_by one refl one_space)

pub closed : {a : List ℕ} {ks : List TokenKind} → Lexes a ks → Lexes (a ++ codes ")") (ks ++ Close ∷ [])
closed one = follows one refl close_bracket

-- a name after a bracket
pub opened : (name : List ℕ) → IsTrue (is_spelled name) → Lexes (codes "(" ++ name) (Open ∷ Word name ∷ [])
opened name is = behind open_bracket (word name is)

-- the same and a space
pub headed : (name : List ℕ) → IsTrue (is_spelled name) → Shut ((codes "(" ++ name) ++ codes " ") (Open ∷ Word name ∷ [])
headed name is = spaced_off (opened name is)

open_next : Shut (codes " (") (Open ∷ [])
unfolding next sign
open_next = record { before = λ rest. refl }

-- the same, a space and a bracket
pub quantified : (name : List ℕ) → IsTrue (is_spelled name) → Shut ((codes "(" ++ name) ++ codes " (") (Open ∷ Word name ∷ Open ∷ [])
quantified name is = cut_by (opened name is) refl open_next

-- a name in brackets with what is apart from it
pub called : (name : List ℕ) → IsTrue (is_spelled name) → {b : List ℕ} {ls : List TokenKind} → is_apart b ≡ true → Lexes b ls
    → Lexes (((codes "(" ++ name) ++ b) ++ codes ")") (((Open ∷ Word name ∷ []) ++ ls) ++ Close ∷ [])
called name is apart rest = closed (follows (opened name is) apart rest)

-- one operand, or two, and the closing bracket
pub one_operand : {s a : List ℕ} {hs ks : List TokenKind} → Shut s hs → Lexes a ks → Lexes ((s ++ a) ++ codes ")") ((hs ++ ks) ++ Close ∷ [])
one_operand head one = closed (behind head one)

pub two_operands : {s a b : List ℕ} {hs ks ls : List TokenKind} → Shut s hs → Lexes a ks → Lexes b ls
    → Lexes ((((s ++ a) ++ codes " ") ++ b) ++ codes ")") (((hs ++ ks) ++ ls) ++ Close ∷ [])
two_operands head one two = closed (behind (spaced_off (behind head one)) two)

close_space : Shut (codes ") ") (Close ∷ [])
unfolding next sign
close_space = record { before = λ rest. refl }

-- what stands in brackets, one operand more and the closing bracket
pub over_operand : {s a b : List ℕ} {hs ks ls : List TokenKind} → Shut s hs → Lexes a ks → Lexes b ls
    → Lexes ((((s ++ a) ++ codes ") ") ++ b) ++ codes ")") ((((hs ++ ks) ++ Close ∷ []) ++ ls) ++ Close ∷ [])
over_operand head one two = closed (behind (cut_by (behind head one) refl close_space) two)

-- ---- the whole text

pub whole : {text : List ℕ} {ks : List TokenKind} → Lexes text ks → kinds text ≡ map Some ks
whole {text} {ks} lexes = ap kinds (sym (append-nil text)) ∙ lexes.before [] refl ∙ append-nil (map Some ks)

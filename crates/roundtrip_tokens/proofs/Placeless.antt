-- The kinds of the tokens of a text, read without their places.
use Rattle.std.proofs.Common.{◌≡◌, ℕ, zero, suc, List, [], ◌∷◌, ◌++◌, map, length, take, Ok, Err, refl, ap, sym, ◌∙◌, arith}
use Rattle.std.specs.Prelude.{Option, Some, None}
use Rattle.std.proofs.lemmas.List.{map-append}
use Rattle.up_text.specs.declared.place.Place.{Place}
use Rattle.pddl_lex.specs.declared.shape.Shape.{Shape}
use Rattle.pddl_lex.specs.declared.shape.Next.{Next}
use Rattle.pddl_lex.specs.declared.shape.Next.TheVariants.{Blank, Piece, BadByte, BadNumber}
use Rattle.pddl_lex.specs.declared.tree.Token.{Token}
use Rattle.pddl_lex.specs.declared.tree.TokenKind.{TokenKind}
use Rattle.pddl_lex.specs.Items.{Item, items, items_from, items_at, kind_of}
use Rattle.pddl_lex.specs.Next.{next, more_of}
use Rattle.pddl_lex.specs.Places.{start, after_byte, place_behind}
use Rattle.pddl_lex.specs.Spells.{token as a_token, HasShape, Ends}
use Rattle.roundtrip_tokens.specs.Spelled.{SpelledByKinds}
use Rattle.pddl_lex.proofs.Reading.{read_stands, read_whole}
use Rattle.pddl_lex.proofs.Spelling.{stands_read}

-- the kind of a token; a fault has none
abbrev pub kind_in : Item → Option TokenKind
kind_in (Ok token) = Some token.kind
kind_in (Err fault) = None

abbrev pub kinds_at : Next → ℕ → List ℕ → List (Option TokenKind)
kinds_at (Blank more) byte behind = []
kinds_at (Piece shape more) byte behind = Some (kind_of shape byte (take more behind)) ∷ []
kinds_at BadByte byte behind = None ∷ []
kinds_at (BadNumber more) byte behind = None ∷ []

abbrev pub kinds_or : ℕ → ℕ → List ℕ → (ℕ → List (Option TokenKind)) → List (Option TokenKind)
kinds_or (suc more) byte behind go = go more
kinds_or zero byte behind go = kinds_at (next byte behind) byte behind ++ go (more_of (next byte behind))

-- the kinds in the rest of a text, of which the first bytes belong to what stands before
abbrev pub kinds_from : List ℕ → ℕ → List (Option TokenKind)
kinds_from [] more = []
kinds_from (byte ∷ behind) more = kinds_or more byte behind (kinds_from behind)

abbrev pub kinds : List ℕ → List (Option TokenKind)
kinds text = kinds_from text 0

at_any_place : (here : Next) (place : Place) (byte : ℕ) (behind : List ℕ) → map kind_in (items_at here place byte behind) ≡ kinds_at here byte behind
at_any_place (Blank more) place byte behind = refl
at_any_place (Piece shape more) place byte behind = refl
at_any_place BadByte place byte behind = refl
at_any_place (BadNumber more) place byte behind = refl

-- places apart, the items are of these kinds
pub placeless : (text : List ℕ) (more : ℕ) (place : Place) → map kind_in (items_from text more place) ≡ kinds_from text more
placeless [] more place = refl
placeless (byte ∷ behind) (suc more) place = placeless behind more (after_byte place byte)
placeless (byte ∷ behind) zero place =
    map-append kind_in (items_at (next byte behind) place byte behind) (items_from behind (more_of (next byte behind)) (after_byte place byte))
    ∙ ap (λ (one : List (Option TokenKind)). one ++ map kind_in (items_from behind (more_of (next byte behind)) (after_byte place byte))) (at_any_place (next byte behind) place byte behind)
    ∙ ap (λ (two : List (Option TokenKind)). kinds_at (next byte behind) byte behind ++ two) (placeless behind (more_of (next byte behind)) (after_byte place byte))

-- a token in front
pub token_first : (shape : Shape) (byte : ℕ) (behind rest : List ℕ) → HasShape shape byte behind → Ends shape rest
    → kinds (byte ∷ (behind ++ rest)) ≡ Some (kind_of shape byte behind) ∷ kinds rest
token_first shape byte behind rest has ends =
    let later : List Item = items_from rest 0 (place_behind (byte ∷ behind)) in
    let whole : items_from (byte ∷ (behind ++ rest)) 0 (place_behind []) ≡ Ok (record { kind = kind_of shape byte behind; place = place_behind [] }) ∷ later =
    stands_read [] _ _ (a_token [] shape byte behind rest later has ends (read_stands (length rest) rest (byte ∷ behind) (omega arith))) in
    sym (placeless (byte ∷ (behind ++ rest)) 0 (place_behind []))
    ∙ ap (map kind_in) whole
    ∙ ap (λ (more : List (Option TokenKind)). Some (kind_of shape byte behind) ∷ more) (placeless rest 0 (place_behind (byte ∷ behind)))

abbrev kinds_of : List Token → List TokenKind
kinds_of tokens = map (λ t. t.kind) tokens

-- the items of these kinds are tokens
tokens_of : (all : List Item) (ks : List TokenKind) → map kind_in all ≡ map Some ks → (tokens : List Token) × (all ≡ map Ok tokens) × (kinds_of tokens ≡ ks)
tokens_of [] [] is = ([], refl, refl)
tokens_of [] (k ∷ ks) is = absurd cc
tokens_of (Err fault ∷ all) [] is = absurd cc
tokens_of (Err fault ∷ all) (k ∷ ks) is = absurd cc
tokens_of (Ok token ∷ all) [] is = absurd cc
tokens_of (Ok token ∷ all) (k ∷ ks) is =
    let here : token.kind ≡ k = cc in
    let others : map kind_in all ≡ map Some ks = cc in
    let (tokens, same, kinds_same) = tokens_of all ks others in
    (token ∷ tokens, ap (λ (more : List Item). Ok token ∷ more) same, rw (here, kinds_same) refl)

pub spelled : (text : List ℕ) (ks : List TokenKind) → kinds text ≡ map Some ks → SpelledByKinds text ks
unfolding items
spelled text ks is =
    let (tokens, same, kinds_same) = tokens_of (items text) ks (placeless text 0 start ∙ is) in
    record { tokens = tokens; spelled = read_whole text tokens same; kinds_are = kinds_same }

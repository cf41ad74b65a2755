-- What is read in a text stands there.
use Rattle.std.proofs.Common.{◌≡◌, ℕ, zero, suc, ◌≤◌, Bool, true, false, List, [], ◌∷◌, ◌++◌, length, take, drop, map, Ok, Err, refl, ap, ◌∙◌, subst, length-drop, append-nil, arith}
use Rattle.std.specs.Prelude.{◌≢◌}
use Rattle.std.specs.List.{list_all}
use Rattle.std.proofs.lemmas.List.{take-append-drop}
use Rattle.up_text.specs.declared.place.Place.{Place}
use Rattle.pddl_lex.specs.declared.shape.Next.{Next}
use Rattle.pddl_lex.specs.declared.shape.Next.TheVariants.{Blank, BadByte}
use Rattle.pddl_lex.specs.declared.tree.Token.{Token}
use Rattle.pddl_lex.specs.declared.error.LexError.TheVariants.{BadNumber}
use Rattle.pddl_lex.specs.Bytes.{is_blank, front_length}
use Rattle.pddl_lex.specs.Next.{next, sign, more_of}
use Rattle.pddl_lex.specs.Items.{Item, items, items_from, items_at, kind_of}
use Rattle.pddl_lex.specs.Places.{is_in_line, place_behind, start, after_byte}
use Rattle.pddl_lex.specs.Spells.{Stands, SpelledBy, BeginsNone, nothing, blank, comment, token, bad_byte, bad_number, stops}
use Rattle.pddl_lex.proofs.Lexing.{passed_over}
use Rattle.pddl_lex.proofs.PlaceLemmas.{places_on, place_start}
use Rattle.pddl_lex.proofs.Standing.{Here, here_blank, here_comment, here_piece, here_bad_byte, here_bad_number, here_next, front_passes, front_stops}
use Rattle.pddl_lex.proofs.Spelling.{begun}

-- what is read on behind so many bytes
read_on : (before : List ℕ) (byte : ℕ) (behind : List ℕ) (more : ℕ)
    → items_from behind more (after_byte (place_behind before) byte) ≡ items_from (drop more behind) 0 (place_behind (before ++ byte ∷ take more behind))
read_on before byte behind more =
    passed_over behind more (after_byte (place_behind before) byte)
    ∙ ap (λ (p : Place). items_from (drop more behind) 0 p) (places_on before byte (take more behind))

no_blank : (byte : ℕ) (behind : List ℕ) → next byte behind ≡ BadByte → is_blank byte ≡ false
unfolding next
no_blank byte behind bad =
    let by_test : (b : Bool) → is_blank byte ≡ b → b ≡ false = elim [
      | true ↦ λ is. let blank_here : next byte behind ≡ Blank 0 = rw is refl in absurd cc
      | false ↦ λ is. refl
    ] in
    by_test (is_blank byte) refl

no_comment : (byte : ℕ) (behind : List ℕ) → next byte behind ≡ BadByte → byte ≢ 59
unfolding next sign
no_comment byte behind bad is =
    let comment_here : next byte behind ≡ Blank (front_length is_in_line behind) = rw is refl in cc

none_begins : (byte : ℕ) (behind : List ℕ) → next byte behind ≡ BadByte → BeginsNone byte behind
none_begins byte behind bad shape front rest is has =
    begun shape byte front rest has (subst (λ (bytes : List ℕ). next byte bytes ≡ BadByte) is bad)

comment_at : (before : List ℕ) (byte : ℕ) (line rest : List ℕ) (all : List Item) → byte ≡ 59
    → list_all is_in_line line ≡ true → stops is_in_line rest ≡ true
    → Stands (before ++ byte ∷ line) rest all → Stands before (byte ∷ (line ++ rest)) all
comment_at before byte line rest all is passes ends stands =
    rw is (comment before line rest all passes ends (subst (λ (b : ℕ). Stands (before ++ b ∷ line) rest all) is stands))

stands_here : (n : ℕ) (byte : ℕ) (behind : List ℕ) (here : Next) (before : List ℕ) → Here byte behind here → next byte behind ≡ here
    → ((rest later : List ℕ) → length rest ≤ n → Stands later rest (items_from rest 0 (place_behind later)))
    → ((k : ℕ) → length (drop k behind) ≤ n)
    → Stands before (byte ∷ behind) (items_at here (place_behind before) byte behind ++ items_from behind (more_of here) (after_byte (place_behind before) byte))
stands_here n byte behind _ before (here_blank is) at go short =
    rw (read_on before byte behind 0) (blank before byte behind _ is (go behind _ (short 0)))
stands_here n byte behind _ before (here_comment is) at go short =
    let k = front_length is_in_line behind in
    let whole : take k behind ++ drop k behind ≡ behind = take-append-drop k behind in
    rw (read_on before byte behind k)
    (subst (λ (b : List ℕ). Stands before (byte ∷ b) (items_from (drop k behind) 0 (place_behind (before ++ byte ∷ take k behind)))) whole
    (comment_at before byte (take k behind) (drop k behind) _ is (front_passes is_in_line behind) (front_stops is_in_line behind) (go (drop k behind) _ (short k))))
stands_here n byte behind _ before (here_piece shape k has ends within) at go short =
    let whole : take k behind ++ drop k behind ≡ behind = take-append-drop k behind in
    rw (read_on before byte behind k)
    (subst (λ (b : List ℕ). Stands before (byte ∷ b)
    (Ok (record { kind = kind_of shape byte (take k behind); place = place_behind before }) ∷ items_from (drop k behind) 0 (place_behind (before ++ byte ∷ take k behind)))) whole
    (token before shape byte (take k behind) (drop k behind) _ has ends (go (drop k behind) _ (short k))))
stands_here n byte behind _ before here_bad_byte at go short =
    rw (read_on before byte behind 0)
    (bad_byte before byte behind _ (no_blank byte behind at) (no_comment byte behind at) (none_begins byte behind at) (go behind _ (short 0)))
stands_here n byte behind _ before (here_bad_number k bad within) at go short =
    let whole : take k behind ++ drop k behind ≡ behind = take-append-drop k behind in
    rw (read_on before byte behind k)
    (subst (λ (b : List ℕ). Stands before (byte ∷ b) (Err (BadNumber (place_behind before)) ∷ items_from (drop k behind) 0 (place_behind (before ++ byte ∷ take k behind)))) whole
    (bad_number before byte (take k behind) (drop k behind) _ bad (go (drop k behind) _ (short k))))

pub read_stands : (n : ℕ) (text before : List ℕ) → length text ≤ n → Stands before text (items_from text 0 (place_behind before))
read_stands n [] before short = nothing before
read_stands zero (byte ∷ behind) before short = absurd (omega arith)
read_stands (suc n) (byte ∷ behind) before short =
    let drop_short : (k : ℕ) → length (drop k behind) ≤ n = λ k. omega (arith, length-drop k behind, short) in
    stands_here n byte behind (next byte behind) before (here_next byte behind) refl (λ rest later short'. read_stands n rest later short') drop_short

pub items_stand : (text : List ℕ) → Stands [] text (items text)
unfolding items
items_stand text =
    subst (λ (p : Place). Stands [] text (items_from text 0 p)) place_start (read_stands (length text) text [] (omega arith))

pub read_whole : (text : List ℕ) (tokens : List Token) → items text ≡ map Ok tokens → SpelledBy text tokens
read_whole text tokens read = subst (λ (all : List Item). Stands [] text all) read (items_stand text)

-- the tokens at the end of a text
pub tokens_end : (text rest : List ℕ) (place : Place) (tokens : List Token) → length rest ≡ 0
    → items_from text 0 start ≡ map Ok tokens ++ items_from rest 0 place → SpelledBy text tokens
unfolding items
tokens_end text [] place tokens none is = read_whole text tokens (is ∙ append-nil (map Ok tokens))
tokens_end text (byte ∷ rest) place tokens none is = absurd (omega arith)

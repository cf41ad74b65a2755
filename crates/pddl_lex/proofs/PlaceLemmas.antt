-- The place behind a text, byte by byte.
use Rattle.std.proofs.Common.{◌≡◌, ℕ, suc, ◌+◌, Bool, true, false, List, [], ◌∷◌, ◌++◌, length, cond, refl, ap, sym, ◌∙◌, append_assoc, append-nil, arith}
use Rattle.std.specs.Prelude.{◌==◌, reverse, count_by}
use Rattle.std.proofs.lemmas.List.{reverse-append}
use Rattle.std.proofs.lemmas.List.Sums.{take_while-cons, fold-append}
use Rattle.up_text.specs.declared.place.Place.{Place}
use Rattle.pddl_lex.specs.Places.{place_behind, start, after_byte, after_bytes, last_line, is_in_line, is_line_feed, cut}

count_more : (text : List ℕ) (byte : ℕ) → count_by is_line_feed (text ++ byte ∷ []) ≡ count_by is_line_feed text + cond (byte == 10) 1 0
count_more text byte = fold-append (λ (n : ℕ) (x : ℕ). n + cond (is_line_feed x) 1 0) 0 text (byte ∷ [])

line_more : (text : List ℕ) (byte : ℕ) → last_line (text ++ byte ∷ []) ≡ cond (is_in_line byte) (byte ∷ last_line text) []
line_more text byte = rw (reverse-append text (byte ∷ [])) (take_while-cons is_in_line byte (reverse text))

cut_more : (n : ℕ) → cut (cut (1 + n) + 1) ≡ cut (1 + (n + 1))
cut_more n = omega arith

cut_suc : (n : ℕ) → cut (cut (1 + n) + 1) ≡ cut (1 + suc n)
cut_suc n = omega arith

same_place : (a b c d : ℕ) → a ≡ b → c ≡ d → ◌≡◌ {A = Place} (record { line = a; column = c }) (record { line = b; column = d })
same_place a b c d lines columns = rw (lines, columns) refl

same_line : (n : ℕ) → cut (1 + (n + 0)) ≡ cut (1 + n)
same_line n = omega arith

pub place_step : (before : List ℕ) (byte : ℕ) → after_byte (place_behind before) byte ≡ place_behind (before ++ byte ∷ [])
unfolding place_behind
place_step before byte =
    let lines : ℕ = count_by is_line_feed before in
    let by_test : (b : Bool) → (byte == 10) ≡ b → after_byte (place_behind before) byte ≡ place_behind (before ++ byte ∷ []) =
    elim [
      | true ↦ λ is. rw (line_more before byte, count_more before byte, is) (same_place _ _ 1 1 (cut_more lines) refl)
      | false ↦ λ is. rw (line_more before byte, count_more before byte, is) (same_place _ _ _ _ (sym (same_line lines)) (cut_suc (length (last_line before))))
    ] in
    by_test (byte == 10) refl

pub places_step : (before bytes : List ℕ) → after_bytes (place_behind before) bytes ≡ place_behind (before ++ bytes)
places_step before [] = ap place_behind (sym (append-nil before))
places_step before (byte ∷ bytes) =
    ap (λ p. after_bytes p bytes) (place_step before byte) ∙ places_step (before ++ byte ∷ []) bytes ∙ ap place_behind (append_assoc before (byte ∷ []) bytes)

pub places_on : (before : List ℕ) (byte : ℕ) (behind : List ℕ) → after_bytes (after_byte (place_behind before) byte) behind ≡ place_behind (before ++ byte ∷ behind)
places_on before byte behind = places_step before (byte ∷ behind)

pub place_start : place_behind [] ≡ start
unfolding place_behind
place_start = refl

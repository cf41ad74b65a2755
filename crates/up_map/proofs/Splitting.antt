-- Texts that are split at a byte.
use Rattle.std.proofs.Common.{◌≡◌, ℕ, suc, Bool, true, false, not, cond, List, [], ◌∷◌, ◌++◌, length, take, drop, refl, ap, sym, ◌∙◌, append-nil, arith}
use Rattle.std.specs.Prelude.{◌==◌, take_while}
use Rattle.std.specs.List.{list_all}
use Rattle.std.proofs.lemmas.Bool.{and_parts, false≢true}
use Rattle.std.proofs.lemmas.Bool.Decides.{nat_tests}
use Rattle.std.proofs.lemmas.List.Sums.{take_while-cons}
use Rattle.up_map.specs.Splits.{in_front, split, is_other}
use Rattle.up_map.specs.Reading.{is_line}

-- ---- the first piece

abbrev front : ℕ → List ℕ → ℕ
front at text = length (take_while (is_other at) text)

front_here : (at byte : ℕ) (rest : List ℕ) → (byte == at) ≡ true → front at (byte ∷ rest) ≡ 0
front_here at byte rest is = rw (take_while-cons (is_other at) byte rest, is) refl

front_on : (at byte : ℕ) (rest : List ℕ) → (byte == at) ≡ false → front at (byte ∷ rest) ≡ suc (front at rest)
front_on at byte rest is = rw (take_while-cons (is_other at) byte rest, is) refl

split_here : (at byte : ℕ) (rest : List ℕ) → (byte == at) ≡ true → split at (byte ∷ rest) ≡ [] ∷ split at rest
split_here at byte rest is = rw is refl

split_on : (at byte : ℕ) (rest : List ℕ) → (byte == at) ≡ false → split at (byte ∷ rest) ≡ in_front byte (split at rest)
split_on at byte rest is = rw is refl

split_whole : (at : ℕ) (text : List ℕ) → drop (front at text) text ≡ [] → split at text ≡ take (front at text) text ∷ []
split_whole at [] none = refl
split_whole at (byte ∷ rest) none = by_test (byte == at) refl (split_whole at rest)
  where
    by_test : (b : Bool) → (byte == at) ≡ b → (drop (front at rest) rest ≡ [] → split at rest ≡ take (front at rest) rest ∷ []) → split at (byte ∷ rest) ≡ take (front at (byte ∷ rest)) (byte ∷ rest) ∷ []
    by_test true here more = let all : byte ∷ rest ≡ [] = rw (front_here at byte rest here) at none in absurd cc
    by_test false other more =
        let less : drop (front at rest) rest ≡ [] = rw (front_on at byte rest other) at none in
        split_on at byte rest other ∙ ap (in_front byte) (more less)
        ∙ ap (λ (n : ℕ). take n (byte ∷ rest) ∷ []) (sym (front_on at byte rest other))

split_part : (at : ℕ) (text : List ℕ) (feed : ℕ) (behind : List ℕ) → drop (front at text) text ≡ feed ∷ behind
    → split at text ≡ take (front at text) text ∷ split at behind
split_part at [] feed behind is = absurd cc
split_part at (byte ∷ rest) feed behind is = by_test (byte == at) refl (split_part at rest feed behind)
  where
    by_test : (b : Bool) → (byte == at) ≡ b
        → (drop (front at rest) rest ≡ feed ∷ behind → split at rest ≡ take (front at rest) rest ∷ split at behind) → split at (byte ∷ rest) ≡ take (front at (byte ∷ rest)) (byte ∷ rest) ∷ split at behind
    by_test true here more =
        let all : byte ∷ rest ≡ feed ∷ behind = rw (front_here at byte rest here) at is in
        let same : rest ≡ behind = cc in
        split_here at byte rest here ∙ ap (λ (left : List ℕ). [] ∷ split at left) same
        ∙ ap (λ (n : ℕ). take n (byte ∷ rest) ∷ split at behind) (sym (front_here at byte rest here))
    by_test false other more =
        let less : drop (front at rest) rest ≡ feed ∷ behind = rw (front_on at byte rest other) at is in
        split_on at byte rest other ∙ ap (in_front byte) (more less)
        ∙ ap (λ (n : ℕ). take n (byte ∷ rest) ∷ split at behind) (sym (front_on at byte rest other))

no_length : (bytes : List ℕ) → length bytes ≡ 0 → bytes ≡ []
no_length [] none = refl
no_length (byte ∷ bytes) none = absurd cc

pub cut_end : (at : ℕ) (text before rest : List ℕ) (n : ℕ) → n ≡ front at text → before ≡ take n text → rest ≡ drop n text → length rest ≡ 0
    → split at text ≡ before ∷ []
cut_end at text before rest n count is left none =
    let blank : drop (front at text) text ≡ [] = rw count at (sym left ∙ no_length rest none) in
    split_whole at text blank ∙ rw (is, count) refl

pub cut_part : (at : ℕ) (text before rest behind : List ℕ) (feed n : ℕ) → n ≡ front at text → before ≡ take n text → rest ≡ drop n text
    → rest ≡ feed ∷ behind → split at text ≡ before ∷ split at behind
cut_part at text before rest behind feed n count is left parts =
    let more : drop (front at text) text ≡ feed ∷ behind = rw count at (sym left ∙ parts) in
    split_part at text feed behind more ∙ rw (is, count) refl

-- ---- pieces that are joined

-- pieces, each behind the byte
abbrev pub after : ℕ → List (List ℕ) → List ℕ
after at [] = []
after at (piece ∷ pieces) = at ∷ (piece ++ after at pieces)

-- pieces with the byte between two
abbrev pub joined : ℕ → List (List ℕ) → List ℕ
joined at [] = []
joined at (piece ∷ pieces) = piece ++ after at pieces

front_some : (byte : ℕ) (pieces : List (List ℕ)) → is_line (in_front byte pieces) ≡ true
front_some byte [] = refl
front_some byte (piece ∷ pieces) = refl

pub split_some : (at : ℕ) (text : List ℕ) → is_line (split at text) ≡ true
split_some at [] = refl
split_some at (byte ∷ rest) = by_test (byte == at)
  where
    by_test : (b : Bool) → is_line (cond b ([] ∷ split at rest) (in_front byte (split at rest))) ≡ true
    by_test true = refl
    by_test false = front_some byte (split at rest)

joined_front : (at byte : ℕ) (pieces : List (List ℕ)) → joined at (in_front byte pieces) ≡ byte ∷ joined at pieces
joined_front at byte [] = refl
joined_front at byte (piece ∷ pieces) = refl

pub after_joined : (at : ℕ) (pieces : List (List ℕ)) → is_line pieces ≡ true → after at pieces ≡ at ∷ joined at pieces
after_joined at [] some = absurd (false≢true some)
after_joined at (piece ∷ pieces) some = refl

same_byte : (one two : ℕ) → (one == two) ≡ true → one ≡ two
same_byte one two is = grind (arith, nat_tests)

-- the pieces of a text make it again
pub joined_split : (at : ℕ) (text : List ℕ) → joined at (split at text) ≡ text
joined_split at [] = refl
joined_split at (byte ∷ rest) = by_test (byte == at) refl (joined_split at rest)
  where
    by_test : (b : Bool) → (byte == at) ≡ b → joined at (split at rest) ≡ rest → joined at (split at (byte ∷ rest)) ≡ byte ∷ rest
    by_test true here again =
        ap (joined at) (split_here at byte rest here) ∙ after_joined at (split at rest) (split_some at rest)
        ∙ ap (λ (left : List ℕ). at ∷ left) again ∙ ap (λ (first : ℕ). first ∷ rest) (sym (same_byte byte at here))
    by_test false other again =
        ap (joined at) (split_on at byte rest other) ∙ joined_front at byte (split at rest)
        ∙ ap (λ (left : List ℕ). byte ∷ left) again

not_true : (b : Bool) → not b ≡ true → b ≡ false
not_true true h = sym h
not_true false h = refl

-- a piece in front
pub split_front : (at : ℕ) (piece rest : List ℕ) → list_all (is_other at) piece ≡ true → split at (piece ++ at ∷ rest) ≡ piece ∷ split at rest
split_front at [] rest all = let same : (at == at) ≡ true = grind (arith, nat_tests) in split_here at at rest same
split_front at (byte ∷ piece) rest all =
    let (here, others) = and_parts (is_other at byte) (list_all (is_other at) piece) all in
    split_on at byte (piece ++ at ∷ rest) (not_true (byte == at) here) ∙ ap (in_front byte) (split_front at piece rest others)

pub split_one : (at : ℕ) (piece : List ℕ) → list_all (is_other at) piece ≡ true → split at piece ≡ piece ∷ []
split_one at [] all = refl
split_one at (byte ∷ piece) all =
    let (here, others) = and_parts (is_other at byte) (list_all (is_other at) piece) all in
    split_on at byte piece (not_true (byte == at) here) ∙ ap (in_front byte) (split_one at piece others)

-- pieces without the byte are what they are split into again
abbrev pub are_free : ℕ → List (List ℕ) → Bool
are_free at pieces = list_all (list_all (is_other at)) pieces

pub split_joined : (at : ℕ) (piece : List ℕ) (pieces : List (List ℕ)) → list_all (is_other at) piece ≡ true → are_free at pieces ≡ true
    → split at (joined at (piece ∷ pieces)) ≡ piece ∷ pieces
split_joined at piece [] here others = ap (split at) (append-nil piece) ∙ split_one at piece here
split_joined at piece (next ∷ pieces) here others =
    let (first, more) = and_parts (list_all (is_other at) next) (are_free at pieces) others in
    split_front at piece (joined at (next ∷ pieces)) here ∙ ap (λ (left : List (List ℕ)). piece ∷ left) (split_joined at next pieces first more)

-- Decimals without leading zeros.
use Rattle.std.proofs.Common.{◌≡◌, ℕ, zero, suc, ◌+◌, ◌-◌, ◌*◌, ◌/◌, ◌%◌, ◌^◌, ◌<◌, ◌≤◌, Bool, true, false, cond, List, [], ◌∷◌, ◌++◌, get_or, Some, None, refl, ap, sym, ◌∙◌, subst, append_assoc, append-nil, arith}
use Rattle.std.specs.Prelude.{◌==◌, ◌&&◌, nat_lt, nat_le, decimal}
use Rattle.std.proofs.lemmas.Bool.{and_parts, false≢true}
use Rattle.std.proofs.lemmas.Bool.Decides.{nat_tests}
use Rattle.std.proofs.lemmas.Fmt.{decimal_by_steps, decimal_digit, decimal_step, first_decimal}
use Rattle.up_text.specs.Names.{is_digit}
use Rattle.up_map.specs.Entries.{with_digit, more_digits, zero_alone, number_of}

digit_range : (byte : ℕ) → is_digit byte ≡ true → (48 ≤ byte) × (byte ≤ 57)
digit_range byte is = let low : nat_le 48 byte ≡ true = (and_parts (nat_le 48 byte) (nat_le byte 57) is).0 in let high : nat_le byte 57 ≡ true = (and_parts (nat_le 48 byte) (nat_le byte 57) is).1 in (grind (arith, nat_tests), grind (arith, nat_tests))

below : (a b : ℕ) → nat_lt a b ≡ true → a < b
below a b is = grind (arith, nat_tests)

is_below : (a b : ℕ) → a < b → nat_lt a b ≡ true
is_below a b is = grind (arith, nat_tests)

-- one digit more
decimal_more : (value byte : ℕ) → 48 ≤ byte → byte ≤ 57 → 0 < value → with_digit value byte < 2 ^ 64
    → decimal value ++ byte ∷ [] ≡ decimal (with_digit value byte)
decimal_more value byte low high some small =
    let step = decimal_step (value * 10 + (byte - 48)) (omega (arith, some)) small in
    let top : (value * 10 + (byte - 48)) / 10 ≡ value = omega (arith, low, high) in
    let last : 48 + (value * 10 + (byte - 48)) % 10 ≡ byte = omega (arith, low, high) in
    sym (rw (top, last) at step)

-- what is read behind the digits of a value is the rest of a decimal
more_text : (value : ℕ) (xs : List ℕ) (n : ℕ) → 0 < value → value < 2 ^ 64 → more_digits value xs ≡ Some n
    → (decimal value ++ xs ≡ decimal n) × (n < 2 ^ 64)
more_text value [] n some small read =
    let same : value ≡ n = cc in
    (append-nil (decimal value) ∙ ap decimal same, subst (λ (k : ℕ). k < 2 ^ 64) same small)
more_text value (byte ∷ rest) n some small read =
    by_test (is_digit byte && nat_lt (with_digit value byte) (2 ^ 64)) refl read (more_text (with_digit value byte) rest n)
  where
    by_test : (b : Bool) → (is_digit byte && nat_lt (with_digit value byte) (2 ^ 64)) ≡ b → cond b (more_digits (with_digit value byte) rest) None ≡ Some n
        → (0 < with_digit value byte → with_digit value byte < 2 ^ 64 → more_digits (with_digit value byte) rest ≡ Some n
        → (decimal (with_digit value byte) ++ rest ≡ decimal n) × (n < 2 ^ 64))
        → (decimal value ++ byte ∷ rest ≡ decimal n) × (n < 2 ^ 64)
    by_test true both go more =
        let (digit, less) = and_parts (is_digit byte) (nat_lt (with_digit value byte) (2 ^ 64)) both in
        let (low, high) = digit_range byte digit in
        let fits : with_digit value byte < 2 ^ 64 = below (with_digit value byte) (2 ^ 64) less in
        let (text, bound) = more (omega (arith, some)) fits go in
        (sym (append_assoc (decimal value) (byte ∷ []) rest) ∙ ap (λ (front : List ℕ). front ++ rest) (decimal_more value byte low high some fits) ∙ text, bound)
    by_test false both go more = absurd cc

first_text : (byte : ℕ) (rest : List ℕ) (n : ℕ) → (byte == 48) ≡ false → more_digits 0 (byte ∷ rest) ≡ Some n → (byte ∷ rest ≡ decimal n) × (n < 2 ^ 64)
first_text byte rest n other read = by_test (is_digit byte && nat_lt (with_digit 0 byte) (2 ^ 64)) refl read
  where
    by_test : (b : Bool) → (is_digit byte && nat_lt (with_digit 0 byte) (2 ^ 64)) ≡ b → cond b (more_digits (with_digit 0 byte) rest) None ≡ Some n
        → (byte ∷ rest ≡ decimal n) × (n < 2 ^ 64)
    by_test true both go =
        let (digit, less) = and_parts (is_digit byte) (nat_lt (with_digit 0 byte) (2 ^ 64)) both in
        let (low, high) = digit_range byte digit in
        let apart : (byte ≡ 48 → ⊥) = λ same. false≢true (sym other ∙ ap (λ (b : ℕ). b == 48) same) in
        let some : 0 < with_digit 0 byte = grind arith in
        let one : decimal (with_digit 0 byte) ≡ byte ∷ [] = decimal_digit (with_digit 0 byte) (omega (arith, low, high)) ∙ ap (λ (b : ℕ). b ∷ []) (omega (arith, low, high)) in
        let (text, bound) = more_text (with_digit 0 byte) rest n some (below (with_digit 0 byte) (2 ^ 64) less) go in
        (ap (λ (front : List ℕ). front ++ rest) (sym one) ∙ text, bound)
    by_test false both go = absurd cc

zero_text : (rest : List ℕ) (n : ℕ) → zero_alone rest ≡ Some n → (48 ∷ rest ≡ decimal n) × (n < 2 ^ 64)
zero_text [] n read =
    let same : 0 ≡ n = cc in
    (sym (decimal_digit 0 (omega arith)) ∙ ap decimal same, subst (λ (k : ℕ). k < 2 ^ 64) same (omega arith))
zero_text (byte ∷ rest) n read = absurd cc

same_byte : (one two : ℕ) → (one == two) ≡ true → one ≡ two
same_byte one two is = grind (arith, nat_tests)

-- what is read as a number is its decimal
pub number_text : (word : List ℕ) (n : ℕ) → number_of word ≡ Some n → (word ≡ decimal n) × (n < 2 ^ 64)
number_text [] n read = absurd cc
number_text (byte ∷ rest) n read = by_test (byte == 48) refl read
  where
    by_test : (b : Bool) → (byte == 48) ≡ b → cond b (zero_alone rest) (more_digits 0 (byte ∷ rest)) ≡ Some n → (byte ∷ rest ≡ decimal n) × (n < 2 ^ 64)
    by_test true here go =
        let (text, bound) = zero_text rest n go in
        (ap (λ (b : ℕ). b ∷ rest) (same_byte byte 48 here) ∙ text, bound)
    by_test false other go = first_text byte rest n other go

-- ---- decimals are read

one_more : (value byte : ℕ) (rest : List ℕ) → is_digit byte ≡ true → with_digit value byte < 2 ^ 64 → more_digits value (byte ∷ rest) ≡ more_digits (with_digit value byte) rest
one_more value byte rest digit small = let less : nat_lt (with_digit value byte) (2 ^ 64) ≡ true = is_below (with_digit value byte) (2 ^ 64) small in rw (digit, less) refl

is_glyph : (k : ℕ) → k < 10 → is_digit (48 + k) ≡ true
is_glyph k low = grind (arith, nat_tests)

abbrev Runs : ℕ → List ℕ → Type 0
Runs n digits = n < 2 ^ 64 → (rest : List ℕ) → more_digits 0 (digits ++ rest) ≡ more_digits n rest

run : (n : ℕ) → n < 2 ^ 64 → Runs n (decimal n)
run n fits = decimal_by_steps Runs
    (λ k low small rest.
    let is : with_digit 0 (48 + k) ≡ k = omega arith in
    one_more 0 (48 + k) rest (is_glyph k low) (omega (arith, small)) ∙ ap (λ (m : ℕ). more_digits m rest) is)
    (λ k digits big ih small rest.
    let is : with_digit (k / 10) (48 + k % 10) ≡ k = omega arith in
    ap (more_digits 0) (append_assoc digits ((48 + k % 10) ∷ []) rest)
    ∙ ih (omega (arith, small)) ((48 + k % 10) ∷ rest)
    ∙ one_more (k / 10) (48 + k % 10) rest (is_glyph (k % 10) (omega arith)) (omega (arith, small))
    ∙ ap (λ (m : ℕ). more_digits m rest) is)
    n fits

first_apart : (word : List ℕ) → 48 < get_or word 0 0 → number_of word ≡ more_digits 0 word
first_apart [] more = absurd (omega (arith, more))
first_apart (byte ∷ rest) more = let other : (byte == 48) ≡ false = grind (arith, nat_tests) in rw other refl

pub decimal_number : (n : ℕ) → n < 2 ^ 64 → number_of (decimal n) ≡ Some n
decimal_number zero fits = ap number_of (decimal_digit 0 (omega arith))
decimal_number (suc n) fits =
    first_apart (decimal (suc n)) (first_decimal (suc n) (omega arith) fits)
    ∙ ap (more_digits 0) (sym (append-nil (decimal (suc n)))) ∙ run (suc n) fits fits []

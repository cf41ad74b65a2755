-- One more digit of a number.
use Rattle.std.proofs.Common.{◌≡◌, ℕ, ◌+◌, ◌^◌, ◌<◌, ◌≤◌, Bool, true, false, List, ◌∷◌, length, get_or, drop, Some, None, refl, ap, sym, ◌∙◌, arith}
use Rattle.std.specs.Prelude.{◌&&◌, nat_lt}
use Rattle.std.proofs.lemmas.Bool.Decides.{nat_tests}
use Rattle.std.proofs.lemmas.List.{at_drop_more, at_drop_all}
use Rattle.up_text.specs.Names.{is_digit}
use Rattle.up_map.specs.Entries.{with_digit, more_digits}

one_more : (value byte : ℕ) (rest : List ℕ) → is_digit byte ≡ true → with_digit value byte < 2 ^ 64
    → more_digits value (byte ∷ rest) ≡ more_digits (with_digit value byte) rest
one_more value byte rest digit small =
    let less : nat_lt (with_digit value byte) (2 ^ 64) ≡ true = grind (arith, nat_tests) in
    rw (digit, less) refl

no_digit : (value byte : ℕ) (rest : List ℕ) → is_digit byte ≡ false → more_digits value (byte ∷ rest) ≡ None
no_digit value byte rest other = rw other refl

and_false : (a b : Bool) → b ≡ false → (a && b) ≡ false
and_false true b is = is
and_false false b is = refl

too_large : (value byte : ℕ) (rest : List ℕ) → 2 ^ 64 ≤ with_digit value byte → more_digits value (byte ∷ rest) ≡ None
too_large value byte rest large =
    let more : nat_lt (with_digit value byte) (2 ^ 64) ≡ false = grind (arith, nat_tests) in
    rw (and_false (is_digit byte) (nat_lt (with_digit value byte) (2 ^ 64)) more) refl

-- the digits so far make a value, behind which the others are read
abbrev pub IsRead : List ℕ → ℕ → ℕ → Type 0
IsRead digits i value = more_digits 0 digits ≡ more_digits value (drop i digits)

pub digit_read : (digits : List ℕ) (i value later : ℕ) → i < length digits → is_digit (get_or digits i 0) ≡ true
    → later ≡ with_digit value (get_or digits i 0) → later < 2 ^ 64 → IsRead digits i value → IsRead digits (i + 1) later
digit_read digits i value later within digit is small so_far =
    so_far ∙ at_drop_more (more_digits value) digits i 0 within
    ∙ one_more value (get_or digits i 0) (drop (i + 1) digits) digit (omega (arith, is, small))
    ∙ ap (λ (n : ℕ). more_digits n (drop (i + 1) digits)) (sym is)

pub other_read : (digits : List ℕ) (i value : ℕ) → i < length digits → is_digit (get_or digits i 0) ≡ false → IsRead digits i value
    → None ≡ more_digits 0 digits
other_read digits i value within other so_far =
    sym (so_far ∙ at_drop_more (more_digits value) digits i 0 within ∙ no_digit value (get_or digits i 0) (drop (i + 1) digits) other)

pub large_read : (digits : List ℕ) (i value : ℕ) → i < length digits → 2 ^ 64 ≤ with_digit value (get_or digits i 0) → IsRead digits i value
    → None ≡ more_digits 0 digits
large_read digits i value within large so_far =
    sym (so_far ∙ at_drop_more (more_digits value) digits i 0 within ∙ too_large value (get_or digits i 0) (drop (i + 1) digits) large)

pub all_read : (digits : List ℕ) (i value : ℕ) → length digits ≤ i → IsRead digits i value → Some value ≡ more_digits 0 digits
all_read digits i value past so_far = sym (so_far ∙ at_drop_all (more_digits value) digits i past)

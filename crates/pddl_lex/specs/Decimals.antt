-- The numbers that decimal literals spell.
use Rattle.std.specs.Prelude.{ℕ, ◌+◌, ◌-◌, ◌*◌, ◌^◌, ◌==◌, List, ◌++◌, length, take, drop, fold, ℤ, pos, neg_ℤ, if◌then◌else◌}
use Rattle.up_frac.specs.Fraction.{Fraction}
use Rattle.up_frac.specs.Arithmetic.{reduce}
use Rattle.pddl_lex.specs.Bytes.{is_digit, front_length}

-- a number with one more digit behind its own
abbrev pub with_digit : ℕ → ℕ → ℕ
with_digit number digit = 10 * number + (digit - 48)

-- a number with more digits behind its own
abbrev pub with_digits : ℕ → List ℕ → ℕ
with_digits number digits = fold with_digit number digits

-- the digits before the point
abbrev pub whole_digits : List ℕ → List ℕ
whole_digits bytes = take (front_length is_digit bytes) bytes

-- the digits behind the point
abbrev pub decimals : List ℕ → List ℕ
decimals bytes = drop 1 (drop (front_length is_digit bytes) bytes)

-- the number of a first byte, which may be `-`
abbrev pub first_digit : ℕ → ℕ
first_digit byte = if byte == 45 then 0 else byte - 48

abbrev pub signed : ℕ → ℕ → ℤ
signed byte number = if byte == 45 then neg_ℤ (pos number) else pos number

-- a whole number over ten for each digit behind the point
abbrev pub over_tens : ℤ → ℕ → Fraction
over_tens number count = reduce number (10 ^ count)

-- the number of a literal, by its first byte and those behind: all its digits as a whole number, over ten for each of
-- those behind the point
unfoldable pub literal : ℕ → List ℕ → Fraction
literal byte behind =
    over_tens (signed byte (with_digits (first_digit byte) (whole_digits behind ++ decimals behind))) (length (decimals behind))

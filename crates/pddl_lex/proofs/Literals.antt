-- The digits of a number.
use Rattle.std.proofs.Common.{◌≡◌, ℕ, suc, ◌+◌, ◌-◌, ◌*◌, ◌≤◌, ◌<◌, true, false, List, [], ◌∷◌, ◌++◌, length, take, drop, get_or, inl, inr, refl, ap, sym, ◌∙◌, length-append, drop-cons, arith}
use Rattle.std.specs.Prelude.{◌^◌, ◌==◌}
use Rattle.std.specs.List.{list_all}
use Rattle.std.proofs.lemmas.Bool.{and_parts}
use Rattle.std.proofs.lemmas.Bool.Decides.{nat_tests}
use Rattle.std.proofs.lemmas.List.Sums.{fold-append}
use Rattle.std.proofs.lemmas.List.Folds.{list_all-append}
use Rattle.std.proofs.Math.Nat.{pow-succ', pow-le-pow_right}
use Rattle.std.proofs.Math.Seq.{take-append_seam}
use Rattle.pddl_lex.specs.Bytes.{is_digit, front_length, first}
use Rattle.pddl_lex.specs.Decimals.{with_digit, with_digits, whole_digits, decimals, first_digit}
use Rattle.pddl_lex.proofs.Spelling.{front_stops, drop_front}
use Rattle.pddl_lex.specs.Spells.{stops, IsNumberByte, IsUnsigned, IsFraction, none, digits, IsNumber, plain, negative}

-- more digits make no number smaller
pub with_digits_above : (number : ℕ) (more : List ℕ) → number ≤ with_digits number more
with_digits_above number [] = omega arith
with_digits_above number (digit ∷ more) =
    let rest : with_digit number digit ≤ with_digits (with_digit number digit) more = with_digits_above (with_digit number digit) more in
    omega (arith, rest)

pub digit_above : (digit : ℕ) → is_digit digit ≡ true → 48 ≤ digit
digit_above digit is = grind (arith, nat_tests)

digit_below : (digit : ℕ) → is_digit digit ≡ true → digit ≤ 57
digit_below digit is = grind (arith, nat_tests)

with_digits_below : (number k : ℕ) (more : List ℕ) → list_all is_digit more ≡ true → number < 10 ^ k → with_digits number more < 10 ^ (k + length more)
with_digits_below number k [] all below = let same : k + 0 ≡ k = omega arith in rw same below
with_digits_below number k (digit ∷ more) all below =
    let (here, others) = and_parts (is_digit digit) (list_all is_digit more) all in
    let most : digit ≤ 57 = digit_below digit here in
    let ten : 10 ^ suc k ≡ 10 * 10 ^ k = pow-succ' 10 k in
    let next : with_digit number digit < 10 ^ suc k = omega (arith, most, ten, below) in
    let count : k + suc (length more) ≡ suc k + length more = omega arith in
    rw count (with_digits_below (with_digit number digit) (suc k) more others next)

-- the next digit of a row makes no number that is too large
pub next_digit : (row : List ℕ) (i all total : ℕ) → i < length row → with_digits all (drop i row) ≡ total
    → with_digit all (get_or row i 0) ≤ total
next_digit row i all total within is =
    let step : drop i row ≡ get_or row i 0 ∷ drop (suc i) row = drop-cons row i 0 within in
    let rest : with_digits (with_digit all (get_or row i 0)) (drop (suc i) row) ≡ total = sym (ap (with_digits all) step) ∙ is in
    let above = with_digits_above (with_digit all (get_or row i 0)) (drop (suc i) row) in
    omega (arith, above, rest)

pub both_digits : (number : ℕ) (whole decimals : List ℕ) → with_digits number whole ≤ with_digits number (whole ++ decimals)
both_digits number whole decimals =
    let is : with_digits number (whole ++ decimals) ≡ with_digits (with_digits number whole) decimals = fold-append with_digit number whole decimals in
    let above = with_digits_above (with_digits number whole) decimals in
    omega (arith, above, is)

-- the digits before and behind a point, behind those of a number, are few
pub record Fits (number : ℕ) (whole behind : List ℕ) : Type 0 where
  pub whole_digits : list_all is_digit whole ≡ true
  pub behind_digits : list_all is_digit behind ≡ true
  pub few : with_digits number (whole ++ behind) < 10 ^ 18
  pub places : length behind ≤ 9

fits_parts : (before number : ℕ) (whole behind : List ℕ) → list_all is_digit whole ≡ true → list_all is_digit behind ≡ true
    → number < 10 ^ before → before + length whole + length behind ≤ 18 → with_digits number (whole ++ behind) < 10 ^ 18
fits_parts before number whole behind all others below few =
    let joined : list_all is_digit (whole ++ behind) ≡ true = rw (list_all-append is_digit whole behind, all, others) refl in
    let less = with_digits_below number before (whole ++ behind) joined below in
    let count : before + length (whole ++ behind) ≤ 18 = rw (length-append whole behind) (omega (arith, few)) in
    let most : 10 ^ (before + length (whole ++ behind)) ≤ 10 ^ 18 = pow-le-pow_right {n = 10} (omega arith) count in
    omega (arith, less, most)

whole_is : (whole fraction : List ℕ) → list_all is_digit whole ≡ true → stops is_digit fraction ≡ true
    → (whole_digits (whole ++ fraction) ≡ whole) × (decimals (whole ++ fraction) ≡ drop 1 fraction)
whole_is whole fraction all stop =
    let count = front_stops is_digit whole fraction all stop in
    (rw count (take-append_seam whole fraction), rw (count, drop_front whole fraction) refl)

fraction_stops : (fraction : List ℕ) → IsFraction fraction → stops is_digit fraction ≡ true
fraction_stops fraction (none is) = rw is refl
fraction_stops fraction (digits behind is all some few) = rw is refl

fits_fraction : (before number : ℕ) (whole fraction : List ℕ) → IsFraction fraction → list_all is_digit whole ≡ true
    → number < 10 ^ before → before + length whole + (length fraction - 1) ≤ 18 → Fits number whole (drop 1 fraction)
fits_fraction before number whole fraction (none is) all below few =
    let short : length fraction ≡ 0 = ap length is in
    rw is (record {
      whole_digits = all;
      behind_digits = refl;
      few = fits_parts before number whole [] all refl below (omega (arith, few, short));
      places = omega arith;
    })
fits_fraction before number whole fraction (digits behind is digit_all some nine) all below few =
    let one_more : length fraction ≡ suc (length behind) = ap length is in
    rw is (record {
      whole_digits = all;
      behind_digits = digit_all;
      few = fits_parts before number whole behind all digit_all below (omega (arith, few, one_more));
      places = nine;
    })

fits_unsigned : (before number : ℕ) (bytes : List ℕ) → IsUnsigned before bytes → number < 10 ^ before
    → Fits number (whole_digits bytes) (decimals bytes)
fits_unsigned before number bytes u below =
    let (front, back) = whole_is u.whole u.fraction u.whole_digits (fraction_stops u.fraction u.is_fraction) in
    rw (u.parts, front, back) (fits_fraction before number u.whole u.fraction u.is_fraction u.whole_digits below u.few)

number_fits : (byte : ℕ) (behind : List ℕ) → IsNumber byte behind → Fits (first_digit byte) (whole_digits behind) (decimals behind)
number_fits byte behind (plain digit u) =
    let not_minus : (byte == 45) ≡ false = grind (arith, nat_tests) in
    let most : byte ≤ 57 = digit_below byte digit in
    rw not_minus (fits_unsigned 1 (byte - 48) behind u (omega (arith, most)))
number_fits byte behind (negative minus digit others is one u) = rw minus (fits_unsigned 0 0 behind u (omega arith))

-- the parts of a number as the code takes them
pub parts_fit : (byte : ℕ) (bytes : List ℕ) (number count : ℕ) (whole fraction behind : List ℕ) → IsNumber byte bytes
    → number ≡ first_digit byte → count ≡ front_length is_digit bytes
    → whole ≡ take count bytes → fraction ≡ drop count bytes → behind ≡ drop 1 fraction → Fits number whole behind
parts_fit byte bytes number count whole fraction behind is first here front back point =
    rw (first, point, back, front, here) (number_fits byte bytes is)

pub number_byte : (byte : ℕ) (behind : List ℕ) → IsNumber byte behind → IsNumberByte byte
number_byte byte behind (plain digit u) = inr digit
number_byte byte behind (negative minus digit others is one u) = inl minus

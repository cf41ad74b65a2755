-- A fraction in lowest terms has no greater numbers.
use Rattle.std.proofs.Common.{◌≡◌, ℕ, zero, suc, ◌/◌, ◌≤◌, ◌<◌, refl, ap, sym, ◌∙◌, inl, inr, arith}
use Rattle.std.specs.Prelude.{◌^◌, ◌≢◌, ◌↔◌, ℤ, pos, negsuc, nat_abs, Result, Ok, Err, IsOk, IsErrOf}
use Rattle.std.proofs.Math.Nat.{div-le_self, pow-le-pow_right}
use Rattle.std.specs.Int.{cast_signed, w64}
use Rattle.std.proofs.lemmas.Int.{to_z_pos}
use Rattle.up_frac.specs.Fraction.{Fraction, IsBig, common}
use Rattle.up_frac.specs.Reducing.{signed}
use Rattle.up_frac.specs.Arithmetic.{reduce, quotient_of}
use Rattle.up_frac.specs.declared.frac_error.FracError.{FracError}
use Rattle.up_frac.specs.declared.frac_error.FracError.TheVariants.{ZeroDivisor, TooLarge}

size_signed : (n : ℤ) (k : ℕ) → nat_abs (signed n k) ≡ k
size_signed (pos n) k = refl
size_signed (negsuc n) zero = refl
size_signed (negsuc n) (suc k) = refl

small_reduced : (n : ℤ) (d : ℕ) → nat_abs n < 2 ^ 62 → d < 2 ^ 62 → ¬ IsBig (reduce n d)
unfolding reduce
small_reduced n zero above below (inl big) = absurd (omega (arith, big))
small_reduced n zero above below (inr big) = absurd (omega (arith, big))
small_reduced n (suc d) above below (inl big) =
    let g = common (nat_abs n) (suc d) in
    let size : nat_abs (signed n (nat_abs n / g)) ≡ nat_abs n / g = size_signed n (nat_abs n / g) in
    let less : nat_abs n / g ≤ nat_abs n = div-le_self (nat_abs n) g in
    absurd (omega (arith, big, size, less, above))
small_reduced n (suc d) above below (inr big) =
    let g = common (nat_abs n) (suc d) in
    let less : suc d / g ≤ suc d = div-le_self (suc d) g in
    absurd (omega (arith, big, less, below))

tens_some : (count : ℕ) → 1 ≤ 10 ^ count
tens_some count = pow-le-pow_right {n = 10} (omega arith) {i = 0} {j = count} (omega arith)

tens_few : (count : ℕ) → count ≤ 9 → 10 ^ count ≤ 10 ^ 9
tens_few count few = pow-le-pow_right {n = 10} (omega arith) few

-- a few tens as a signed number
pub tens_signed : (tens count : ℕ) → tens ≡ 10 ^ count → count ≤ 9 → cast_signed w64 tens ≡ pos (10 ^ count)
tens_signed tens count is few =
    let most : 10 ^ count ≤ 10 ^ 9 = tens_few count few in
    to_z_pos w64 tens (omega (arith, most, is)) ∙ ap pos is

-- a fraction over a few tens is made
pub over_tens_made : (r : Result Fraction FracError) (number n d : ℤ) (count : ℕ) → n ≡ number → d ≡ pos (10 ^ count) → count ≤ 9 → nat_abs number < 10 ^ 18
    → (IsErrOf r ZeroDivisor ↔ (d ≡ pos 0))
    → (IsErrOf r TooLarge ↔ ((d ≢ pos 0) × IsBig (quotient_of n d)))
    → IsOk r
over_tens_made (Ok fraction) number n d count same is few small zero_divisor too_large = refl
over_tens_made (Err ZeroDivisor) number n d count same is few small zero_divisor too_large =
    let zero_tens : pos (10 ^ count) ≡ pos 0 = sym is ∙ zero_divisor.0 refl in
    let none : 10 ^ count ≡ 0 = cc in
    let some : 1 ≤ 10 ^ count = tens_some count in
    absurd (omega (arith, none, some))
over_tens_made (Err TooLarge) number n d count same is few small zero_divisor too_large =
    let most : 10 ^ count ≤ 10 ^ 9 = tens_few count few in
    let big : IsBig (quotient_of number (pos (10 ^ count))) = rw (same, is) at (too_large.0 refl).1 in
    absurd (small_reduced number (10 ^ count) (omega (arith, small)) (omega (arith, most)) big)

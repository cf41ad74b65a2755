-- Zero as a fraction, which is never too large.
use Rattle.std.proofs.Common.{◌≡◌, inl, inr, refl, ap, arith}
use Rattle.std.specs.Prelude.{◌≢◌, ◌↔◌, Result, Err, IsErrOf, pos, nat_abs}
use Rattle.up_frac.specs.declared.frac_error.FracError.{FracError}
use Rattle.up_frac.specs.declared.frac_error.FracError.TheVariants.{ZeroDivisor, TooLarge}
use Rattle.up_frac.specs.declared.frac.Frac.{Frac}
use Rattle.up_frac.specs.Arithmetic.{reduce, quotient_of, whole}
use Rattle.up_frac.specs.Fraction.{IsBig, common}

pub zero_is : quotient_of (pos 0) (pos 1) ≡ whole (pos 0)
unfolding whole
zero_is = refl

above : nat_abs (quotient_of (pos 0) (pos 1)).numerator ≡ 0
unfolding reduce common
above = refl

below : (quotient_of (pos 0) (pos 1)).denominator ≡ 1
unfolding reduce common
below = refl

zero_small : ¬ IsBig (quotient_of (pos 0) (pos 1))
zero_small big = elim big [ inl a ↦ absurd (omega (arith, above)) | inr b ↦ absurd (omega (arith, below)) ]

one_apart : ¬ (pos 1 ≡ pos 0)
one_apart e = let same : 1 ≡ 0 = ap nat_abs e in absurd (omega (arith, same))

pub never : (result : Result Frac FracError) (error : FracError) → result ≡ Err error → (IsErrOf result ZeroDivisor ↔ (pos 1 ≡ pos 0))
    → (IsErrOf result TooLarge ↔ ((pos 1 ≢ pos 0) × IsBig (quotient_of (pos 0) (pos 1)))) → ⊥
never result ZeroDivisor is zero big = one_apart (zero.0 is)
never result TooLarge is zero big = zero_small ((big.0 is).1)

pub ruleset zeros = (zero_is)

-- The reduced fraction of a quotient.
use Rattle.std.proofs.Common.{◌≡◌, ℕ, zero, suc, ◌/◌, ◌<◌, ◌≤◌, ◌^◌, ◌⊎◌, inl, inr, ℤ, nat_abs, IsTrue, refl, sym, subst, ap, ◌∙◌, arith}
use Rattle.up_frac.specs.Fraction.{Fraction, common, is_reduced, same_parts, IsBig}
use Rattle.up_frac.specs.Reducing.{signed, nat_abs-signed}
use Rattle.up_frac.specs.Arithmetic.{reduce}

pub numerator_is : (n : ℤ) (d : ℕ) → 0 < d → (reduce n d).numerator ≡ signed n (nat_abs n / common (nat_abs n) d)
unfolding reduce
numerator_is n zero some = absurd (omega arith)
numerator_is n (suc d) some = refl

pub denominator_is : (n : ℤ) (d : ℕ) → 0 < d → (reduce n d).denominator ≡ d / common (nat_abs n) d
unfolding reduce
denominator_is n zero some = absurd (omega arith)
denominator_is n (suc d) some = refl

pub size_is : (n : ℤ) (d : ℕ) → 0 < d → nat_abs (reduce n d).numerator ≡ nat_abs n / common (nat_abs n) d
size_is n d some = ap nat_abs (numerator_is n d some) ∙ nat_abs-signed n _

-- a fraction with the numbers of a reduced quotient is that
pub is_reduce : (f : Fraction) (n : ℤ) (d : ℕ) → 0 < d → f.numerator ≡ signed n (nat_abs n / common (nat_abs n) d) → f.denominator ≡ d / common (nat_abs n) d → f ≡ reduce n d
is_reduce f n d some p q = same_parts f (reduce n d) (λ i. ((p ∙ sym (numerator_is n d some)) i, (q ∙ sym (denominator_is n d some)) i))

-- its numbers meet the test of a reduced fraction
pub meets : (n : ℤ) (d : ℕ) (a : ℤ) (b : ℕ) → 0 < d → a ≡ signed n (nat_abs n / common (nat_abs n) d) → b ≡ d / common (nat_abs n) d → IsTrue (is_reduced a b)
meets n d a b some p q =
    let e : ◌≡◌ {A = ℤ × ℕ} ((reduce n d).numerator, (reduce n d).denominator) (a, b) = λ i. ((numerator_is n d some ∙ sym p) i, (denominator_is n d some ∙ sym q) i) in
    subst (λ p. IsTrue (is_reduced p.0 p.1)) e (reduce n d).reduced

-- where its numbers are large
pub big_above : (n : ℤ) (d : ℕ) → 0 < d → 2 ^ 62 ≤ nat_abs n / common (nat_abs n) d → IsBig (reduce n d)
big_above n d some le = inl (subst (λ m. 2 ^ 62 ≤ m) (sym (size_is n d some)) le)

pub big_below : (n : ℤ) (d : ℕ) → 0 < d → 2 ^ 62 ≤ d / common (nat_abs n) d → IsBig (reduce n d)
big_below n d some le = inr (subst (λ m. 2 ^ 62 ≤ m) (sym (denominator_is n d some)) le)

pub not_big : (n : ℤ) (d : ℕ) → 0 < d → nat_abs n / common (nat_abs n) d < 2 ^ 62 → d / common (nat_abs n) d < 2 ^ 62 → IsBig (reduce n d) → ⊥
not_big n d some above below (inl le) = apart le
  where
    apart : 2 ^ 62 ≤ nat_abs (reduce n d).numerator → ⊥
    apart le = let e = size_is n d some in omega arith
not_big n d some above below (inr le) = apart le
  where
    apart : 2 ^ 62 ≤ (reduce n d).denominator → ⊥
    apart le = let e = denominator_is n d some in omega arith

module _ (n z : ℤ) (d s g : ℕ) (same : z ≡ n) (size : s ≡ nat_abs z) (divisor : g ≡ common s d) where
  whole_size : s ≡ nat_abs n
  whole_size = size ∙ ap nat_abs same

  whole_divisor : g ≡ common (nat_abs n) d
  whole_divisor = divisor ∙ ap (λ m. common m d) whole_size

  pub above_is : s / g ≡ nat_abs n / common (nat_abs n) d
  above_is = λ i. (whole_size i) / (whole_divisor i)

  pub below_is : d / g ≡ d / common (nat_abs n) d
  below_is = ap (λ m. d / m) whole_divisor

  pub sign_is : (r : ℤ) → r ≡ signed z (s / g) → r ≡ signed n (nat_abs n / common (nat_abs n) d)
  sign_is r e = e ∙ (λ i. signed (same i) (above_is i))

  pub large : 0 < d → (2 ^ 62 ≤ s / g) ⊎ (2 ^ 62 ≤ d / g) → IsBig (reduce n d)
  large some (inl le) = big_above n d some (subst (λ m. 2 ^ 62 ≤ m) above_is le)
  large some (inr le) = big_below n d some (subst (λ m. 2 ^ 62 ≤ m) below_is le)

  pub small : 0 < d → s / g < 2 ^ 62 → d / g < 2 ^ 62 → IsBig (reduce n d) → ⊥
  small some above below big = not_big n d some (subst (λ m. m < 2 ^ 62) above_is above) (subst (λ m. m < 2 ^ 62) below_is below) big

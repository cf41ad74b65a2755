-- What the code's numbers reduce to.
use Rattle.std.proofs.Common.{◌≡◌, ℕ, zero, suc, ◌*◌, ℤ, pos, negsuc, ◌+ℤ◌, ◌-ℤ◌, ◌*ℤ◌, neg_ℤ, nat_abs, ◌<ℤ◌, ◌≤ℤ◌, Some, None, Result, Ok, Err, IfOk, refl, sym, ap, ap₂, ◌∙◌, arith}
use Rattle.std.proofs.lemmas.Int.{ints}
use Rattle.up_frac.specs.Fraction.{Fraction}
use Rattle.up_frac.specs.Arithmetic.{reduce, quotient_of, sum, difference, product, quotient, divided, IsZero}

module _ (a b : Fraction) (d : ℕ) (den : d ≡ a.denominator * b.denominator) where
  pub sum_is : (z : ℤ) → z ≡ a.numerator *ℤ pos b.denominator +ℤ b.numerator *ℤ pos a.denominator → reduce z d ≡ sum a b
  unfolding sum
  sum_is z e = ap₂ reduce e den

  pub difference_is : (z : ℤ) → z ≡ a.numerator *ℤ pos b.denominator -ℤ b.numerator *ℤ pos a.denominator → reduce z d ≡ difference a b
  unfolding difference
  difference_is z e = ap₂ reduce e den

  pub product_is : (z : ℤ) → z ≡ a.numerator *ℤ b.numerator → reduce z d ≡ product a b
  unfolding product
  product_is z e = ap₂ reduce e den

pub negative_quotient : (n z : ℤ) → z <ℤ pos 0 → quotient_of n z ≡ reduce (neg_ℤ n) (nat_abs z)
negative_quotient n (pos d) lt = absurd (omega (arith, ints))
negative_quotient n (negsuc d) lt = refl

pub positive_quotient : (n z : ℤ) → pos 0 ≤ℤ z → quotient_of n z ≡ reduce n (nat_abs z)
positive_quotient n (pos d) le = refl
positive_quotient n (negsuc d) le = absurd (omega (arith, ints))

pub some_quotient : (a b : Fraction) → (IsZero b → ⊥) → quotient a b ≡ Some (quotient_of (a.numerator *ℤ pos b.denominator) (b.numerator *ℤ pos a.denominator))
unfolding quotient
some_quotient a b some = cases b.numerator some
  where
    cases : (n : ℤ) → (n ≡ pos 0 → ⊥) → divided a b n ≡ Some (quotient_of (a.numerator *ℤ pos b.denominator) (n *ℤ pos a.denominator))
    cases (pos zero) some = absurd (some refl)
    cases (pos (suc n)) some = refl
    cases (negsuc n) some = refl

pub no_quotient : (a b : Fraction) → IsZero b → quotient a b ≡ None
unfolding quotient
no_quotient a b zero_b = ap (divided a b) zero_b

pub quotient_ok : {E : Type 0} (a b q : Fraction) (r : Result Fraction E) → quotient a b ≡ Some q → IfOk r (λ f. f ≡ q) → IfOk r (λ f. quotient a b ≡ Some f)
quotient_ok a b q (Ok f) is e = is ∙ ap Some (sym e)
quotient_ok a b q (Err x) is e = e

pub quotient_is : (a b : Fraction) → (IsZero b → ⊥) → (x z : ℤ) → x ≡ a.numerator *ℤ pos b.denominator → z ≡ b.numerator *ℤ pos a.denominator →
    quotient a b ≡ Some (quotient_of x z)
quotient_is a b some x z p q = some_quotient a b some ∙ sym (λ i. Some (quotient_of (p i) (q i)))

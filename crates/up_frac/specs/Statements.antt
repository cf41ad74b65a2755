-- The laws of fractions.
use Rattle.std.specs.Prelude.{◌≡◌, ◌<◌, ℕ, ℤ, pos, ◌*ℤ◌}
use Rattle.std.specs.Ordering.{int_cmp}
use Rattle.std.specs.declared.cmp.Ordering.TheVariants.{Equal}
use Rattle.up_frac.specs.Fraction.{Fraction}
use Rattle.up_frac.specs.Arithmetic.{reduce, sum, difference, compare}

-- equal quotients have one reduced fraction
abbrev pub ReducesOnce : Type 0
ReducesOnce = (n m : ℤ) (d e : ℕ) → 0 < d → 0 < e → n *ℤ pos e ≡ m *ℤ pos d → reduce n d ≡ reduce m e

-- a fraction is its own reduction
abbrev pub IsReducedOf : Type 0
IsReducedOf = (a : Fraction) → a ≡ reduce a.numerator a.denominator

abbrev pub Commutes : (Fraction → Fraction → Fraction) → Type 0
Commutes f = (a b : Fraction) → f a b ≡ f b a

abbrev pub Associates : (Fraction → Fraction → Fraction) → Type 0
Associates f = (a b c : Fraction) → f (f a b) c ≡ f a (f b c)

-- a difference is what the second number lacks to the first
abbrev pub DifferenceFills : Type 0
DifferenceFills = (a b : Fraction) → sum (difference a b) b ≡ a

-- fractions that are neither less than the other are equal
abbrev pub EqualsWhereSame : Type 0
EqualsWhereSame = (a b : Fraction) → compare a b ≡ Equal → a ≡ b

-- the order is that of the difference and 0
abbrev pub OrderIsOfDifference : Type 0
OrderIsOfDifference = (a b : Fraction) → compare a b ≡ int_cmp (difference a b).numerator (pos 0)

-- Numbers in decimal, with the fewest digits.
use Rattle.std.specs.Prelude.{ℕ, zero, suc, ◌*◌, ◌/◌, ◌%◌, ◌==◌, ℤ, pos, negsuc, nat_abs, if◌then◌else◌, List, [], ◌++◌, codes, decimal}
use Rattle.up_frac.specs.Fraction.{Fraction}

-- long division: at most so many digits, and none once nothing is left
unfoldable pub decimals : ℕ → ℕ → ℕ → List ℕ
decimals zero rest divisor = []
decimals (suc places) rest divisor =
    if rest == 0 then [] else decimal (10 * rest / divisor) ++ decimals places (10 * rest % divisor) divisor

-- nothing for a whole number
abbrev pub point_text : ℕ → ℕ → List ℕ
point_text rest divisor = if rest == 0 then [] else codes "." ++ decimals 9 rest divisor

abbrev pub sign_text : ℤ → List ℕ
sign_text (pos n) = []
sign_text (negsuc n) = codes "-"

unfoldable pub number_text : Fraction → List ℕ
number_text n =
    sign_text n.numerator ++ decimal (nat_abs n.numerator / n.denominator) ++ point_text (nat_abs n.numerator % n.denominator) n.denominator

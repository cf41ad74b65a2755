-- The greatest common divisor: each common divisor divides it, and it scales.
use Rattle.std.proofs.Common.{◌≡◌, ℕ, zero, suc, ◌*◌, ◌/◌, ◌%◌, ◌<◌, ◌≤◌, refl, sym, subst, le_refl, mul-pos, arith}
use Rattle.std.specs.Int.{IsGcd}
use Rattle.std.proofs.lemmas.Nat.{mod_below}
use Rattle.std.proofs.lemmas.Nat.Gcd.{dvd_of_mod-eq-zero, mod-eq-zero_of_dvd, le_of_dvd, dvd_antisymm, IsGcd-from_zero, IsGcd-from_mod, same_from_IsGcd}
use Rattle.std.proofs.Math.Nat.{eq-zero_of_zero-dvd, dvd-mul_left, div-mul_cancel, mul-dvd-mul_right, dvd_of_mul-dvd-mul_right}
use Rattle.up_frac.specs.Stored.{◌∣◌}
use Rattle.up_frac.specs.Fraction.{common}
use Rattle.up_frac.specs.Reducing.{IsCommon, greatest-IsCommon, greatest-largest}

euclid : (n a b : ℕ) → b ≤ n → (g : ℕ) × IsGcd a b g
euclid zero a b le = (a, IsGcd-from_zero a b (omega arith))
euclid (suc n) a zero le = (a, IsGcd-from_zero a zero refl)
euclid (suc n) a (suc b) le =
    let below : a % suc b < suc b = mod_below a (suc b) (omega arith) in
    let r : (g : ℕ) × IsGcd (suc b) (a % suc b) g = euclid n (suc b) (a % suc b) (omega arith) in
    (r.0, IsGcd-from_mod a (suc b) r.0 r.1)

divisor_some : (g b : ℕ) → 0 < b → g ∣ b → 0 < g
divisor_some zero b some d = let none : b ≡ 0 = eq-zero_of_zero-dvd d in omega arith
divisor_some (suc g) b some d = omega arith

common_is_greatest : (a b : ℕ) → IsCommon a b (common a b)
unfolding common
common_is_greatest a b = greatest-IsCommon a b b

common_largest : (a b h : ℕ) → h ≤ b → IsCommon a b h → h ≤ common a b
unfolding common
common_largest a b h le c = greatest-largest a b b h le c

pub common-IsGcd : (a b : ℕ) → 0 < b → IsGcd a b (common a b)
common-IsGcd a b some =
    let r : (g : ℕ) × IsGcd a b g = euclid b a b (le_refl b) in
    let some_r : 0 < r.0 = divisor_some r.0 b some r.1.1 in
    let c : IsCommon a b (common a b) = common_is_greatest a b in
    let up : common a b ≤ r.0 = le_of_dvd some_r (r.1.2 (common a b) (dvd_of_mod-eq-zero (common a b) c.first) (dvd_of_mod-eq-zero (common a b) c.second)) in
    let down : r.0 ≤ common a b = common_largest a b r.0 (le_of_dvd some r.1.1) (record { first = mod-eq-zero_of_dvd r.0 r.1.0; second = mod-eq-zero_of_dvd r.0 r.1.1; some = some_r }) in
    let same : r.0 ≡ common a b = omega arith in
    subst (λ g. IsGcd a b g) same r.1

-- what Euclid's steps end with is the greatest common divisor
pub common_is : (a b g : ℕ) → 0 < b → IsGcd a b g → g ≡ common a b
common_is a b g some is = same_from_IsGcd a b g (common a b) is (common-IsGcd a b some)

pub common_some : (a b : ℕ) → 0 < b → 0 < common a b
common_some a b some = divisor_some (common a b) b some ((common-IsGcd a b some).1)

pub common-scale : (a b k : ℕ) → 0 < b → 0 < k → common (a * k) (b * k) ≡ common a b * k
common-scale a b k some some_k =
    let c = common a b in
    let big = common (a * k) (b * k) in
    let is : IsGcd a b c = common-IsGcd a b some in
    let is_big : IsGcd (a * k) (b * k) big = common-IsGcd (a * k) (b * k) (mul-pos some some_k) in
    let up : c * k ∣ big = is_big.2 (c * k) (mul-dvd-mul_right c is.0 k) (mul-dvd-mul_right c is.1 k) in
    let k_in : k ∣ big = is_big.2 k (dvd-mul_left k a) (dvd-mul_left k b) in
    let whole : big / k * k ≡ big = div-mul_cancel k k_in in
    let h = big / k in
    let in_a : h ∣ a = dvd_of_mul-dvd-mul_right h some_k (subst (λ n. n ∣ a * k) (sym whole) is_big.0) in
    let in_b : h ∣ b = dvd_of_mul-dvd-mul_right h some_k (subst (λ n. n ∣ b * k) (sym whole) is_big.1) in
    let down : h * k ∣ c * k = mul-dvd-mul_right h (is.2 h in_a in_b) k in
    dvd_antisymm (subst (λ n. n ∣ c * k) whole down) up

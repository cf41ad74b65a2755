-- The digits of long division, and those of whole numbers.
use Rattle.std.proofs.Common.{◌≡◌, ℕ, zero, suc, ◌+◌, ◌-◌, ◌*◌, ◌/◌, ◌%◌, ◌<◌, ◌≤◌, Bool, true, false, ◌&&◌, List, [], ◌∷◌, ◌++◌, length, refl, ap, sym, ◌∙◌, decimal, arith, length-append}
use Rattle.std.specs.Prelude.{◌^◌, ◌==◌}
use Rattle.std.specs.List.{list_all}
use Rattle.std.proofs.lemmas.Bool.Decides.{nat_tests}
use Rattle.std.proofs.lemmas.Fmt.{decimal_digit, decimal_by_steps}
use Rattle.std.proofs.lemmas.List.Sums.{fold-append}
use Rattle.std.proofs.lemmas.List.Folds.{list_all-append}
use Rattle.std.proofs.lemmas.Nat.{div-add-mod', mul-mod_first, mod_below, div_below}
use Rattle.std.proofs.Math.Nat.{pow-succ', mul_assoc, mul_comm, add-mul, mod-eq_of_lt}
use Rattle.pddl_lex.specs.Bytes.{is_digit}
use Rattle.pddl_lex.specs.Decimals.{with_digit, with_digits}
use Rattle.pddl_write.specs.Numbers.{decimals}

pub digit_is : (q : ℕ) → q < 10 → is_digit (48 + q) ≡ true
digit_is q small = grind (arith, nat_tests)

both_true : {a b : Bool} → a ≡ true → b ≡ true → (a && b) ≡ true
both_true p q = rw (p, q) refl

-- ---- long division

-- the digits, at most so many, of r over d after those of m
pub record IsLong (m d r most : ℕ) (ds : List ℕ) : Type 0 where
  pub all : list_all is_digit ds ≡ true
  pub few : length ds ≤ most
  pub value : with_digits m ds * d ≡ (m * d + r) * 10 ^ length ds

nothing_more : (x : ℕ) → x ≡ (x + 0) * 10 ^ 0
nothing_more x = omega arith

ended : (m d most : ℕ) → IsLong m d 0 most []
ended m d most = record { all = refl; few = omega arith; value = nothing_more (m * d) }

-- one digit of the quotient
one_digit : (m d r : ℕ) → (10 * m + 10 * r / d) * d + 10 * r % d ≡ (m * d + r) * 10
one_digit m d r =
    let split : (10 * m + 10 * r / d) * d ≡ 10 * m * d + 10 * r / d * d = add-mul (10 * m) (10 * r / d) d in
    let tens : 10 * m * d ≡ 10 * (m * d) = mul_assoc 10 m d in
    let whole : 10 * r / d * d + 10 * r % d ≡ 10 * r = div-add-mod' (10 * r) d in
    omega (arith, split, tens, whole)

shifted : (q : ℕ) → 48 + q - 48 ≡ q
shifted q = omega arith

step : (m d r most : ℕ) (rest : List ℕ) → 10 * r / d < 10 → IsLong (10 * m + 10 * r / d) d (10 * r % d) most rest
    → IsLong m d r (suc most) ((48 + 10 * r / d) ∷ rest)
step m d r most rest small long = record {
  all = both_true (digit_is (10 * r / d) small) long.all;
  few = let short = long.few in omega (arith, short);
  value =
      ap (λ (q : ℕ). with_digits (10 * m + q) rest * d) (shifted (10 * r / d))
      ∙ long.value
      ∙ ap (λ (x : ℕ). x * 10 ^ length rest) (one_digit m d r)
      ∙ mul_assoc (m * d + r) 10 (10 ^ length rest)
      ∙ ap (λ (x : ℕ). (m * d + r) * x) (sym (pow-succ' 10 (length rest)));
}

-- what is left over of tens
left_over : (r j d : ℕ) → (r * 10 ^ suc j) % d ≡ 0 → (10 * r % d * 10 ^ j) % d ≡ 0
left_over r j d none =
    mul-mod_first (10 * r) (10 ^ j) d
    ∙ ap (λ (x : ℕ). x % d) (ap (λ (x : ℕ). x * 10 ^ j) (mul_comm 10 r) ∙ mul_assoc r 10 (10 ^ j) ∙ ap (λ (x : ℕ). r * x) (sym (pow-succ' 10 j)))
    ∙ none

some_left : (r d : ℕ) → suc r < d → (suc r * 10 ^ 0) % d ≡ 0 → ⊥
some_left r d below none =
    let same : suc r * 10 ^ 0 ≡ suc r = omega arith in
    let is : suc r % d ≡ suc r = mod-eq_of_lt below in
    let zero_is : suc r ≡ 0 = sym is ∙ ap (λ (x : ℕ). x % d) (sym same) ∙ none in
    absurd (omega (arith, zero_is))

below_ten : (r d : ℕ) → r < d → 10 * r / d < 10
below_ten r d below = div_below (10 * r) d 10 (omega arith) (omega arith)

pub long : (k j m r d : ℕ) → j ≤ k → r < d → (r * 10 ^ j) % d ≡ 0 → IsLong m d r j (decimals k r d)
unfolding decimals
long zero zero m zero d within below none = ended m d 0
long zero zero m (suc r) d within below none = absurd (some_left r d below none)
long zero (suc j) m r d within below none = absurd (omega (arith, within))
long (suc k) j m zero d within below none = ended m d j
long (suc k) zero m (suc r) d within below none = absurd (some_left r d below none)
long (suc k) (suc j) m (suc r) d within below none =
    let more : (suc r == 0) ≡ false = grind (arith, nat_tests) in
    let small : 10 * suc r / d < 10 = below_ten (suc r) d below in
    let rest : ℕ = 10 * suc r % d in
    let lower : rest < d = mod_below (10 * suc r) d (omega (arith, below)) in
    let inner : IsLong (10 * m + 10 * suc r / d) d rest j (decimals k rest d) =
    long k j (10 * m + 10 * suc r / d) rest d (omega (arith, within)) lower (left_over (suc r) j d none) in
    rw (more, decimal_digit (10 * suc r / d) small) (step m d (suc r) j (decimals k rest d) small inner)

pub no_digits : (k d : ℕ) → decimals k 0 d ≡ []
unfolding decimals
no_digits zero d = refl
no_digits (suc k) d = refl

pub some_digits : (k r d : ℕ) → 0 < r → r < d → 1 ≤ length (decimals (suc k) r d)
unfolding decimals
some_digits k zero d some below = absurd (omega (arith, some))
some_digits k (suc r) d some below =
    let more : (suc r == 0) ≡ false = grind (arith, nat_tests) in
    rw (more, decimal_digit (10 * suc r / d) (below_ten (suc r) d below)) (omega arith)

-- ---- whole numbers

pub record IsDecimal (n : ℕ) (ds : List ℕ) : Type 0 where
  pub all : list_all is_digit ds ≡ true
  pub value : with_digits 0 ds ≡ n
  pub some : 1 ≤ length ds

decimal_one : (n : ℕ) → n < 10 → IsDecimal n ((48 + n) ∷ [])
decimal_one n small = record { all = both_true (digit_is n small) refl; value = omega arith; some = omega arith }

decimal_more : (n : ℕ) (ds : List ℕ) → 10 ≤ n → IsDecimal (n / 10) ds → IsDecimal n (ds ++ ((48 + n % 10) ∷ []))
decimal_more n ds large is =
    let last : n % 10 < 10 = omega arith in
    let read : with_digits 0 (ds ++ ((48 + n % 10) ∷ [])) ≡ with_digits (with_digits 0 ds) ((48 + n % 10) ∷ []) = fold-append with_digit 0 ds ((48 + n % 10) ∷ []) in
    let front : with_digits 0 ds ≡ n / 10 = is.value in
    record {
      all = list_all-append is_digit ds ((48 + n % 10) ∷ []) ∙ both_true is.all (both_true (digit_is (n % 10) last) refl);
      value = read ∙ ap (λ (x : ℕ). 10 * x + (48 + n % 10 - 48)) front ∙ omega arith;
      some = let short = is.some in rw (length-append ds ((48 + n % 10) ∷ [])) (omega (arith, short));
    }

pub decimal_is : (n : ℕ) → n < 2 ^ 64 → IsDecimal n (decimal n)
decimal_is n small = decimal_by_steps IsDecimal decimal_one decimal_more n small

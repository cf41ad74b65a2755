-- The written numbers: long division gives back what is divided.
use Rattle.std.proofs.Common.{◌≡◌, ℕ, zero, suc, ◌+◌, ◌-◌, ◌*◌, ◌/◌, ◌%◌, ◌<◌, ◌≤◌, ℤ, pos, negsuc, ◌*ℤ◌, neg_ℤ, nat_abs, true, false, List, [], ◌∷◌, ◌++◌, length, drop, decimal, refl, ap, sym, ◌∙◌, subst, zero-mul, arith}
use Rattle.std.specs.Prelude.{◌^◌, ◌==◌, Some}
use Rattle.std.specs.List.{list_all}
use Rattle.std.proofs.lemmas.Bool.{and_parts}
use Rattle.std.proofs.lemmas.Bool.Decides.{nat_tests}
use Rattle.std.proofs.lemmas.Fmt.{length-decimal-le}
use Rattle.std.proofs.lemmas.List.Sums.{fold-append}
use Rattle.std.proofs.lemmas.Nat.{pow-add, div-add-mod', mul-mod_first, mod_below}
use Rattle.std.proofs.Math.Nat.{pow-le-pow_right, mul_right_comm, mul-le-mul, mul-mod_left, div-mul-le_self, mul-lt-mul_of_pos_right, lt_of_mul-lt-mul_right}
use Rattle.std.proofs.Math.Seq.{take-append_seam}
use Rattle.up_frac.specs.Fraction.{Fraction}
use Rattle.up_frac.proofs.FractionLaws.{reduce_self, reduce_unique, denominator_some}
use Rattle.up_tree.specs.WellFormed.{IsLiteral}
use Rattle.pddl_lex.specs.declared.shape.Shape.TheVariants as shape
use Rattle.pddl_lex.specs.declared.tree.TokenKind.TheVariants.{Number}
use Rattle.pddl_lex.specs.Bytes.{is_digit}
use Rattle.pddl_lex.specs.Decimals.{with_digit, with_digits, whole_digits, decimals as behind_point, first_digit, signed, over_tens, literal}
use Rattle.pddl_lex.specs.Spells.{stops, IsFraction, none, digits, IsUnsigned, IsNumber, plain, negative}
use Rattle.pddl_lex.proofs.Spelling.{front_stops, drop_front}
use Rattle.pddl_write.specs.Numbers.{decimals, point_text, sign_text, number_text}
use Rattle.roundtrip_tokens.proofs.Placeless.{kinds, token_first}
use Rattle.roundtrip_tokens.proofs.Lexes.{Lexes}
use Rattle.roundtrip_tokens.proofs.Division.{IsLong, long, no_digits, some_digits, IsDecimal, decimal_is}

-- ---- what stands after the whole number

-- nothing, or a point and these digits
record IsPoint (point ds : List ℕ) : Type 0 where
  fraction : IsFraction point
  behind : drop 1 point ≡ ds
  count : length point - 1 ≡ length ds

point_is : (r d : ℕ) → r < d → list_all is_digit (decimals 9 r d) ≡ true → length (decimals 9 r d) ≤ 9 → IsPoint (point_text r d) (decimals 9 r d)
point_is zero d below all few = rw (no_digits 9 d) (record { fraction = none refl; behind = refl; count = refl })
point_is (suc r) d below all few =
    let more : (suc r == 0) ≡ false = grind (arith, nat_tests) in
    rw more (record {
      fraction = digits (decimals 9 (suc r) d) refl all (some_digits 8 (suc r) d (omega arith) below) few;
      behind = refl;
      count = omega arith;
    })

fraction_stops : (point : List ℕ) → IsFraction point → stops is_digit point ≡ true
fraction_stops point (none is) = rw is refl
fraction_stops point (digits behind is all some few) = rw is refl

-- the number of digits and a point
literal_is : (byte : ℕ) (whole point ds : List ℕ) → list_all is_digit whole ≡ true → IsPoint point ds
    → literal byte (whole ++ point) ≡ over_tens (signed byte (with_digits (first_digit byte) (whole ++ ds))) (length ds)
unfolding literal
literal_is byte whole point ds all is =
    let count = front_stops is_digit whole point all (fraction_stops point is.fraction) in
    let front : whole_digits (whole ++ point) ≡ whole = rw count (take-append_seam whole point) in
    let back : behind_point (whole ++ point) ≡ ds = rw (count, drop_front whole point) is.behind in
    rw (front, back) refl

module _ (w : ℕ) (point ds : List ℕ) (is : IsPoint point ds) where
  unsigned : (before : ℕ) (whole : List ℕ) → list_all is_digit whole ≡ true → before + length whole + length ds ≤ 18 → IsUnsigned before (whole ++ point)
  unsigned before whole all few = record {
    whole = whole;
    fraction = point;
    parts = refl;
    whole_digits = all;
    is_fraction = is.fraction;
    few = let same = is.count in omega (arith, few, same);
  }

  plain_lexes : (whole : List ℕ) → IsDecimal w whole → length whole + length ds ≤ 18
      → Lexes (whole ++ point) (Number (over_tens (pos (with_digits w ds)) (length ds)) ∷ [])
  plain_lexes [] dec few = let some = dec.some in absurd (omega (arith, some))
  plain_lexes (byte ∷ tail) dec few =
      let (here, others) = and_parts (is_digit byte) (list_all is_digit tail) dec.all in
      let not_minus : (byte == 45) ≡ false = grind (arith, nat_tests) in
      let first : 10 * 0 + (byte - 48) ≡ byte - 48 = omega arith in
      let front : with_digits (byte - 48) tail ≡ w = ap (λ (x : ℕ). with_digits x tail) (sym first) ∙ dec.value in
      let read : with_digits (byte - 48) (tail ++ ds) ≡ with_digits w ds =
      fold-append with_digit (byte - 48) tail ds ∙ ap (λ (x : ℕ). with_digits x ds) front in
      let value : literal byte (tail ++ point) ≡ over_tens (pos (with_digits w ds)) (length ds) =
      literal_is byte tail point ds others is ∙ rw (not_minus, read) refl in
      record {
        before = λ rest apart.
            token_first shape.Number byte (tail ++ point) rest (plain here (unsigned 1 tail others (omega (arith, few)))) apart
            ∙ ap (λ (n : Fraction). Some (Number n) ∷ kinds rest) value;
      }

  negative_has : (whole : List ℕ) → IsDecimal w whole → length whole + length ds ≤ 18 → IsNumber 45 (whole ++ point)
  negative_has [] dec few = let some = dec.some in absurd (omega (arith, some))
  negative_has (byte ∷ tail) dec few =
      negative refl byte (tail ++ point) refl (and_parts (is_digit byte) (list_all is_digit tail) dec.all).0 (unsigned 0 (byte ∷ tail) dec.all (omega (arith, few)))

  negative_lexes : (whole : List ℕ) → IsDecimal w whole → length whole + length ds ≤ 18
      → Lexes (45 ∷ (whole ++ point)) (Number (over_tens (neg_ℤ (pos (with_digits w ds))) (length ds)) ∷ [])
  negative_lexes whole dec few =
      let read : with_digits 0 (whole ++ ds) ≡ with_digits w ds =
      fold-append with_digit 0 whole ds ∙ ap (λ (x : ℕ). with_digits x ds) dec.value in
      let value : literal 45 (whole ++ point) ≡ over_tens (neg_ℤ (pos (with_digits w ds))) (length ds) =
      literal_is 45 whole point ds dec.all is ∙ ap (λ (x : ℕ). over_tens (neg_ℤ (pos x)) (length ds)) read in
      record {
        before = λ rest apart.
            token_first shape.Number 45 (whole ++ point) rest (negative_has whole dec few) apart
            ∙ ap (λ (n : Fraction). Some (Number n) ∷ kinds rest) value;
      }

-- ---- a over d, whose shortest spelling is short

module _ (a d places digits : ℕ) (some : 0 < d) (few_places : places ≤ 9) (exact : a * 10 ^ places ≡ digits * d) (few_digits : digits < 10 ^ 18) where
  long_is : (m : ℕ) → IsLong m d (a % d) places (decimals 9 (a % d) d)
  long_is m =
      long 9 places m (a % d) d few_places (mod_below a d some)
      (mul-mod_first a (10 ^ places) d ∙ ap (λ (x : ℕ). x % d) exact ∙ mul-mod_left digits d)

  value_is : with_digits (a / d) (decimals 9 (a % d) d) * d ≡ a * 10 ^ length (decimals 9 (a % d) d)
  value_is = (long_is (a / d)).value ∙ ap (λ (x : ℕ). x * 10 ^ length (decimals 9 (a % d) d)) (div-add-mod' a d)

  few_behind : length (decimals 9 (a % d) d) ≤ places
  few_behind = (long_is 0).few

  shorter : (x y z : ℕ) → x ≤ y → y < z → x < z
  shorter x y z h k = omega (arith, h, k)

  whole_below : a / d * 10 ^ length (decimals 9 (a % d) d) < 10 ^ 18
  whole_below =
      let count : ℕ = length (decimals 9 (a % d) d) in
      let one : a / d * d * 10 ^ count ≤ a * 10 ^ places =
      mul-le-mul (div-mul-le_self a d) (pow-le-pow_right {n = 10} (omega arith) few_behind) in
      let two : digits * d < 10 ^ 18 * d = mul-lt-mul_of_pos_right few_digits some in
      let turned : a / d * 10 ^ count * d ≡ a / d * d * 10 ^ count = mul_right_comm (a / d) (10 ^ count) d in
      lt_of_mul-lt-mul_right d (subst (λ (x : ℕ). x < 10 ^ 18 * d) (sym turned) (shorter _ _ _ (subst (λ (x : ℕ). a / d * d * 10 ^ count ≤ x) exact one) two))

  whole_short : a / d < 10 ^ (18 - length (decimals 9 (a % d) d))
  whole_short =
      let count : ℕ = length (decimals 9 (a % d) d) in
      let within : count ≤ places = few_behind in
      let all : 18 - count + count ≡ 18 = omega (arith, within, few_places) in
      let split : 10 ^ 18 ≡ 10 ^ (18 - count) * 10 ^ count = ap (λ (k : ℕ). 10 ^ k) (sym all) ∙ pow-add 10 (18 - count) count in
      lt_of_mul-lt-mul_right (10 ^ count) (subst (λ (x : ℕ). a / d * 10 ^ count < x) split whole_below)

  whole_small : a / d < 2 ^ 64
  whole_small =
      let below : 18 - length (decimals 9 (a % d) d) ≤ 18 = omega arith in
      let most : 10 ^ (18 - length (decimals 9 (a % d) d)) ≤ 10 ^ 18 = pow-le-pow_right {n = 10} (omega arith) below in
      let less = whole_short in
      omega (arith, most, less)

  few_in_all : length (decimal (a / d)) + length (decimals 9 (a % d) d) ≤ 18
  few_in_all =
      let within : length (decimals 9 (a % d) d) ≤ places = few_behind in
      let short : length (decimal (a / d)) ≤ 18 - length (decimals 9 (a % d) d) =
      length-decimal-le (18 - length (decimals 9 (a % d) d)) (a / d) (omega (arith, within, few_places)) whole_short whole_small in
      omega (arith, short, within, few_places)

  point : IsPoint (point_text (a % d) d) (decimals 9 (a % d) d)
  point =
      let within : length (decimals 9 (a % d) d) ≤ places = few_behind in
      point_is (a % d) d (mod_below a d some) (long_is 0).all (omega (arith, within, few_places))

  ten_some : 0 < 10 ^ length (decimals 9 (a % d) d)
  ten_some =
      let above : 0 ≤ length (decimals 9 (a % d) d) = omega arith in
      let least : 10 ^ 0 ≤ 10 ^ length (decimals 9 (a % d) d) = pow-le-pow_right {n = 10} (omega arith) above in
      omega (arith, least)

negative_product : (x k : ℕ) → neg_ℤ (pos x) *ℤ pos k ≡ neg_ℤ (pos (x * k))
negative_product zero k = rw (zero-mul k) refl
negative_product (suc x) k = refl

-- ---- numbers

module _ (n : Fraction) (is : IsLiteral n) where
  by_sign : (z : ℤ) → n.numerator ≡ z
      → Lexes (sign_text z ++ decimal (nat_abs z / n.denominator) ++ point_text (nat_abs z % n.denominator) n.denominator) (Number n ∷ [])
  by_sign (pos a) e =
      let d : ℕ = n.denominator in
      let some : 0 < n.denominator = denominator_some n in
      let exact : a * 10 ^ is.places ≡ is.digits * n.denominator = subst (λ (z : ℤ). nat_abs z * 10 ^ is.places ≡ is.digits * n.denominator) e is.exact in
      let ds : List ℕ = decimals 9 (a % n.denominator) n.denominator in
      let product : pos (with_digits (a / n.denominator) ds) *ℤ pos n.denominator ≡ n.numerator *ℤ pos (10 ^ length ds) =
      ap pos (value_is a n.denominator is.places is.digits some is.few_places exact is.few_digits) ∙ ap (λ (z : ℤ). z *ℤ pos (10 ^ length ds)) (sym e) in
      let same : over_tens (pos (with_digits (a / n.denominator) ds)) (length ds) ≡ n =
      reduce_unique (pos (with_digits (a / n.denominator) ds)) n.numerator (10 ^ length ds) n.denominator
      (ten_some a n.denominator is.places is.digits some is.few_places exact is.few_digits) some product ∙ sym (reduce_self n) in
      subst (λ (m : Fraction). Lexes (decimal (a / n.denominator) ++ point_text (a % n.denominator) n.denominator) (Number m ∷ [])) same
      (plain_lexes (a / n.denominator) (point_text (a % n.denominator) n.denominator) ds
      (point a n.denominator is.places is.digits some is.few_places exact is.few_digits) (decimal (a / n.denominator))
      (decimal_is (a / n.denominator) (whole_small a n.denominator is.places is.digits some is.few_places exact is.few_digits))
      (few_in_all a n.denominator is.places is.digits some is.few_places exact is.few_digits))
  by_sign (negsuc b) e =
      let some : 0 < n.denominator = denominator_some n in
      let exact : suc b * 10 ^ is.places ≡ is.digits * n.denominator = subst (λ (z : ℤ). nat_abs z * 10 ^ is.places ≡ is.digits * n.denominator) e is.exact in
      let ds : List ℕ = decimals 9 (suc b % n.denominator) n.denominator in
      let product : neg_ℤ (pos (with_digits (suc b / n.denominator) ds)) *ℤ pos n.denominator ≡ n.numerator *ℤ pos (10 ^ length ds) =
      negative_product (with_digits (suc b / n.denominator) ds) n.denominator
      ∙ ap (λ (x : ℕ). neg_ℤ (pos x)) (value_is (suc b) n.denominator is.places is.digits some is.few_places exact is.few_digits)
      ∙ sym (negative_product (suc b) (10 ^ length ds))
      ∙ ap (λ (z : ℤ). z *ℤ pos (10 ^ length ds)) (sym e) in
      let same : over_tens (neg_ℤ (pos (with_digits (suc b / n.denominator) ds))) (length ds) ≡ n =
      reduce_unique (neg_ℤ (pos (with_digits (suc b / n.denominator) ds))) n.numerator (10 ^ length ds) n.denominator
      (ten_some (suc b) n.denominator is.places is.digits some is.few_places exact is.few_digits) some product ∙ sym (reduce_self n) in
      subst (λ (m : Fraction). Lexes (45 ∷ (decimal (suc b / n.denominator) ++ point_text (suc b % n.denominator) n.denominator)) (Number m ∷ [])) same
      (negative_lexes (suc b / n.denominator) (point_text (suc b % n.denominator) n.denominator) ds
      (point (suc b) n.denominator is.places is.digits some is.few_places exact is.few_digits) (decimal (suc b / n.denominator))
      (decimal_is (suc b / n.denominator) (whole_small (suc b) n.denominator is.places is.digits some is.few_places exact is.few_digits))
      (few_in_all (suc b) n.denominator is.places is.digits some is.few_places exact is.few_digits))

  pub number : Lexes (number_text n) (Number n ∷ [])
  unfolding number_text
  number = by_sign n.numerator refl

-- The laws of fractions.
use Rattle.std.proofs.Common.{◌≡◌, ℕ, zero, suc, ◌*◌, ◌/◌, ◌<◌, ℤ, pos, negsuc, ◌+ℤ◌, ◌-ℤ◌, ◌*ℤ◌, neg_ℤ, nat_abs, ◌&&◌, Bool, true, false, refl, sym, ap, ap₂, ◌∙◌, mul-pos, div-one, mul_comm, mul_assoc, zero-mul, eqb-true, ltb-true, true≢false, arith}
use Rattle.std.proofs.lemmas.Int.{ints, unsigned_abs-mul}
use Rattle.std.proofs.Math.IntN.{*ℤ_comm, +ℤ_comm}
use Rattle.std.proofs.Math.Nat.{mul-div-mul_right, mul-mul-mul_comm, div-mul_cancel}
use Rattle.up_frac.specs.Fraction.{Fraction, common}
use Rattle.up_frac.specs.Reducing.{signed}
use Rattle.up_frac.specs.Arithmetic.{reduce, sum, difference, product}
use Rattle.up_frac.proofs.CommonDivisors.{common-IsGcd, common_some, common-scale}
use Rattle.up_frac.proofs.Reduced.{numerator_is, denominator_is, is_reduce}
use Rattle.up_frac.proofs.Ring.{add-*ℤ, sub-*ℤ, *ℤ_assoc, twice, exchange}

signed_neg : (p x : ℕ) → 0 < p → signed (neg_ℤ (pos p)) x ≡ neg_ℤ (pos x)
signed_neg zero x some = absurd (omega arith)
signed_neg (suc p) x some = refl

signed-scale : (n : ℤ) (k x : ℕ) → 0 < k → signed (n *ℤ pos k) x ≡ signed n x
signed-scale (pos m) k x some = refl
signed-scale (negsuc m) k x some = signed_neg (suc m * k) x (mul-pos (omega arith) some)

-- a common factor doesn't change the fraction
pub reduce-scale : (n : ℤ) (d k : ℕ) → 0 < d → 0 < k → reduce (n *ℤ pos k) (d * k) ≡ reduce n d
reduce-scale n d k some some_k =
    let size : nat_abs (n *ℤ pos k) ≡ nat_abs n * k = unsigned_abs-mul n (pos k) in
    let divisor : common (nat_abs (n *ℤ pos k)) (d * k) ≡ common (nat_abs n) d * k = ap (λ m. common m (d * k)) size ∙ common-scale (nat_abs n) d k some some_k in
    let all : 0 < d * k = mul-pos some some_k in
    is_reduce (reduce (n *ℤ pos k) (d * k)) n d some
    (numerator_is (n *ℤ pos k) (d * k) all ∙ signed-scale n k _ some_k ∙ ap (signed n) ((λ i. (size i) / (divisor i)) ∙ mul-div-mul_right (nat_abs n) (common (nat_abs n) d) some_k))
    (denominator_is (n *ℤ pos k) (d * k) all ∙ ap (λ m. d * k / m) divisor ∙ mul-div-mul_right d (common (nat_abs n) d) some_k)

left_true : (a b : Bool) → (a && b) ≡ true → a ≡ true
left_true true b e = refl
left_true false b e = e

right_true : (a b : Bool) → (a && b) ≡ true → b ≡ true
right_true true b e = e
right_true false b e = absurd (true≢false (sym e))

pub denominator_some : (f : Fraction) → 0 < f.denominator
denominator_some f = ltb-true 0 f.denominator (left_true _ _ f.reduced)

one_common : (f : Fraction) → common (nat_abs f.numerator) f.denominator ≡ 1
one_common f = eqb-true _ 1 (right_true _ _ f.reduced)

signed_self : (n : ℤ) → n ≡ signed n (nat_abs n)
signed_self (pos n) = refl
signed_self (negsuc n) = refl

-- a fraction is the reduced quotient of its numbers
pub reduce_self : (f : Fraction) → f ≡ reduce f.numerator f.denominator
reduce_self f =
    is_reduce f f.numerator f.denominator (denominator_some f)
    (signed_self f.numerator ∙ ap (signed f.numerator) (sym (ap (λ m. nat_abs f.numerator / m) (one_common f) ∙ div-one (nat_abs f.numerator))))
    (sym (ap (λ m. f.denominator / m) (one_common f) ∙ div-one f.denominator))

-- equal quotients have one reduced fraction
pub reduce_unique : (n m : ℤ) (d e : ℕ) → 0 < d → 0 < e → n *ℤ pos e ≡ m *ℤ pos d → reduce n d ≡ reduce m e
reduce_unique n m d e some_d some_e same =
    sym (reduce-scale n d e some_d some_e) ∙ (λ i. reduce (same i) (mul_comm d e i)) ∙ reduce-scale m e d some_e some_d

-- a quotient is its reduced fraction, with a common factor
pub record IsMultiple (n : ℤ) (d : ℕ) (f : Fraction) : Type 0 where
  pub factor : ℕ
  pub some : 0 < factor
  pub above : n ≡ f.numerator *ℤ pos factor
  pub below : d ≡ f.denominator * factor

signed-*ℤ : (n : ℤ) (x k : ℕ) → signed n x *ℤ pos k ≡ signed n (x * k)
signed-*ℤ (pos n) x k = refl
signed-*ℤ (negsuc n) zero k = zero_case k
  where
    zero_case : (k : ℕ) → pos 0 *ℤ pos k ≡ neg_ℤ (pos (0 * k))
    zero_case k = rw (zero-mul k) refl
signed-*ℤ (negsuc n) (suc x) k = refl

pub multiple : (n : ℤ) (d : ℕ) → 0 < d → IsMultiple n d (reduce n d)
multiple n d some =
    let g = common (nat_abs n) d in
    let is = common-IsGcd (nat_abs n) d some in
    record {
      factor = g;
      some = common_some (nat_abs n) d some;
      above = sym (ap (λ m. m *ℤ pos g) (numerator_is n d some) ∙ signed-*ℤ n (nat_abs n / g) g ∙ ap (signed n) (div-mul_cancel g is.0) ∙ sym (signed_self n));
      below = sym (ap (λ m. m * g) (denominator_is n d some) ∙ div-mul_cancel g is.1);
    }

-- the sum of two reduced quotients is the reduced sum
pub sum-reduce : (n m : ℤ) (d e : ℕ) → 0 < d → 0 < e → sum (reduce n d) (reduce m e) ≡ reduce (n *ℤ pos e +ℤ m *ℤ pos d) (d * e)
unfolding sum
sum-reduce n m d e some_d some_e =
    let f = reduce n d in
    let g = reduce m e in
    let p : IsMultiple n d f = multiple n d some_d in
    let q : IsMultiple m e g = multiple m e some_e in
    let k = p.factor * q.factor in
    let left : n *ℤ pos e ≡ f.numerator *ℤ pos g.denominator *ℤ pos k =
    ap₂ (λ x y. x *ℤ pos y) p.above q.below ∙ exchange f.numerator (pos p.factor) (pos g.denominator) (pos q.factor) in
    let right : m *ℤ pos d ≡ g.numerator *ℤ pos f.denominator *ℤ pos k =
    ap₂ (λ x y. x *ℤ pos y) q.above p.below ∙ exchange g.numerator (pos q.factor) (pos f.denominator) (pos p.factor) ∙ ap (λ x. g.numerator *ℤ pos f.denominator *ℤ pos x) (mul_comm q.factor p.factor) in
    let above : n *ℤ pos e +ℤ m *ℤ pos d ≡ (f.numerator *ℤ pos g.denominator +ℤ g.numerator *ℤ pos f.denominator) *ℤ pos k =
    ap₂ (λ x y. x +ℤ y) left right ∙ sym (add-*ℤ (f.numerator *ℤ pos g.denominator) (g.numerator *ℤ pos f.denominator) (pos k)) in
    let below : d * e ≡ f.denominator * g.denominator * k = ap₂ (λ x y. x * y) p.below q.below ∙ mul-mul-mul_comm f.denominator p.factor g.denominator q.factor in
    sym ((λ i. reduce (above i) (below i)) ∙ reduce-scale _ (f.denominator * g.denominator) k (mul-pos (denominator_some f) (denominator_some g)) (mul-pos p.some q.some))

-- the product of two reduced quotients is the reduced product
pub product-reduce : (n m : ℤ) (d e : ℕ) → 0 < d → 0 < e → product (reduce n d) (reduce m e) ≡ reduce (n *ℤ m) (d * e)
unfolding product
product-reduce n m d e some_d some_e =
    let f = reduce n d in
    let g = reduce m e in
    let p : IsMultiple n d f = multiple n d some_d in
    let q : IsMultiple m e g = multiple m e some_e in
    let k = p.factor * q.factor in
    let above : n *ℤ m ≡ f.numerator *ℤ g.numerator *ℤ pos k = ap₂ (λ x y. x *ℤ y) p.above q.above ∙ exchange f.numerator (pos p.factor) g.numerator (pos q.factor) in
    let below : d * e ≡ f.denominator * g.denominator * k = ap₂ (λ x y. x * y) p.below q.below ∙ mul-mul-mul_comm f.denominator p.factor g.denominator q.factor in
    sym ((λ i. reduce (above i) (below i)) ∙ reduce-scale _ (f.denominator * g.denominator) k (mul-pos (denominator_some f) (denominator_some g)) (mul-pos p.some q.some))

pub sum_comm : (a b : Fraction) → sum a b ≡ sum b a
unfolding sum
sum_comm a b = λ i. reduce (+ℤ_comm (a.numerator *ℤ pos b.denominator) (b.numerator *ℤ pos a.denominator) i) (mul_comm a.denominator b.denominator i)

pub product_comm : (a b : Fraction) → product a b ≡ product b a
unfolding product
product_comm a b = λ i. reduce (*ℤ_comm a.numerator b.numerator i) (mul_comm a.denominator b.denominator i)

above_sum : Fraction → Fraction → ℤ
above_sum a b = a.numerator *ℤ pos b.denominator +ℤ b.numerator *ℤ pos a.denominator

sum_unfolds : (a b : Fraction) → sum a b ≡ reduce (above_sum a b) (a.denominator * b.denominator)
unfolding sum above_sum
sum_unfolds a b = refl

three : (a b c : Fraction) → ℤ
three a b c =
    a.numerator *ℤ pos (b.denominator * c.denominator) +ℤ b.numerator *ℤ pos (a.denominator * c.denominator) +ℤ c.numerator *ℤ pos (a.denominator * b.denominator)

left_three : (a b c : Fraction) → above_sum a b *ℤ pos c.denominator +ℤ c.numerator *ℤ pos (a.denominator * b.denominator) ≡ three a b c
unfolding above_sum three
left_three a b c =
    ap (λ x. x +ℤ c.numerator *ℤ pos (a.denominator * b.denominator))
    (add-*ℤ (a.numerator *ℤ pos b.denominator) (b.numerator *ℤ pos a.denominator) (pos c.denominator) ∙
    ap₂ (λ x y. x +ℤ y) (twice a.numerator b.denominator c.denominator) (twice b.numerator a.denominator c.denominator))

right_three : (a b c : Fraction) → a.numerator *ℤ pos (b.denominator * c.denominator) +ℤ above_sum b c *ℤ pos a.denominator ≡ three a b c
unfolding above_sum three
right_three a b c =
    ap (λ x. a.numerator *ℤ pos (b.denominator * c.denominator) +ℤ x)
    (add-*ℤ (b.numerator *ℤ pos c.denominator) (c.numerator *ℤ pos b.denominator) (pos a.denominator) ∙
    ap₂ (λ x y. x +ℤ y) (twice b.numerator c.denominator a.denominator ∙ ap (λ x. b.numerator *ℤ pos x) (mul_comm c.denominator a.denominator))
    (twice c.numerator b.denominator a.denominator ∙ ap (λ x. c.numerator *ℤ pos x) (mul_comm b.denominator a.denominator))) ∙
    grouped (a.numerator *ℤ pos (b.denominator * c.denominator)) (b.numerator *ℤ pos (a.denominator * c.denominator)) (c.numerator *ℤ pos (a.denominator * b.denominator))
  where
    grouped : (x y z : ℤ) → x +ℤ (y +ℤ z) ≡ x +ℤ y +ℤ z
    grouped x y z = omega (arith, ints)

pub sum_assoc : (a b c : Fraction) → sum (sum a b) c ≡ sum a (sum b c)
sum_assoc a b c =
    let ab : 0 < a.denominator * b.denominator = mul-pos (denominator_some a) (denominator_some b) in
    let bc : 0 < b.denominator * c.denominator = mul-pos (denominator_some b) (denominator_some c) in
    ap₂ sum (sum_unfolds a b) (reduce_self c) ∙
    sum-reduce (above_sum a b) c.numerator (a.denominator * b.denominator) c.denominator ab (denominator_some c) ∙
    (λ i. reduce ((left_three a b c ∙ sym (right_three a b c)) i) (mul_assoc a.denominator b.denominator c.denominator i)) ∙
    sym (sum-reduce a.numerator (above_sum b c) a.denominator (b.denominator * c.denominator) (denominator_some a) bc) ∙
    ap₂ sum (sym (reduce_self a)) (sym (sum_unfolds b c))

product_unfolds : (a b : Fraction) → product a b ≡ reduce (a.numerator *ℤ b.numerator) (a.denominator * b.denominator)
unfolding product
product_unfolds a b = refl

pub product_assoc : (a b c : Fraction) → product (product a b) c ≡ product a (product b c)
product_assoc a b c =
    let ab : 0 < a.denominator * b.denominator = mul-pos (denominator_some a) (denominator_some b) in
    let bc : 0 < b.denominator * c.denominator = mul-pos (denominator_some b) (denominator_some c) in
    ap₂ product (product_unfolds a b) (reduce_self c) ∙
    product-reduce (a.numerator *ℤ b.numerator) c.numerator (a.denominator * b.denominator) c.denominator ab (denominator_some c) ∙
    (λ i. reduce (*ℤ_assoc a.numerator b.numerator c.numerator i) (mul_assoc a.denominator b.denominator c.denominator i)) ∙
    sym (product-reduce a.numerator (b.numerator *ℤ c.numerator) a.denominator (b.denominator * c.denominator) (denominator_some a) bc) ∙
    ap₂ product (sym (reduce_self a)) (sym (product_unfolds b c))

difference_unfolds : (a b : Fraction) → difference a b ≡ reduce (a.numerator *ℤ pos b.denominator -ℤ b.numerator *ℤ pos a.denominator) (a.denominator * b.denominator)
unfolding difference
difference_unfolds a b = refl

-- what is taken away and added again
pub difference_fills : (a b : Fraction) → sum (difference a b) b ≡ a
difference_fills a b =
    let ab : 0 < a.denominator * b.denominator = mul-pos (denominator_some a) (denominator_some b) in
    let bb : 0 < b.denominator * b.denominator = mul-pos (denominator_some b) (denominator_some b) in
    ap₂ sum (difference_unfolds a b) (reduce_self b) ∙
    sum-reduce _ b.numerator (a.denominator * b.denominator) b.denominator ab (denominator_some b) ∙
    (λ i. reduce (whole i) (mul_assoc a.denominator b.denominator b.denominator i)) ∙
    reduce-scale a.numerator a.denominator (b.denominator * b.denominator) (denominator_some a) bb ∙
    sym (reduce_self a)
  where
    cancels : (x y z : ℤ) → y ≡ z → x -ℤ y +ℤ z ≡ x
    cancels x y z e = omega (arith, ints)

    whole : (a.numerator *ℤ pos b.denominator -ℤ b.numerator *ℤ pos a.denominator) *ℤ pos b.denominator +ℤ b.numerator *ℤ pos (a.denominator * b.denominator) ≡ a.numerator *ℤ pos (b.denominator * b.denominator)
    whole =
        ap (λ x. x +ℤ b.numerator *ℤ pos (a.denominator * b.denominator)) (sub-*ℤ (a.numerator *ℤ pos b.denominator) (b.numerator *ℤ pos a.denominator) (pos b.denominator)) ∙
        cancels (a.numerator *ℤ pos b.denominator *ℤ pos b.denominator) (b.numerator *ℤ pos a.denominator *ℤ pos b.denominator) (b.numerator *ℤ pos (a.denominator * b.denominator)) (twice b.numerator a.denominator b.denominator) ∙
        twice a.numerator b.denominator b.denominator

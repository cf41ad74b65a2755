-- The order of fractions.
use Rattle.std.proofs.Common.{◌≡◌, ℕ, ◌*◌, ◌<◌, ℤ, pos, negsuc, ◌+ℤ◌, ◌-ℤ◌, ◌*ℤ◌, ◌<ℤ◌, nat_abs, Ordering, Less, Equal, Greater, refl, sym, subst, ap, ap₂, ◌∙◌, mul-pos, mul_comm, arith}
use Rattle.std.specs.Ordering.{int_cmp, MatchOrdering, ordering_reverse}
use Rattle.std.specs.Cmp.{IsTotalOrder, int_cmp_is, int_ranks}
use Rattle.std.proofs.lemmas.Cmp.{int_cmp_total}
use Rattle.std.proofs.lemmas.Int.{ints}
use Rattle.std.proofs.Math.IntN.{zero-*ℤ}
use Rattle.up_frac.specs.Fraction.{Fraction}
use Rattle.up_frac.specs.Arithmetic.{reduce, difference, compare}
use Rattle.up_frac.proofs.Ring.{add-*ℤ, twice}
use Rattle.up_frac.proofs.FractionLaws.{denominator_some, reduce_self, reduce_unique, IsMultiple, multiple}

positive : (z : ℤ) → pos 0 <ℤ z → z ≡ pos (nat_abs z)
positive (pos n) lt = refl
positive (negsuc n) lt = absurd (omega (arith, ints))

mul-lt : (x y : ℤ) (k : ℕ) → 0 < k → x <ℤ y → (x *ℤ pos k) <ℤ (y *ℤ pos k)
mul-lt x y k some lt =
    let m = nat_abs (y -ℤ x) in
    let e : y -ℤ x ≡ pos m = positive (y -ℤ x) (omega (arith, ints)) in
    let some_m : 0 < m = omega (arith, ints) in
    let whole : y ≡ x +ℤ pos m = omega (arith, ints) in
    let times : y *ℤ pos k ≡ x *ℤ pos k +ℤ pos (m * k) = ap (λ n. n *ℤ pos k) whole ∙ add-*ℤ x (pos m) (pos k) in
    let more : 0 < m * k = mul-pos some_m some in
    omega (arith, ints)

ranked : {A B C D E F : Type 0} (r : Ordering) → (A → D) → (B → E) → (C → F) → MatchOrdering r A B C → MatchOrdering r D E F
ranked Less f g h m = f m
ranked Equal f g h m = g m
ranked Greater f g h m = h m

int_cmp-scale : (x y : ℤ) (k : ℕ) → 0 < k → int_cmp x y ≡ int_cmp (x *ℤ pos k) (y *ℤ pos k)
int_cmp-scale x y k some =
    int_cmp_is (x *ℤ pos k) (y *ℤ pos k) (int_cmp x y) (ranked (int_cmp x y) (mul-lt x y k some) (ap (λ n. n *ℤ pos k)) (mul-lt y x k some) (int_ranks x y))

int_cmp-difference : (x y : ℤ) → int_cmp x y ≡ int_cmp (x -ℤ y) (pos 0)
int_cmp-difference x y =
    int_cmp_is (x -ℤ y) (pos 0) (int_cmp x y) (ranked (int_cmp x y) (λ h. less h) (λ h. same h) (λ h. more h) (int_ranks x y))
  where
    less : x <ℤ y → (x -ℤ y) <ℤ pos 0
    less h = omega (arith, ints)

    same : x ≡ y → x -ℤ y ≡ pos 0
    same h = omega (arith, ints)

    more : y <ℤ x → pos 0 <ℤ (x -ℤ y)
    more h = omega (arith, ints)

int_cmp-equal : (x y : ℤ) → int_cmp x y ≡ Equal → x ≡ y
int_cmp-equal x y e = subst (λ r. MatchOrdering r (x <ℤ y) (x ≡ y) (y <ℤ x)) e (int_ranks x y)

pub compare_equal : (a b : Fraction) → compare a b ≡ Equal → a ≡ b
unfolding compare
compare_equal a b e =
    reduce_self a ∙
    reduce_unique a.numerator b.numerator a.denominator b.denominator (denominator_some a) (denominator_some b) (int_cmp-equal (a.numerator *ℤ pos b.denominator) (b.numerator *ℤ pos a.denominator) e) ∙
    sym (reduce_self b)

pub compare_difference : (a b : Fraction) → compare a b ≡ int_cmp (difference a b).numerator (pos 0)
unfolding compare difference
compare_difference a b =
    let n = a.numerator *ℤ pos b.denominator -ℤ b.numerator *ℤ pos a.denominator in
    let d = a.denominator * b.denominator in
    let m : IsMultiple n d (reduce n d) = multiple n d (mul-pos (denominator_some a) (denominator_some b)) in
    int_cmp-difference (a.numerator *ℤ pos b.denominator) (b.numerator *ℤ pos a.denominator) ∙ ap₂ int_cmp m.above (sym (zero-*ℤ (pos m.factor))) ∙ sym (int_cmp-scale (reduce n d).numerator (pos 0) m.factor m.some)

-- a fraction over the denominators of three
over : Fraction → ℕ → ℕ → ℤ
over a m n = a.numerator *ℤ pos (m * n)

compare_over : (a b : Fraction) (k : ℕ) → 0 < k → compare a b ≡ int_cmp (over a b.denominator k) (over b a.denominator k)
unfolding compare over
compare_over a b k some =
    int_cmp-scale (a.numerator *ℤ pos b.denominator) (b.numerator *ℤ pos a.denominator) k some ∙ ap₂ int_cmp (twice a.numerator b.denominator k) (twice b.numerator a.denominator k)

over_comm : (a : Fraction) (m n : ℕ) → over a m n ≡ over a n m
unfolding over
over_comm a m n = ap (λ k. a.numerator *ℤ pos k) (mul_comm m n)

pub compare_trans : (a b c : Fraction) → compare a b ≡ Less → compare b c ≡ Less → compare a c ≡ Less
compare_trans a b c p q =
    let x = over a b.denominator c.denominator in
    let y = over b a.denominator c.denominator in
    let z = over c a.denominator b.denominator in
    let ab : int_cmp x y ≡ Less = sym (compare_over a b c.denominator (denominator_some c)) ∙ p in
    let bc : int_cmp y z ≡ Less =
    ap₂ int_cmp (over_comm b a.denominator c.denominator) (over_comm c a.denominator b.denominator) ∙ sym (compare_over b c a.denominator (denominator_some a)) ∙ q in
    compare_over a c b.denominator (denominator_some b) ∙ ap (λ w. int_cmp w z) (over_comm a c.denominator b.denominator) ∙ int_cmp_total.trans x y z ab bc

compare_antisymm : (a b : Fraction) → compare a b ≡ ordering_reverse (compare b a)
unfolding compare
compare_antisymm a b = int_cmp_total.antisymm (a.numerator *ℤ pos b.denominator) (b.numerator *ℤ pos a.denominator)

pub compare_total : IsTotalOrder compare
compare_total = record {
  antisymm = compare_antisymm;
  trans = compare_trans;
  congr = λ a b c e. ap (λ x. compare x c) (compare_equal a b e);
}

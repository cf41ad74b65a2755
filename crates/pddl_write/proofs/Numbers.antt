-- Long division by steps, and a denominator above 0.
use Rattle.std.proofs.Common.{◌≡◌, ℕ, ◌-◌, ◌*◌, ◌/◌, ◌%◌, ◌<◌, ◌==◌, ◌&&◌, ltb-true, ◌++◌, zero, suc, [], Bool, true, false, refl, arith, IsTrue, decimal}
use Rattle.std.proofs.lemmas.Bool.Decides.{nat_tests}
use Rattle.up_frac.specs.Fraction.{Fraction}
use Rattle.pddl_write.specs.Numbers.{decimals}

pub decimals-none : (rest divisor : ℕ) → decimals 0 rest divisor ≡ []
unfolding decimals
decimals-none rest divisor = refl

pub decimals-end : (places divisor : ℕ) → decimals places 0 divisor ≡ []
unfolding decimals
decimals-end zero divisor = refl
decimals-end (suc places) divisor = refl

pub decimals-more : (places rest divisor : ℕ) → 0 < places → 0 < rest → decimals places rest divisor ≡ decimal (10 * rest / divisor) ++ decimals (places - 1) (10 * rest % divisor) divisor
unfolding decimals
decimals-more zero rest divisor p r = absurd (omega arith)
decimals-more (suc places) zero divisor p r = absurd (omega arith)
decimals-more (suc places) (suc rest) divisor p r =
    let e : suc places - 1 ≡ places = omega arith in
    let f : (suc rest == 0) ≡ false = grind (arith, nat_tests) in
    rw (e, f) refl

and_left : (a b : Bool) → IsTrue (a && b) → IsTrue a
and_left true b h = refl
and_left false b h = h

pub denominator-above : (n : Fraction) → 0 < n.denominator
denominator-above n = ltb-true _ _ (and_left _ _ n.reduced)

pub ruleset numbers = (decimals-none, decimals-end, decimals-more, denominator-above)

-- What one step more adds.
use Rattle.std.proofs.Common.{◌≡◌, ℕ, ◌+◌, ◌-◌, List, [], ◌∷◌, ◌++◌, pos, refl, sym, ap, ◌∙◌, add-one}
use Rattle.std.specs.Prelude.{◌↔◌, Result, Ok, Err, IsErrOf}
use Rattle.up_frac.specs.Fraction.{Fraction}
use Rattle.up_frac.specs.Arithmetic.{quotient_of}
use Rattle.up_frac.specs.declared.frac_error.FracError.{FracError}
use Rattle.up_frac.specs.declared.frac_error.FracError.TheVariants.{TooLarge}
use Rattle.up_text.specs.Fresh.{fresh_name}
use Rattle.bench_base.specs.Work.{fractions, names_over, sum_below}

pub sum_below-none : (f : ℕ → ℕ) → sum_below f 0 ≡ 0
unfolding sum_below
sum_below-none f = refl

pub sum_below-next : (f : ℕ → ℕ) (n : ℕ) → sum_below f (n + 1) ≡ sum_below f n + f n
unfolding sum_below
sum_below-next f n = rw (add-one n) refl

pub fractions-none : fractions 0 ≡ []
unfolding fractions
fractions-none = refl

pub fractions-next : (n : ℕ) → fractions (n + 1) ≡ fractions n ++ quotient_of (pos (n + 1)) (pos (2047 - n)) ∷ []
unfolding fractions
fractions-next n = ap fractions (add-one n)

pub names_over-none : (base : List ℕ) → names_over base 0 ≡ []
unfolding names_over
names_over-none base = refl

pub names_over-next : (base : List ℕ) (n : ℕ) → names_over base (n + 1) ≡ names_over base n ++ fresh_name base (names_over base n) ∷ []
unfolding names_over
names_over-next base n = rw (add-one n) refl

pub ruleset sums = (sum_below-none, sum_below-next, fractions-none, fractions-next, names_over-none, names_over-next)

-- where a call answers, the cause of its error doesn't hold
pub no_cause : {P : Type 0} (r : Result ℕ FracError) (v : ℕ) → r ≡ Ok v → (IsErrOf r TooLarge ↔ P) → P → ⊥
no_cause r v e h p =
    let wrong : r ≡ Err TooLarge = h.1 p in
    let apart : Ok v ≡ Err TooLarge = sym e ∙ wrong in
    cc

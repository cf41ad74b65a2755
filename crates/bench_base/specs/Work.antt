-- What is timed, and the sum that each work makes.
use Rattle.std.specs.Prelude.{ℕ, zero, suc, ◌+◌, ◌-◌, ◌/◌, ◌%◌, ◌<◌, List, [], ◌∷◌, ◌++◌, length, pos, nat_abs, slice_index_or, Option, Some, None, codes, if◌then◌else◌}
use Rattle.std.specs.Str.{bytes_eq}
use Rattle.std.specs.declared.cmp.Ordering.{Ordering}
use Rattle.std.specs.declared.cmp.Ordering.TheVariants.{Less, Equal, Greater}
use Rattle.up_frac.specs.Fraction.{Fraction, IsBig}
use Rattle.up_frac.specs.Arithmetic.{quotient_of, sum, compare, whole}
use Rattle.up_text.specs.Fresh.{fresh_name}
use Rattle.bench_base.specs.declared.Work.{Work}
use Rattle.bench_base.specs.declared.Work.TheVariants.{Add, Compare, Fresh}

-- the fraction of this number among 1/2047, 2/2046, 3/2045, ..
abbrev pub fraction_at : ℕ → Fraction
fraction_at k = quotient_of (pos (k + 1)) (pos (2047 - k))

-- the first n of them
unfoldable pub fractions : ℕ → List Fraction
fractions zero = []
fractions (suc n) = fractions n ++ fraction_at n ∷ []

-- the two fractions of a step
abbrev pub first_at : List Fraction → ℕ → Fraction
first_at fractions step = slice_index_or fractions (step % 1024) (whole (pos 0))

abbrev pub second_at : List Fraction → ℕ → Fraction
second_at fractions step = slice_index_or fractions (step / 3 % 1024) (whole (pos 0))

abbrev pub sum_at : List Fraction → ℕ → Fraction
sum_at fractions step = sum (first_at fractions step) (second_at fractions step)

-- the size of a step's sum, above the line
abbrev pub sum_size : List Fraction → ℕ → ℕ
sum_size fractions step = nat_abs (sum_at fractions step).numerator

-- the sum of some step below n fits no fraction
abbrev pub SomeIsBig : List Fraction → ℕ → Type 0
SomeIsBig fractions n = (step : ℕ) × (step < n) × IsBig (sum_at fractions step)

abbrev pub one_if_less : Ordering → ℕ
one_if_less Less = 1
one_if_less Equal = 0
one_if_less Greater = 0

-- 1 where the first fraction of the step is less than the second
abbrev pub less_count : List Fraction → ℕ → ℕ
less_count fractions step = one_if_less (compare (first_at fractions step) (second_at fractions step))

-- the first n fresh names over a base
unfoldable pub names_over : List ℕ → ℕ → List (List ℕ)
names_over base zero = []
names_over base (suc n) = names_over base n ++ fresh_name base (names_over base n) ∷ []

-- the length of the next name, behind n of them
abbrev pub name_length : List ℕ → ℕ → ℕ
name_length base n = length (fresh_name base (names_over base n))

-- f 0 + f 1 + .. + f (n - 1)
unfoldable pub sum_below : (ℕ → ℕ) → ℕ → ℕ
sum_below f zero = 0
sum_below f (suc n) = sum_below f n + f n

abbrev pub work_of : List ℕ → Option Work
work_of word =
    if bytes_eq word (codes "add") then Some Add else
    (if bytes_eq word (codes "compare") then Some Compare else
    (if bytes_eq word (codes "fresh") then Some Fresh else None))

-- the sum that this much of a work makes
abbrev pub total_of : Work → ℕ → ℕ
total_of Add count = sum_below (sum_size (fractions 1024)) count
total_of Compare count = sum_below (less_count (fractions 1024)) count
total_of Fresh count = sum_below (name_length (codes "move")) count

-- Numbers of two operands, either of which may be undefined.
use Rattle.std.specs.Prelude.{List, Option, Some}
use Rattle.up_frac.specs.Fraction.{Fraction}
use Rattle.up_frac.specs.Arithmetic as fraction
use Rattle.std.specs.Prelude.{option_and_then}
use Rattle.up_text.specs.declared.name.Name.{Name}
use Rattle.up_tree.specs.declared.term.Term.{Term}
use Rattle.up_tree.specs.Objects.{Assignment}
use Rattle.up_tree.specs.State.{State, number_at}
use Rattle.up_tree.specs.Value.{with_both, ground_at}

abbrev pub sum_of : Option Fraction → Option Fraction → Option Fraction
sum_of a b = with_both (λ x y. Some (fraction.sum x y)) a b

abbrev pub difference_of : Option Fraction → Option Fraction → Option Fraction
difference_of a b = with_both (λ x y. Some (fraction.difference x y)) a b

abbrev pub product_of : Option Fraction → Option Fraction → Option Fraction
product_of a b = with_both (λ x y. Some (fraction.product x y)) a b

abbrev pub quotient_of : Option Fraction → Option Fraction → Option Fraction
quotient_of a b = with_both fraction.quotient a b

-- the number of a numeric term
abbrev pub fluent_value : State → Assignment → Name → List Term → Option Fraction
fluent_value s e f ts = option_and_then (number_at s) (ground_at s e f ts)

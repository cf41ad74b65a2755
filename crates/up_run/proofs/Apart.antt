-- The names of the outputs of a compile differ.
use Rattle.std.proofs.Common.{◌≡◌, ℕ, ◌≤◌, Bool, true, false, ◌&&◌, ◌||◌, List, [], ◌∷◌, length, Option, None, Some, refl, sym, ◌∙◌, true≢false, arith}
use Rattle.std.specs.Prelude.{not, bytes_eq, if◌then◌else◌}
use Rattle.std.proofs.lemmas.Bool.{leb-true}
use Rattle.std.proofs.lemmas.Slice.Eq.{bytes_eq-Decides}
use Rattle.up_top.specs.declared.command.Command.TheVariants.{Kind, Pipeline, Validate}
use Rattle.up_top.specs.Cause.{IsCompile}
use Rattle.up_top.specs.Words.{word_at, are_outputs, command_of, compile_with, back_with, limit_in, is_new}

-- the three names
pub record AreApart (words : List (List ℕ)) : Type 0 where
  pub second_first : bytes_eq (word_at words 5) (word_at words 4) ≡ false
  pub third_first : bytes_eq (word_at words 6) (word_at words 4) ≡ false
  pub third_second : bytes_eq (word_at words 6) (word_at words 5) ≡ false

other_way : (a b : List ℕ) → bytes_eq a b ≡ false → bytes_eq b a ≡ false
other_way a b differ = by (bytes_eq b a) refl
  where
    by : (r : Bool) → bytes_eq b a ≡ r → bytes_eq b a ≡ false
    by false is = is
    by true is = absurd (true≢false (sym ((bytes_eq-Decides a b).1 (sym ((bytes_eq-Decides b a).0 is))) ∙ differ))

both : (a b : Bool) → (a && b) ≡ true → (a ≡ true) × (b ≡ true)
both true b is = (refl, is)
both false b is = absurd (true≢false (sym is))

-- none of four
none_of_four : (a b c d : Bool) → not (a || (b || (c || (d || false)))) ≡ true → d ≡ false
none_of_four true b c d is = absurd (true≢false (sym is))
none_of_four false true c d is = absurd (true≢false (sym is))
none_of_four false false true d is = absurd (true≢false (sym is))
none_of_four false false false true is = absurd (true≢false (sym is))
none_of_four false false false false is = refl

none_of_five : (a b c d e : Bool) → not (a || (b || (c || (d || (e || false))))) ≡ true → (d ≡ false) × (e ≡ false)
none_of_five true b c d e is = absurd (true≢false (sym is))
none_of_five false true c d e is = absurd (true≢false (sym is))
none_of_five false false true d e is = absurd (true≢false (sym is))
none_of_five false false false true e is = absurd (true≢false (sym is))
none_of_five false false false false true is = absurd (true≢false (sym is))
none_of_five false false false false false is = (refl, refl)

new_fifth : (a b c d e f : List ℕ) (rest : List (List ℕ)) → is_new (a ∷ b ∷ c ∷ d ∷ e ∷ f ∷ rest) 5 ≡ true → bytes_eq e f ≡ false
unfolding word_at
new_fifth a b c d e f rest is = none_of_four (bytes_eq b f) (bytes_eq c f) (bytes_eq d f) (bytes_eq e f) is

new_sixth : (a b c d e f g : List ℕ) (rest : List (List ℕ)) → is_new (a ∷ b ∷ c ∷ d ∷ e ∷ f ∷ g ∷ rest) 6 ≡ true
    → (bytes_eq e g ≡ false) × (bytes_eq f g ≡ false)
unfolding word_at
new_sixth a b c d e f g rest is = none_of_five (bytes_eq b g) (bytes_eq c g) (bytes_eq d g) (bytes_eq e g) (bytes_eq f g) is

apart : (words : List (List ℕ)) → 7 ≤ length words → are_outputs words ≡ true → AreApart words
unfolding word_at
apart [] long is = absurd (omega arith)
apart (a ∷ []) long is = absurd (omega arith)
apart (a ∷ b ∷ []) long is = absurd (omega arith)
apart (a ∷ b ∷ c ∷ []) long is = absurd (omega arith)
apart (a ∷ b ∷ c ∷ d ∷ []) long is = absurd (omega arith)
apart (a ∷ b ∷ c ∷ d ∷ e ∷ []) long is = absurd (omega arith)
apart (a ∷ b ∷ c ∷ d ∷ e ∷ f ∷ []) long is = absurd (omega arith)
apart (a ∷ b ∷ c ∷ d ∷ e ∷ f ∷ g ∷ rest) long is =
    let words : List (List ℕ) = a ∷ b ∷ c ∷ d ∷ e ∷ f ∷ g ∷ rest in
    let front = both (is_new words 4 && is_new words 5) (is_new words 6) is in
    let fifth = new_fifth a b c d e f (g ∷ rest) (both (is_new words 4) (is_new words 5) front.0).1 in
    let sixth = new_sixth a b c d e f g rest front.1 in
    record { second_first = other_way e f fifth; third_first = other_way e g sixth.0; third_second = other_way f g sixth.1 }

with_limit : (fits : Bool) (limit : Option ℕ) → IsCompile (compile_with fits limit) → fits ≡ true
with_limit true limit is = refl
with_limit false (Some limit) is = absurd is
with_limit false None is = absurd is

no_back : (fits : Bool) → IsCompile (back_with fits) → ⊥
no_back true is = is
no_back false is = is

chosen : (one two three four five fits fit : Bool) (limit : Option ℕ)
    → IsCompile (if one then Some Kind else if two then Some Pipeline else if three then compile_with fits limit else if four then Some Validate else if five then back_with fit else None)
    → (three ≡ true) × (fits ≡ true)
chosen true two three four five fits fit limit is = absurd is
chosen false true three four five fits fit limit is = absurd is
chosen false false true four five fits fit limit is = (refl, with_limit fits limit is)
chosen false false false true five fits fit limit is = absurd is
chosen false false false false true fits fit limit is = absurd (no_back fit is)
chosen false false false false false fits fit limit is = absurd is

-- the names of the outputs of a compile
pub compile_apart : (words : List (List ℕ)) → IsCompile (command_of words) → AreApart words
compile_apart words is =
    let fit = chosen _ _ _ _ _ (are_outputs words) (is_new words 5) (limit_in words) is in
    apart words (leb-true 7 (length words) (both _ _ fit.0).0) fit.1

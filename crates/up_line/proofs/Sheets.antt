-- Bytes put one after another.
use Rattle.std.proofs.Common.{◌≡◌, ℕ, ◌-◌, ◌≤◌, ◌^◌, List, [], ◌∷◌, ◌++◌, length, take, refl, ap, ◌∙◌, arith, append_assoc, length-append, suc, zero}
use Rattle.std.proofs.lemmas.Grind.{common_steps}
use Rattle.up_line.specs.Sheet.{Sheet, after, blank, room}
use Rattle.up_line.specs.Steps.{longest}

take_on : (n : ℕ) (a b : List ℕ) → take n a ++ take (n - length a) b ≡ take n (a ++ b)
take_on n [] b = grind (arith, common_steps)
take_on zero (x ∷ a) b = grind (arith, common_steps)
take_on (suc n) (x ∷ a) b = let e : suc n - suc (length a) ≡ n - length a = omega arith in rw e (ap (λ t. x ∷ t) (take_on n a b))

sub_on : (n : ℕ) (a b : List ℕ) → n - length a - length b ≡ n - length (a ++ b)
sub_on n a b = rw (length-append a b) (omega arith)

same_sheet : (s t : Sheet) → s.text ≡ t.text → s.free ≡ t.free → s.left ≡ t.left → s ≡ t
same_sheet s t e f g = λ i. record { text = e i; free = f i; left = g i }

pub after-after : (s : Sheet) (a b : List ℕ) → after (after s a) b ≡ after s (a ++ b)
unfolding after
after-after s a b = same_sheet _ _ (append_assoc s.text (take s.free a) (take (s.free - length a) b) ∙ ap (λ t. s.text ++ t) (take_on s.free a b)) (sub_on s.free a b) (sub_on s.left a b)

pub after-nil : (s : Sheet) → after s [] ≡ s
unfolding after
after-nil s = same_sheet _ _ (grind (arith, common_steps)) (omega arith) (omega arith)

-- bytes put behind bytes that were put
pub then_put : (s t u : Sheet) (x y : List ℕ) → t ≡ after s x → u ≡ after t y → u ≡ after s (x ++ y)
then_put s t u x y e f = f ∙ ap (λ r. after r y) e ∙ after-after s x y

pub room-after : (s : Sheet) (a : List ℕ) → room (after s a) ≡ room s
unfolding after
room-after s a = grind (arith, common_steps)

pub room-blank : (n : ℕ) → room (blank n) ≡ n
unfolding blank
room-blank n = grind (arith, common_steps)

pub text-after : (n : ℕ) (a : List ℕ) → length a ≤ n → (after (blank n) a).text ≡ a
unfolding after blank
text-after n a h = grind (arith, common_steps)

pub left-after : (n : ℕ) (a : List ℕ) → (after (blank n) a).left ≡ (2 ^ 64 - 1) - length a
unfolding after blank
left-after n a = refl

-- the next piece finds room, and so do those behind it
pub piece-fits : (n : ℕ) (piece : List ℕ) (rest : List (List ℕ)) → longest (piece ∷ rest) ≤ n → (after (blank n) piece).text ≡ piece
unfolding longest
piece-fits n piece rest h = text-after n piece (omega arith)

pub rest-fits : (n : ℕ) (piece : List ℕ) (rest : List (List ℕ)) → longest (piece ∷ rest) ≤ n → longest rest ≤ room (after (blank n) piece)
unfolding longest
rest-fits n piece rest h = rw (room-after (blank n) piece, room-blank n) (omega arith)

pub none-fits : (n : ℕ) → longest [] ≤ n
unfolding longest
none-fits n = omega arith

pub ruleset puts = (after-after, after-nil)

pub ruleset measures = (after-after, after-nil, room-after, room-blank, text-after, left-after)

pub ruleset fits = (piece-fits, rest-fits, none-fits, room-after, room-blank)

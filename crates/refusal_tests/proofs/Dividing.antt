-- A text has at most one division at its first mark, and one exactly where it has a mark.
use Rattle.std.proofs.Common.{◌≡◌, ℕ, zero, suc, ◌+◌, ◌-◌, ◌<◌, ◌≤◌, Bool, true, false, List, [], ◌∷◌, ◌++◌, length, take, drop, get_or, cond, Some, None, refl, ap, ap₂, sym, ◌∙◌, arith, true≢false, eqb-true, ltb-false, take_all, length-drop}
use Rattle.std.specs.Prelude.{◌||◌, not, nat_lt}
use Rattle.std.specs.List.{list_any, position, position_or_len}
use Rattle.std.proofs.lemmas.Option.{none-some}
use Rattle.std.proofs.lemmas.List.Folds.{list_any_at, list_any-append}
use Rattle.std.proofs.lemmas.List.Quantifiers.{position-Some}
use Rattle.refusal_tests.specs.Marks.{is_mark, HasMark, IsDivided}

unmarked_before : (text : List ℕ) (i : ℕ) → ((k : ℕ) → k < i → is_mark (get_or text k 0) ≡ false) → list_any is_mark (take i text) ≡ false
unmarked_before [] zero none = refl
unmarked_before [] (suc i) none = refl
unmarked_before (x ∷ text) zero none = refl
unmarked_before (x ∷ text) (suc i) none =
    rw (none 0 (omega arith)) (unmarked_before text i (λ k small. none (suc k) (omega arith)))

unmarked_all : (text : List ℕ) → length text ≤ position_or_len is_mark text → list_any is_mark text ≡ false
unmarked_all [] h = refl
unmarked_all (x ∷ text) h =
    let by_test : (b : Bool) → is_mark x ≡ b → (length text + 1 ≤ cond (not b) (1 + position_or_len is_mark text) 0) → (b || list_any is_mark text) ≡ false =
    elim [
      | true ↦ λ is long. absurd (omega arith)
      | false ↦ λ is long. unmarked_all text (omega arith)
    ] in
    by_test (is_mark x) refl (omega (arith, h))

pub unmarked : (text : List ℕ) → position is_mark text ≡ None → ¬ HasMark text
unmarked text is has =
    let by_test : (b : Bool) → nat_lt (position_or_len is_mark text) (length text) ≡ b → cond b (Some (position_or_len is_mark text)) None ≡ None → ⊥ =
    elim [
      | true ↦ λ small some. none-some _ (sym some)
      | false ↦ λ large none. true≢false (sym has ∙ unmarked_all text (ltb-false _ _ large))
    ] in
    by_test (nat_lt (position_or_len is_mark text) (length text)) refl is

pub marked : (text : List ℕ) (i : ℕ) → position is_mark text ≡ Some i → HasMark text
marked text i is = let found = position-Some is_mark text i 0 is in list_any_at is_mark text i 0 found.0 found.1

whole_text : (text : List ℕ) (i : ℕ) → i < length text → get_or text i 0 ≡ 64 → text ≡ take i text ++ 64 ∷ drop (suc i) text
whole_text [] i small is = absurd (omega arith)
whole_text (x ∷ text) zero small is = ap (λ b. b ∷ text) is
whole_text (x ∷ text) (suc i) small is = ap (λ rest. x ∷ rest) (whole_text text i (omega arith) is)

rest_text : (text : List ℕ) (n : ℕ) → take (length text - n) (drop n text) ≡ drop n text
rest_text text n = take_all (length text - n) (drop n text) (grind (arith, length-drop))

-- the sides of the first index that holds a mark
pub divided : (text : List ℕ) (i : ℕ) → position is_mark text ≡ Some i → IsDivided text (take i text) (take (length text - (i + 1)) (drop (i + 1) text))
divided text i is =
    let found = position-Some is_mark text i 0 is in
    let on : i + 1 ≡ suc i = omega arith in
    record {
      whole = rw (rest_text text (i + 1), on) (whole_text text i found.0 (eqb-true _ _ found.1));
      first = λ h. true≢false (sym h ∙ unmarked_before text i found.2);
    }

or-true : (b : Bool) → (b || true) ≡ true
or-true true = refl
or-true false = refl

marked_head : (c : List ℕ) (y : ℕ) → 64 ≡ y → HasMark (y ∷ c)
marked_head c y is = rw (← is) refl

marked_on : (x : ℕ) (xs : List ℕ) → HasMark xs → HasMark (x ∷ xs)
marked_on x xs h = rw h (or-true (is_mark x))

same_sides : (b a c d : List ℕ) → ¬ HasMark b → ¬ HasMark c → b ++ 64 ∷ a ≡ c ++ 64 ∷ d → b ++ a ≡ c ++ d
same_sides [] a [] d none others e = grind arith
same_sides [] a (y ∷ c) d none others e = let same : 64 ≡ y = cc in absurd (others (marked_head c y same))
same_sides (x ∷ b) a [] d none others e = let same : 64 ≡ x = cc in absurd (none (marked_head b x same))
same_sides (x ∷ b) a (y ∷ c) d none others e =
    let heads : x ≡ y = cc in
    let tails : b ++ 64 ∷ a ≡ c ++ 64 ∷ d = cc in
    ap₂ ◌∷◌ heads (same_sides b a c d (λ h. none (marked_on x b h)) (λ h. others (marked_on y c h)) tails)

-- a text without its first mark is the same whichever way it is divided
pub one_rest : (text b a c d : List ℕ) → IsDivided text b a → IsDivided text c d → b ++ a ≡ c ++ d
one_rest text b a c d one two = same_sides b a c d one.first two.first (sym one.whole ∙ two.whole)

pub divided_is_marked : (text before after : List ℕ) → IsDivided text before after → HasMark text
divided_is_marked text before after parts =
    let sides = list_any-append is_mark before (64 ∷ after) in
    rw (parts.whole, sides) (or-true (list_any is_mark before))

-- What stands at a byte has the shape that it is read as.
use Rattle.std.proofs.Common.{◌≡◌, ℕ, zero, suc, ◌+◌, ◌-◌, ◌≤◌, min, Bool, true, false, List, [], ◌∷◌, ◌++◌, length, take, drop, take_while, cond, inl, inr, refl, ap, sym, ◌∙◌, subst, length-drop, zero-add, arith}
use Rattle.std.specs.Prelude.{if◌then◌else◌, ◌==◌, ◌||◌, ◌&&◌, ◌<◌, ◌⊎◌, ◌≢◌, nat_lt}
use Rattle.std.specs.List.{list_all}
use Rattle.std.proofs.lemmas.Bool.{false≢true}
use Rattle.std.proofs.lemmas.Bool.Decides.{nat_tests}
use Rattle.std.proofs.lemmas.List.{take-append-drop, length-take-le}
use Rattle.std.proofs.lemmas.List.Sums.{take_while-cons}
use Rattle.pddl_lex.specs.declared.shape.Shape.{Shape}
use Rattle.pddl_lex.specs.declared.shape.Shape.TheVariants.{Open, Close, Word, Variable, Keyword, Number, Sign as SignShape}
use Rattle.pddl_lex.specs.declared.shape.Next.{Next}
use Rattle.pddl_lex.specs.declared.shape.Next.TheVariants.{Blank, Piece, BadByte, BadNumber}
use Rattle.pddl_lex.specs.declared.tree.Sign.{Sign}
use Rattle.pddl_lex.specs.declared.tree.Sign.TheVariants.{Minus, Plus, Times, Slash, Less, LessEqual, Same, GreaterEqual, Greater}
use Rattle.pddl_lex.specs.Bytes.{is_blank, is_letter, is_digit, is_name_byte, first, front_length}
use Rattle.pddl_lex.specs.Next.{next, sign, minus, sign_or, name_behind, number, fraction_length}
use Rattle.pddl_lex.specs.Places.{is_in_line}
use Rattle.pddl_lex.specs.Spells.{stops, IsName, IsFraction, none, digits, IsUnsigned, IsNumber, plain, negative, HasShape, Ends, sign_bytes, has_decimals, IsLongFraction, no_more, all_digits, IsWrong, too_long, too_many_places, followed, IsBadUnsigned, IsBadNumber, bad_plain, bad_negative, BeginsNone}

-- what an if gives has a property that both of its sides have
by_case : {T : Type 0} (P : T → Type 0) (b : Bool) (x y : T) → (b ≡ true → P x) → (b ≡ false → P y) → P (if b then x else y)
by_case P true x y holds fails = holds refl
by_case P false x y holds fails = fails refl

front_cons : (test : ℕ → Bool) (byte : ℕ) (bytes : List ℕ) → front_length test (byte ∷ bytes) ≡ cond (test byte) (suc (front_length test bytes)) 0
front_cons test byte bytes =
    let by_test : (b : Bool) → length (cond b (byte ∷ take_while test bytes) []) ≡ cond b (suc (front_length test bytes)) 0 = elim [ true ↦ refl | false ↦ refl ] in
    ap length (take_while-cons test byte bytes) ∙ by_test (test byte)

-- the bytes in front that pass a test, and what is behind them
pub front_passes : (test : ℕ → Bool) (bytes : List ℕ) → list_all test (take (front_length test bytes) bytes) ≡ true
front_passes test [] = refl
front_passes test (byte ∷ bytes) =
    let by_test : (b : Bool) → test byte ≡ b → list_all test (take (cond b (suc (front_length test bytes)) 0) (byte ∷ bytes)) ≡ true =
    elim [ true ↦ λ is. rw is (front_passes test bytes) | false ↦ λ is. refl ] in
    rw (front_cons test byte bytes) (by_test (test byte) refl)

pub front_stops : (test : ℕ → Bool) (bytes : List ℕ) → stops test (drop (front_length test bytes) bytes) ≡ true
front_stops test [] = refl
front_stops test (byte ∷ bytes) =
    let by_test : (b : Bool) → test byte ≡ b → stops test (drop (cond b (suc (front_length test bytes)) 0) (byte ∷ bytes)) ≡ true =
    elim [ true ↦ λ is. front_stops test bytes | false ↦ λ is. rw is refl ] in
    rw (front_cons test byte bytes) (by_test (test byte) refl)

pub front_within : (test : ℕ → Bool) (bytes : List ℕ) → front_length test bytes ≤ length bytes
front_within test [] = omega arith
front_within test (byte ∷ bytes) =
    let ih = front_within test bytes in
    let by_test : (b : Bool) → cond b (suc (front_length test bytes)) 0 ≤ suc (length bytes) = elim [ true ↦ omega (arith, ih) | false ↦ omega arith ] in
    rw (front_cons test byte bytes) (by_test (test byte))

length_take : (n : ℕ) (bytes : List ℕ) → n ≤ length bytes → length (take n bytes) ≡ n
length_take n bytes within = length-take-le n bytes within

length_front : (test : ℕ → Bool) (bytes : List ℕ) → length (take (front_length test bytes) bytes) ≡ front_length test bytes
length_front test bytes = length_take (front_length test bytes) bytes (front_within test bytes)

add_one_left : {n : ℕ} → 1 + n ≡ suc n
add_one_left = omega arith

take_nothing : (n : ℕ) → take {A = ℕ} n [] ≡ []
take_nothing zero = refl
take_nothing (suc n) = refl

drop_nothing : (n : ℕ) → drop {A = ℕ} n [] ≡ []
drop_nothing zero = refl
drop_nothing (suc n) = refl

take_both : (one two : ℕ) (bytes : List ℕ) → take (one + two) bytes ≡ take one bytes ++ take two (drop one bytes)
take_both zero two bytes = rw zero-add refl
take_both (suc one) two [] =
    let here : suc one + two ≡ suc (one + two) = omega arith in
    rw (here, take_nothing two) refl
take_both (suc one) two (byte ∷ bytes) =
    let here : suc one + two ≡ suc (one + two) = omega arith in
    rw here (ap (λ others. byte ∷ others) (take_both one two bytes))

take_more : (n byte : ℕ) (bytes : List ℕ) {k : ℕ} → suc k ≤ n → take n (byte ∷ bytes) ≡ byte ∷ take (n - 1) bytes
take_more zero byte bytes some = absurd (omega arith)
take_more (suc n) byte bytes some = let here : suc n - 1 ≡ n = omega arith in rw here refl

-- what stands at a byte
pub data Here (byte : ℕ) (behind : List ℕ) : Next → Type 0 where
  here_blank : is_blank byte ≡ true → Here byte behind (Blank 0)
  here_comment : byte ≡ 59 → Here byte behind (Blank (front_length is_in_line behind))
  here_piece : (shape : Shape) (n : ℕ) → HasShape shape byte (take n behind) → Ends shape (drop n behind) → n ≤ length behind → Here byte behind (Piece shape n)
  here_bad_byte : Here byte behind BadByte
  here_bad_number : (n : ℕ) → IsBadNumber byte (take n behind) (drop n behind) → n ≤ length behind → Here byte behind (BadNumber n)

here_sign : (byte : ℕ) (behind : List ℕ) (sign : Sign) → byte ∷ [] ≡ sign_bytes sign → Ends (SignShape sign) behind → Here byte behind (Piece (SignShape sign) 0)
here_sign byte behind sign is ends = here_piece (SignShape sign) 0 is ends (omega arith)

name_there : (byte : ℕ) (behind : List ℕ) → is_letter byte ≡ true → IsName (take (front_length is_name_byte (byte ∷ behind)) (byte ∷ behind))
name_there byte behind letter =
    let here : is_name_byte byte ≡ true = rw letter refl in
    rw (front_cons is_name_byte byte behind, here) (letter, front_passes is_name_byte behind)

-- a mark and what is behind it
here_marked : (shape : Shape) (byte : ℕ) (behind : List ℕ)
    → ((n : ℕ) → IsName (take n behind) → HasShape shape byte (take n behind))
    → ((n : ℕ) → stops is_name_byte (drop n behind) ≡ true → Ends shape (drop n behind))
    → Here byte behind (name_behind shape behind)
unfolding name_behind
here_marked shape byte [] has ends = here_bad_byte
here_marked shape byte (letter ∷ behind) has ends =
    by_case (Here byte (letter ∷ behind)) (is_letter letter) _ _
    (λ is. let n = front_length is_name_byte (letter ∷ behind) in
    here_piece shape n (has n (name_there letter behind is)) (ends n (front_stops is_name_byte (letter ∷ behind))) (front_within is_name_byte (letter ∷ behind)))
    (λ is. here_bad_byte)

is_same : (a b : ℕ) → (a == b) ≡ true → a ≡ b
is_same a b h = grind (arith, nat_tests)

stops_other : (test : ℕ → Bool) (bytes : List ℕ) → test (first bytes) ≡ false → stops test bytes ≡ true
stops_other test [] fails = refl
stops_other test (byte ∷ bytes) fails = rw fails refl

here_sign_or : (plain_sign equal_sign : Sign) (byte : ℕ) (behind : List ℕ)
    → byte ∷ [] ≡ sign_bytes plain_sign → byte ∷ 61 ∷ [] ≡ sign_bytes equal_sign
    → (stops (λ other. other == 61) behind ≡ true → Ends (SignShape plain_sign) behind)
    → ((rest : List ℕ) → Ends (SignShape equal_sign) rest)
    → Here byte behind (sign_or plain_sign equal_sign behind)
unfolding sign_or
here_sign_or plain_sign equal_sign byte [] is both ends all_end = here_sign byte [] plain_sign is (ends refl)
here_sign_or plain_sign equal_sign byte (other ∷ behind) is both ends all_end =
    by_case (Here byte (other ∷ behind)) (other == 61) _ _
    (λ same. here_piece (SignShape equal_sign) 1 (rw (is_same other 61 same) both) (all_end _) (omega arith))
    (λ fails. here_sign byte (other ∷ behind) plain_sign is (ends (rw fails refl)))

or_parts : (a b : Bool) → (a || b) ≡ false → (a ≡ false) × (b ≡ false)
or_parts true b h = absurd (false≢true (sym h))
or_parts false b h = (refl, h)

not_above : (limit n : ℕ) → nat_lt limit n ≡ false → n ≤ limit
not_above limit n h = grind (arith, nat_tests)

not_zero : (n : ℕ) → (n == 0) ≡ false → 1 ≤ n
not_zero n h = grind (arith, nat_tests)

-- the bytes of a fraction in front
fraction_there : (bytes : List ℕ) → fraction_length bytes ≤ 10 → IsFraction (take (fraction_length bytes) bytes)
unfolding fraction_length
fraction_there [] few = none refl
fraction_there (byte ∷ behind) few =
    let count = front_length is_digit behind in
    let inner : (b : Bool) → (byte == 46) ≡ true → (count == 0) ≡ b → cond b 0 (1 + count) ≤ 10 → IsFraction (take (cond b 0 (1 + count)) (byte ∷ behind)) =
    elim [
      | true ↦ λ point is few. none refl
      | false ↦ λ point is few. rw add_one_left (digits (take count behind) (rw (is_same byte 46 point) refl) (front_passes is_digit behind)
          (rw (length_front is_digit behind) (not_zero count is)) (rw (length_front is_digit behind) (omega arith)))
    ] in
    let outer : (b : Bool) → (byte == 46) ≡ b → cond b (cond (count == 0) 0 (1 + count)) 0 ≤ 10 → IsFraction (take (cond b (cond (count == 0) 0 (1 + count)) 0) (byte ∷ behind)) =
    elim [ true ↦ λ point few. inner (count == 0) point refl few | false ↦ λ point few. none refl ] in
    outer (byte == 46) refl few

fraction_within : (bytes : List ℕ) → fraction_length bytes ≤ length bytes
unfolding fraction_length
fraction_within [] = omega arith
fraction_within (byte ∷ behind) =
    let count = front_length is_digit behind in
    let within = front_within is_digit behind in
    let inner : (b : Bool) → cond b 0 (1 + count) ≤ suc (length behind) = elim [ true ↦ omega arith | false ↦ omega (arith, within) ] in
    let outer : (b : Bool) → cond b (cond (count == 0) 0 (1 + count)) 0 ≤ suc (length behind) = elim [ true ↦ inner (count == 0) | false ↦ omega arith ] in
    outer (byte == 46)

and_false : (b : Bool) → (b && false) ≡ false
and_false true = refl
and_false false = refl

or_cases : (a b : Bool) → (a || b) ≡ true → (a ≡ true) ⊎ (b ≡ true)
or_cases true b is = inl refl
or_cases false b is = inr is

above : (limit n : ℕ) → nat_lt limit n ≡ true → limit < n
above limit n h = grind (arith, nat_tests)

no_digits : (point : ℕ) (bytes : List ℕ) → (front_length is_digit bytes == 0) ≡ true → has_decimals (point ∷ bytes) ≡ false
no_digits point [] lacks = refl
no_digits point (digit ∷ bytes) lacks =
    let by_test : (b : Bool) → is_digit digit ≡ b → has_decimals (point ∷ digit ∷ bytes) ≡ false = elim [
      | true ↦ λ is. let count : suc (front_length is_digit bytes) ≡ 0 = is_same _ 0 (rw (front_cons is_digit digit bytes, is) at lacks) in absurd (omega (arith, count))
      | false ↦ λ is. rw is (and_false (point == 46))
    ] in
    by_test (is_digit digit) refl

no_point : (byte : ℕ) (bytes : List ℕ) → (byte == 46) ≡ false → has_decimals (byte ∷ bytes) ≡ false
no_point byte [] is = refl
no_point byte (digit ∷ bytes) is = rw is refl

-- as many bytes of a fraction as stand in front
long_fraction : (bytes : List ℕ) → IsLongFraction (take (fraction_length bytes) bytes) (drop (fraction_length bytes) bytes)
unfolding fraction_length
long_fraction [] = no_more refl refl
long_fraction (byte ∷ behind) =
    let count = front_length is_digit behind in
    let inner : (b : Bool) → (byte == 46) ≡ true → (count == 0) ≡ b → IsLongFraction (take (cond b 0 (1 + count)) (byte ∷ behind)) (drop (cond b 0 (1 + count)) (byte ∷ behind)) = elim [
      | true ↦ λ point is. no_more refl (no_digits byte behind is)
      | false ↦ λ point is. rw add_one_left (all_digits (take count behind) (rw (is_same byte 46 point) refl) (front_passes is_digit behind)
          (rw (length_front is_digit behind) (not_zero count is)) (front_stops is_digit behind))
    ] in
    let outer : (b : Bool) → (byte == 46) ≡ b → IsLongFraction (take (cond b (cond (count == 0) 0 (1 + count)) 0) (byte ∷ behind)) (drop (cond b (cond (count == 0) 0 (1 + count)) 0) (byte ∷ behind)) = elim [
      | true ↦ λ point. inner (count == 0) point refl
      | false ↦ λ point. no_more refl (no_point byte behind point)
    ] in
    outer (byte == 46) refl

stops_here : (test : ℕ → Bool) (bytes : List ℕ) → test 0 ≡ false → test (first bytes) ≡ true → stops test bytes ≡ false
stops_here test [] fails is = absurd (false≢true (sym fails ∙ is))
stops_here test (byte ∷ bytes) fails is = rw is refl

drop_sum : (one two : ℕ) (bytes : List ℕ) → drop (one + two) bytes ≡ drop two (drop one bytes)
drop_sum zero two bytes = rw zero-add refl
drop_sum (suc one) two [] = let here : suc one + two ≡ suc (one + two) = omega arith in rw here (sym (drop_nothing two))
drop_sum (suc one) two (byte ∷ bytes) = let here : suc one + two ≡ suc (one + two) = omega arith in rw here (drop_sum one two bytes)

here_wrong : (ahead whole fraction whole' fraction' : ℕ) (rest : List ℕ) → whole' ≡ whole → fraction' ≡ fraction
    → (is_name_byte (first rest) || first rest == 46 || nat_lt 18 (ahead + whole + (fraction - min fraction 1)) || nat_lt 10 fraction) ≡ true
    → IsWrong (ahead + whole' + (fraction' - 1)) (fraction' - 1) rest
here_wrong ahead whole fraction whole' fraction' rest same_whole same_fraction is =
    let last : (nat_lt 10 fraction ≡ true) → IsWrong (ahead + whole' + (fraction' - 1)) (fraction' - 1) rest = λ h.
    let more = above 10 fraction h in too_many_places (omega (arith, more, same_fraction)) in
    let middle : (nat_lt 18 (ahead + whole + (fraction - min fraction 1)) ≡ true) → IsWrong (ahead + whole' + (fraction' - 1)) (fraction' - 1) rest = λ h.
    let more = above 18 _ h in too_long (omega (arith, more, same_whole, same_fraction)) in
    elim (or_cases _ (nat_lt 10 fraction) is) [
      | inr h ↦ last h
      | inl g ↦ elim (or_cases _ (nat_lt 18 (ahead + whole + (fraction - min fraction 1))) g) [
        | inr h ↦ middle h
        | inl h ↦ followed (stops_here (λ other. is_name_byte other || other == 46) rest refl h)
      ]
    ]

here_number : (before byte : ℕ) (behind : List ℕ)
    → ((n : ℕ) → front_length is_digit behind ≤ n → n ≤ length behind → IsUnsigned before (take n behind) → IsNumber byte (take n behind))
    → ((n : ℕ) → IsBadUnsigned before (take n behind) (drop n behind) → IsBadNumber byte (take n behind) (drop n behind))
    → Here byte behind (number before behind)
unfolding number
here_number ahead byte behind is bad =
    let whole = front_length is_digit behind in
    let rest = drop whole behind in
    let fraction = fraction_length rest in
    let next_byte = first (drop (whole + fraction) behind) in
    let whole_within = front_within is_digit behind in
    let fraction_fits = fraction_within rest in
    let rest_length : length rest ≡ length behind - whole = length-drop whole behind in
    let within : whole + fraction ≤ length behind = omega arith in
    by_case (Here byte behind) (is_name_byte next_byte || next_byte == 46 || nat_lt 18 (ahead + whole + (fraction - min fraction 1)) || nat_lt 10 fraction) _ _
    (λ wrong.
    let front_is : length (take whole behind) ≡ whole = length_front is_digit behind in
    let fraction_is : length (take fraction rest) ≡ fraction = length_take fraction rest fraction_fits in
    let behind_both : drop (whole + fraction) behind ≡ drop fraction rest = drop_sum whole fraction behind in
    let whole_rest : take fraction rest ++ drop (whole + fraction) behind ≡ rest = rw behind_both (take-append-drop fraction rest) in
    here_bad_number (whole + fraction)
    (bad (whole + fraction) (record {
      whole = take whole behind;
      fraction = take fraction rest;
      parts = take_both whole fraction behind;
      whole_digits = front_passes is_digit behind;
      whole_stops = rw whole_rest (front_stops is_digit behind);
      is_fraction = rw behind_both (long_fraction rest);
      wrong = here_wrong ahead whole fraction _ _ (drop (whole + fraction) behind) front_is fraction_is wrong;
    }))
    within)
    (λ good.
    let small = or_parts _ (nat_lt 10 fraction) good in
    let few = or_parts _ (nat_lt 18 (ahead + whole + (fraction - min fraction 1))) small.0 in
    let few_digits : ahead + whole + (fraction - min fraction 1) ≤ 18 = not_above 18 _ few.1 in
    let ten : fraction ≤ 10 = not_above 10 _ small.1 in
    let front_is : length (take whole behind) ≡ whole = length_front is_digit behind in
    let fraction_is : length (take fraction rest) ≡ fraction = length_take fraction rest fraction_fits in
    here_piece Number (whole + fraction)
    (is (whole + fraction) (omega arith) within (record {
      whole = take whole behind;
      fraction = take fraction rest;
      parts = take_both whole fraction behind;
      whole_digits = front_passes is_digit behind;
      is_fraction = fraction_there rest ten;
      few = rw (front_is, fraction_is) (omega arith);
    }))
    (stops_other (λ other. is_name_byte other || other == 46) (drop (whole + fraction) behind) few.0)
    within)

here_minus : (behind : List ℕ) → Here 45 behind (minus behind)
unfolding minus
here_minus [] = here_sign 45 [] Minus refl refl
here_minus (digit ∷ others) =
    by_case (Here 45 (digit ∷ others)) (is_digit digit) _ _
    (λ is. here_number 0 45 (digit ∷ others) (λ n some within u.
    negative refl digit (take (n - 1) others)
    (take_more n digit others (rw (front_cons is_digit digit others, is) at some)) is u)
    (λ n u. bad_negative refl (rw (take-append-drop n (digit ∷ others)) is) u))
    (λ is. here_sign 45 (digit ∷ others) Minus refl (rw is refl))

here_other : (byte : ℕ) (behind : List ℕ) → Here byte behind (sign byte behind)
unfolding sign
here_other byte behind =
    by_case (Here byte behind) (byte == 40) _ _ (λ is. here_piece Open 0 (rw (is_same byte 40 is) refl) tt (omega arith)) (λ _.
    by_case (Here byte behind) (byte == 41) _ _ (λ is. here_piece Close 0 (rw (is_same byte 41 is) refl) tt (omega arith)) (λ _.
    by_case (Here byte behind) (byte == 42) _ _ (λ is. here_sign byte behind Times (rw (is_same byte 42 is) refl) tt) (λ _.
    by_case (Here byte behind) (byte == 43) _ _ (λ is. here_sign byte behind Plus (rw (is_same byte 43 is) refl) tt) (λ _.
    by_case (Here byte behind) (byte == 45) _ _ (λ is. rw (is_same byte 45 is) (here_minus behind)) (λ _.
    by_case (Here byte behind) (byte == 47) _ _ (λ is. here_sign byte behind Slash (rw (is_same byte 47 is) refl) tt) (λ _.
    by_case (Here byte behind) (byte == 58) _ _ (λ is. here_marked Keyword byte behind (λ n name. (is_same byte 58 is, name)) (λ n ends. ends)) (λ _.
    by_case (Here byte behind) (byte == 59) _ _ (λ is. here_comment (is_same byte 59 is)) (λ _.
    by_case (Here byte behind) (byte == 60) _ _ (λ is. here_sign_or Less LessEqual byte behind (rw (is_same byte 60 is) refl) (rw (is_same byte 60 is) refl) (λ ends. ends) (λ rest. tt)) (λ _.
    by_case (Here byte behind) (byte == 61) _ _ (λ is. here_sign byte behind Same (rw (is_same byte 61 is) refl) tt) (λ _.
    by_case (Here byte behind) (byte == 62) _ _ (λ is. here_sign_or Greater GreaterEqual byte behind (rw (is_same byte 62 is) refl) (rw (is_same byte 62 is) refl) (λ ends. ends) (λ rest. tt)) (λ _.
    by_case (Here byte behind) (byte == 63) _ _ (λ is. here_marked Variable byte behind (λ n name. (is_same byte 63 is, name)) (λ n ends. ends)) (λ _.
    here_bad_byte))))))))))))

pub here_next : (byte : ℕ) (behind : List ℕ) → Here byte behind (next byte behind)
unfolding next
here_next byte behind =
    by_case (Here byte behind) (is_blank byte) _ _ (λ is. here_blank is) (λ _.
    by_case (Here byte behind) (is_letter byte) _ _
    (λ is. here_piece Word (front_length is_name_byte behind) (is, front_passes is_name_byte behind) (front_stops is_name_byte behind) (front_within is_name_byte behind)) (λ _.
    by_case (Here byte behind) (is_digit byte) _ _ (λ is. here_number 1 byte behind (λ n some within u. plain is u) (λ n u. bad_plain is u)) (λ _.
    here_other byte behind)))

has_shape : (byte : ℕ) (behind : List ℕ) (shape : Shape) (n : ℕ) (here : Next) → Here byte behind here → here ≡ Piece shape n → HasShape shape byte (take n behind)
has_shape byte behind shape n _ (here_blank is) at = absurd cc
has_shape byte behind shape n _ (here_comment is) at = absurd cc
has_shape byte behind shape n _ (here_piece there k has ends within) at =
    let same : there ≡ shape = cc in
    let count : k ≡ n = cc in
    subst (λ (s : Shape). HasShape s byte (take n behind)) same (subst (λ (m : ℕ). HasShape there byte (take m behind)) count has)
has_shape byte behind shape n _ here_bad_byte at = absurd cc
has_shape byte behind shape n _ (here_bad_number k bad within) at = absurd cc

-- what is read as a token of a shape has that shape
pub piece_shape : (byte : ℕ) (behind : List ℕ) (shape : Shape) (n : ℕ) → next byte behind ≡ Piece shape n → HasShape shape byte (take n behind)
piece_shape byte behind shape n is = has_shape byte behind shape n (next byte behind) (here_next byte behind) is

empty_unsigned : IsUnsigned 1 []
empty_unsigned = record { whole = []; fraction = []; parts = refl; whole_digits = refl; is_fraction = none refl; few = omega arith }

begins_bad : (byte : ℕ) (behind rest : List ℕ) → IsBadNumber byte behind rest → ¬ BeginsNone byte (behind ++ rest)
begins_bad byte behind rest (bad_plain is u) begins = begins Number [] (behind ++ rest) refl (plain is empty_unsigned)
begins_bad byte behind rest (bad_negative is digit u) begins = begins (SignShape Minus) [] (behind ++ rest) refl (rw is refl)

here_none : (byte : ℕ) (behind : List ℕ) (here : Next) → Here byte behind here → is_blank byte ≡ false → byte ≢ 59 → BeginsNone byte behind → here ≡ BadByte
here_none byte behind _ (here_blank is) no_blank no_comment begins = absurd (false≢true (sym no_blank ∙ is))
here_none byte behind _ (here_comment is) no_blank no_comment begins = absurd (no_comment is)
here_none byte behind _ (here_piece shape n has ends within) no_blank no_comment begins = absurd (begins shape (take n behind) (drop n behind) (sym (take-append-drop n behind)) has)
here_none byte behind _ here_bad_byte no_blank no_comment begins = refl
here_none byte behind _ (here_bad_number n bad within) no_blank no_comment begins =
    absurd (begins_bad byte (take n behind) (drop n behind) bad (subst (λ (bytes : List ℕ). BeginsNone byte bytes) (sym (take-append-drop n behind)) begins))

-- where no token begins a bad byte is read
pub none_bad : (byte : ℕ) (behind : List ℕ) → is_blank byte ≡ false → byte ≢ 59 → BeginsNone byte behind → next byte behind ≡ BadByte
none_bad byte behind no_blank no_comment begins = here_none byte behind (next byte behind) (here_next byte behind) no_blank no_comment begins

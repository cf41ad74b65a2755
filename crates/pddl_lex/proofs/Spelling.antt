-- A text that tokens spell is read as these tokens.
use Rattle.std.proofs.Common.{◌≡◌, ℕ, suc, ◌+◌, Bool, true, false, not, ◌&&◌, List, [], ◌∷◌, ◌++◌, length, drop, cond, subst, ◌∙◌, refl, ap, sym, append_assoc, length-append, arith}
use Rattle.std.specs.Prelude.{◌==◌, ◌||◌, ◌-◌, ◌≤◌, ◌<◌, min, nat_lt, if◌then◌else◌}
use Rattle.std.specs.List.{list_all}
use Rattle.std.proofs.lemmas.Bool.{and_parts, false≢true}
use Rattle.std.proofs.lemmas.Bool.Decides.{nat_tests}
use Rattle.std.proofs.Math.Seq.{take-append_seam}
use Rattle.std.proofs.lemmas.List.Sums.{take_while-cons}
use Rattle.pddl_lex.specs.declared.shape.Shape.{Shape}
use Rattle.pddl_lex.specs.declared.shape.Shape.TheVariants.{Open, Close, Word, Variable, Keyword, Number, Sign as SignShape}
use Rattle.pddl_lex.specs.declared.shape.Next.TheVariants.{Blank, Piece, BadByte, BadNumber}
use Rattle.pddl_lex.specs.declared.tree.Sign.TheVariants.{Minus, Plus, Times, Slash, Less, LessEqual, Same, GreaterEqual, Greater}
use Rattle.pddl_lex.specs.Bytes.{is_blank, is_letter, is_digit, is_name_byte, first, front_length}
use Rattle.pddl_lex.specs.Next.{next, sign, minus, sign_or, name_behind, number, fraction_length, with_point}
use Rattle.pddl_lex.specs.declared.tree.Sign.{Sign}
use Rattle.pddl_lex.proofs.Standing.{none_bad}
use Rattle.pddl_lex.specs.Items.{Item, items_from, items}
use Rattle.pddl_lex.specs.Places.{is_in_line, place_behind, after_byte}
use Rattle.pddl_lex.proofs.PlaceLemmas.{place_step, places_on, place_start}
use Rattle.pddl_lex.specs.Spells.{Stands, nothing, blank, comment, token, bad_byte, bad_number, stops, has_decimals, IsLongFraction, no_more, all_digits, IsWrong, too_long, too_many_places, followed, IsBadUnsigned, IsBadNumber, bad_plain, bad_negative, IsName, IsFraction, none, digits, IsUnsigned, plain, negative, HasShape, Ends}
use Rattle.pddl_lex.proofs.Lexing.{passed_over}

not_false : (b : Bool) → not b ≡ false → b ≡ true
not_false true h = refl
not_false false h = sym h

not_true : (b : Bool) → not b ≡ true → b ≡ false
not_true true h = sym h
not_true false h = refl

-- bytes that pass a test, before a text that stops it
pub front_stops : (test : ℕ → Bool) (bytes rest : List ℕ) → list_all test bytes ≡ true → stops test rest ≡ true → front_length test (bytes ++ rest) ≡ length bytes
front_stops test [] [] passes stop = refl
front_stops test [] (byte ∷ rest) passes stop =
    rw (take_while-cons test byte rest, not_true (test byte) stop) refl
front_stops test (byte ∷ bytes) rest passes stop =
    let (here, others) = and_parts (test byte) (list_all test bytes) passes in
    rw (take_while-cons test byte (bytes ++ rest), here) (ap suc (front_stops test bytes rest others stop))

pub drop_front : (bytes rest : List ℕ) → drop (length bytes) (bytes ++ rest) ≡ rest
drop_front [] rest = refl
drop_front (byte ∷ bytes) rest = drop_front bytes rest

letter_is_no_blank : (byte : ℕ) → is_letter byte ≡ true → is_blank byte ≡ false
letter_is_no_blank byte letter = grind (arith, nat_tests)

-- what stands at the first byte of a token's spelling
next_word : (byte : ℕ) (behind rest : List ℕ) → IsName (byte ∷ behind) → stops is_name_byte rest ≡ true → next byte (behind ++ rest) ≡ Piece Word (length behind)
unfolding next
next_word byte behind rest name ends =
    rw (letter_is_no_blank byte name.0, name.0, front_stops is_name_byte behind rest name.1 ends) refl

letter_in_name : (byte : ℕ) → is_letter byte ≡ true → is_name_byte byte ≡ true
letter_in_name byte letter = rw letter refl

both_true : {a b : Bool} → a ≡ true → b ≡ true → (a && b) ≡ true
both_true p q = rw (p, q) refl

-- a mark and a name
next_variable : (behind rest : List ℕ) → IsName behind → stops is_name_byte rest ≡ true → next 63 (behind ++ rest) ≡ Piece Variable (length behind)
unfolding next sign name_behind
next_variable [] rest name ends = absurd name
next_variable (byte ∷ behind) rest name ends =
    rw (front_stops is_name_byte (byte ∷ behind) rest (both_true (letter_in_name byte name.0) name.1) ends, name.0) refl

next_keyword : (behind rest : List ℕ) → IsName behind → stops is_name_byte rest ≡ true → next 58 (behind ++ rest) ≡ Piece Keyword (length behind)
unfolding next sign name_behind
next_keyword [] rest name ends = absurd name
next_keyword (byte ∷ behind) rest name ends =
    rw (front_stops is_name_byte (byte ∷ behind) rest (both_true (letter_in_name byte name.0) name.1) ends, name.0) refl

next_minus : (rest : List ℕ) → stops is_digit rest ≡ true → next 45 rest ≡ Piece (SignShape Minus) 0
unfolding next sign minus
next_minus [] ends = refl
next_minus (byte ∷ rest) ends = rw (not_true (is_digit byte) ends) refl

next_less : (rest : List ℕ) → stops (λ byte. byte == 61) rest ≡ true → next 60 rest ≡ Piece (SignShape Less) 0
unfolding next sign sign_or
next_less [] ends = refl
next_less (byte ∷ rest) ends = rw (not_true (byte == 61) ends) refl

next_greater : (rest : List ℕ) → stops (λ byte. byte == 61) rest ≡ true → next 62 rest ≡ Piece (SignShape Greater) 0
unfolding next sign sign_or
next_greater [] ends = refl
next_greater (byte ∷ rest) ends = rw (not_true (byte == 61) ends) refl

head_is : {x y : ℕ} {xs ys : List ℕ} → x ∷ xs ≡ y ∷ ys → x ≡ y
head_is e = cc

tail_is : {x y : ℕ} {xs ys : List ℕ} → x ∷ xs ≡ y ∷ ys → xs ≡ ys
tail_is e = cc

next_comment : (line rest : List ℕ) → list_all is_in_line line ≡ true → stops is_in_line rest ≡ true → next 59 (line ++ rest) ≡ Blank (length line)
unfolding next sign
next_comment line rest passes ends = rw (front_stops is_in_line line rest passes ends) refl

next_blank : (byte : ℕ) (rest : List ℕ) → is_blank byte ≡ true → next byte rest ≡ Blank 0
unfolding next
next_blank byte rest is = rw is refl

or_parts : (a b : Bool) → (a || b) ≡ false → (a ≡ false) × (b ≡ false)
or_parts true b h = absurd (false≢true (sym h))
or_parts false b h = (refl, h)

no_digit : (byte : ℕ) → is_name_byte byte ≡ false → is_digit byte ≡ false
no_digit byte other =
    let hyphen = (or_parts _ (byte == 95) other).0 in
    let named = (or_parts _ (byte == 45) hyphen).0 in
    (or_parts (is_letter byte) (is_digit byte) named).1

some_is_not_zero : (n : ℕ) → 1 ≤ n → (n == 0) ≡ false
some_is_not_zero n some = grind (arith, nat_tests)

not_above : (limit n : ℕ) → n ≤ limit → nat_lt limit n ≡ false
not_above limit n h = grind (arith, nat_tests)

count_is : (before whole fraction : ℕ) → before + whole + (fraction - 1) ≤ 18 → before + whole + (fraction - min fraction 1) ≤ 18
count_is before whole fraction few = omega arith

drop_both : (one two rest : List ℕ) → drop (length one + length two) (one ++ (two ++ rest)) ≡ rest
drop_both one two rest = rw (← length-append one two, ← append_assoc one two rest) (drop_front (one ++ two) rest)

stops_names : (rest : List ℕ) → stops (λ byte. is_name_byte byte || byte == 46) rest ≡ true → is_name_byte (first rest) ≡ false
stops_names [] stop = refl
stops_names (byte ∷ rest) stop = (or_parts (is_name_byte byte) (byte == 46) (not_true _ stop)).0

stops_points : (rest : List ℕ) → stops (λ byte. is_name_byte byte || byte == 46) rest ≡ true → (first rest == 46) ≡ false
stops_points [] stop = refl
stops_points (byte ∷ rest) stop = (or_parts (is_name_byte byte) (byte == 46) (not_true _ stop)).1

stops_digits : (rest : List ℕ) → is_name_byte (first rest) ≡ false → stops is_digit rest ≡ true
stops_digits [] other = refl
stops_digits (byte ∷ rest) other = rw (no_digit byte other) refl

pub stops_fraction : (fraction rest : List ℕ) → IsFraction fraction → stops is_digit rest ≡ true → stops is_digit (fraction ++ rest) ≡ true
stops_fraction fraction rest (none is) stop = rw is stop
stops_fraction fraction rest (digits behind is all some few) stop = rw is refl

no_point : (rest : List ℕ) → (first rest == 46) ≡ false → fraction_length rest ≡ 0
unfolding fraction_length
no_point [] other = refl
no_point (byte ∷ rest) other = rw other refl

read_fraction : (fraction rest : List ℕ) → IsFraction fraction → stops is_digit rest ≡ true → (first rest == 46) ≡ false → fraction_length (fraction ++ rest) ≡ length fraction
unfolding fraction_length
read_fraction fraction rest (none is) stop other = rw is (no_point rest other)
read_fraction fraction rest (digits behind is all some few) stop other =
    rw (is, front_stops is_digit behind rest all stop, some_is_not_zero (length behind) some) (omega arith)

few_fraction : (fraction : List ℕ) → IsFraction fraction → length fraction ≤ 10
few_fraction fraction (none is) = rw is (omega arith)
few_fraction fraction (digits behind is all some few) = rw is (omega arith)

read_number : (before : ℕ) (bytes rest : List ℕ) → IsUnsigned before bytes → stops (λ byte. is_name_byte byte || byte == 46) rest ≡ true
    → number before (bytes ++ rest) ≡ Piece Number (length bytes)
unfolding number
read_number before bytes rest u stop =
    let names = stops_names rest stop in
    let points = stops_points rest stop in
    let no_digits = stops_digits rest names in
    let split : bytes ++ rest ≡ u.whole ++ (u.fraction ++ rest) = rw u.parts (append_assoc u.whole u.fraction rest) in
    rw (
      split,
      front_stops is_digit u.whole (u.fraction ++ rest) u.whole_digits (stops_fraction u.fraction rest u.is_fraction no_digits),
      drop_front u.whole (u.fraction ++ rest),
      read_fraction u.fraction rest u.is_fraction no_digits points,
      drop_both u.whole u.fraction rest,
      names,
      points,
      not_above 18 _ (count_is before (length u.whole) (length u.fraction) u.few),
      not_above 10 _ (few_fraction u.fraction u.is_fraction),
      u.parts,
      length-append u.whole u.fraction,
    ) refl

digit_is_no_blank : (byte : ℕ) → is_digit byte ≡ true → is_blank byte ≡ false
digit_is_no_blank byte digit = grind (arith, nat_tests)

digit_is_no_letter : (byte : ℕ) → is_digit byte ≡ true → is_letter byte ≡ false
digit_is_no_letter byte digit = grind (arith, nat_tests)

-- what stands at the first byte of a token
next_token : (shape : Shape) (byte : ℕ) (behind rest : List ℕ) → HasShape shape byte behind → Ends shape rest
    → next byte (behind ++ rest) ≡ Piece shape (length behind)
unfolding next sign sign_or minus
next_token Open byte behind rest has ends = rw (head_is has, tail_is has) refl
next_token Close byte behind rest has ends = rw (head_is has, tail_is has) refl
next_token Word byte behind rest has ends = next_word byte behind rest has ends
next_token Variable byte behind rest has ends = rw has.0 (next_variable behind rest has.1 ends)
next_token Keyword byte behind rest has ends = rw has.0 (next_keyword behind rest has.1 ends)
next_token Number byte behind rest (plain digit u) ends =
    rw (digit_is_no_blank byte digit, digit_is_no_letter byte digit, digit) (read_number 1 behind rest u ends)
next_token Number byte behind rest (negative minus_is digit others is is_one u) ends =
    let front : first (behind ++ rest) ≡ digit = rw is refl in
    rw (minus_is, front, is_one) (read_number 0 behind rest u ends)
next_token (SignShape Minus) byte behind rest has ends = rw (head_is has, tail_is has) (next_minus rest ends)
next_token (SignShape Plus) byte behind rest has ends = rw (head_is has, tail_is has) refl
next_token (SignShape Times) byte behind rest has ends = rw (head_is has, tail_is has) refl
next_token (SignShape Slash) byte behind rest has ends = rw (head_is has, tail_is has) refl
next_token (SignShape Less) byte behind rest has ends = rw (head_is has, tail_is has) (next_less rest ends)
next_token (SignShape LessEqual) byte behind rest has ends = rw (head_is has, tail_is has) refl
next_token (SignShape Same) byte behind rest has ends = rw (head_is has, tail_is has) refl
next_token (SignShape GreaterEqual) byte behind rest has ends = rw (head_is has, tail_is has) refl
next_token (SignShape Greater) byte behind rest has ends = rw (head_is has, tail_is has) (next_greater rest ends)

-- a number that is none
no_fraction : (rest : List ℕ) → has_decimals rest ≡ false → fraction_length rest ≡ 0
unfolding fraction_length
no_fraction [] lacks = refl
no_fraction (byte ∷ []) lacks = let by_test : (b : Bool) → ◌≡◌ {A = ℕ} (cond b 0 0) 0 = elim [ true ↦ refl | false ↦ refl ] in by_test (byte == 46)
no_fraction (byte ∷ digit ∷ rest) lacks =
    let by_test : (b : Bool) → (b && is_digit digit) ≡ false → ◌≡◌ {A = ℕ} (cond b (with_point (front_length is_digit (digit ∷ rest))) 0) 0 = elim [
      | true ↦ λ is. rw (take_while-cons is_digit digit rest, is) refl
      | false ↦ λ is. refl
    ] in
    by_test (byte == 46) lacks

read_long_fraction : (fraction rest : List ℕ) → IsLongFraction fraction rest → fraction_length (fraction ++ rest) ≡ length fraction
unfolding fraction_length
read_long_fraction fraction rest (no_more is lacks) = rw is (no_fraction rest lacks)
read_long_fraction fraction rest (all_digits behind is all some stop) =
    rw (is, front_stops is_digit behind rest all stop, some_is_not_zero (length behind) some) (omega arith)

or_left : {a : Bool} (b : Bool) → a ≡ true → (a || b) ≡ true
or_left b is = rw is refl

or_right : (a : Bool) {b : Bool} → b ≡ true → (a || b) ≡ true
or_right true is = refl
or_right false is = is

is_above : (limit n : ℕ) → limit < n → nat_lt limit n ≡ true
is_above limit n h = grind (arith, nat_tests)

followed_first : (test : ℕ → Bool) (rest : List ℕ) → stops test rest ≡ false → test (first rest) ≡ true
followed_first test [] is = absurd (false≢true (sym is))
followed_first test (byte ∷ rest) is = not_false (test byte) is

is_wrong : (before whole fraction : ℕ) (rest : List ℕ) → IsWrong (before + whole + (fraction - 1)) (fraction - 1) rest
    → (is_name_byte (first rest) || first rest == 46 || nat_lt 18 (before + whole + (fraction - min fraction 1)) || nat_lt 10 fraction) ≡ true
is_wrong before whole fraction rest (too_long more) =
    or_left (nat_lt 10 fraction) (or_right (is_name_byte (first rest) || first rest == 46) (is_above 18 _ (omega (arith, more))))
is_wrong before whole fraction rest (too_many_places more) = or_right _ (is_above 10 fraction (omega (arith, more)))
is_wrong before whole fraction rest (followed is) =
    or_left (nat_lt 10 fraction) (or_left (nat_lt 18 (before + whole + (fraction - min fraction 1))) (followed_first (λ byte. is_name_byte byte || byte == 46) rest is))

bad_unsigned : (before : ℕ) (bytes rest : List ℕ) → IsBadUnsigned before bytes rest → number before (bytes ++ rest) ≡ BadNumber (length bytes)
unfolding number
bad_unsigned before bytes rest u =
    let split : bytes ++ rest ≡ u.whole ++ (u.fraction ++ rest) = rw u.parts (append_assoc u.whole u.fraction rest) in
    rw (
      split,
      front_stops is_digit u.whole (u.fraction ++ rest) u.whole_digits u.whole_stops,
      drop_front u.whole (u.fraction ++ rest),
      read_long_fraction u.fraction rest u.is_fraction,
      drop_both u.whole u.fraction rest,
      is_wrong before (length u.whole) (length u.fraction) rest u.wrong,
      u.parts,
      length-append u.whole u.fraction,
    ) refl

next_bad : (byte : ℕ) (behind rest : List ℕ) → IsBadNumber byte behind rest → next byte (behind ++ rest) ≡ BadNumber (length behind)
unfolding next sign minus
next_bad byte behind rest (bad_plain digit u) =
    rw (digit_is_no_blank byte digit, digit_is_no_letter byte digit, digit) (bad_unsigned 1 behind rest u)
next_bad byte behind rest (bad_negative minus_is digit u) = rw (minus_is, digit) (bad_unsigned 0 behind rest u)

-- at the first byte of a token no bad byte is read
number_not_bad : (before : ℕ) (bytes : List ℕ) → ¬ (number before bytes ≡ BadByte)
unfolding number
number_not_bad before bytes =
    let either : (b : Bool) (n m : ℕ) → ¬ ((if b then BadNumber n else Piece Number m) ≡ BadByte) = elim [ true ↦ λ n m e. cc | false ↦ λ n m e. cc ] in
    either _ _ _

minus_not_bad : (rest : List ℕ) → ¬ (next 45 rest ≡ BadByte)
unfolding next sign minus
minus_not_bad rest =
    let either : (b : Bool) → ¬ ((if b then number 0 rest else Piece (SignShape Minus) 0) ≡ BadByte) = elim [ true ↦ λ e. number_not_bad 0 rest e | false ↦ λ e. cc ] in
    either (is_digit (first rest))

sign_not_bad : (one two : Sign) (rest : List ℕ) → ¬ (sign_or one two rest ≡ BadByte)
unfolding sign_or
sign_not_bad one two rest =
    let either : (b : Bool) → ¬ ((if b then Piece (SignShape two) 1 else Piece (SignShape one) 0) ≡ BadByte) = elim [ true ↦ λ e. cc | false ↦ λ e. cc ] in
    either (first rest == 61)

pub begun : (shape : Shape) (byte : ℕ) (behind rest : List ℕ) → HasShape shape byte behind → ¬ (next byte (behind ++ rest) ≡ BadByte)
unfolding next sign name_behind
begun Open byte behind rest has bad = let is : next byte (behind ++ rest) ≡ Piece Open 0 = rw (head_is has) refl in cc
begun Close byte behind rest has bad = let is : next byte (behind ++ rest) ≡ Piece Close 0 = rw (head_is has) refl in cc
begun Word byte behind rest has bad =
    let is : next byte (behind ++ rest) ≡ Piece Word (front_length is_name_byte (behind ++ rest)) = rw (letter_is_no_blank byte has.0, has.0) refl in cc
begun Variable byte [] rest has bad = absurd has.1
begun Variable byte (letter ∷ behind) rest has bad =
    let is : next byte ((letter ∷ behind) ++ rest) ≡ Piece Variable (front_length is_name_byte ((letter ∷ behind) ++ rest)) = rw (has.0, has.1.0) refl in cc
begun Keyword byte [] rest has bad = absurd has.1
begun Keyword byte (letter ∷ behind) rest has bad =
    let is : next byte ((letter ∷ behind) ++ rest) ≡ Piece Keyword (front_length is_name_byte ((letter ∷ behind) ++ rest)) = rw (has.0, has.1.0) refl in cc
begun Number byte behind rest (plain digit u) bad =
    let is : next byte (behind ++ rest) ≡ number 1 (behind ++ rest) = rw (digit_is_no_blank byte digit, digit_is_no_letter byte digit, digit) refl in
    number_not_bad 1 (behind ++ rest) (sym is ∙ bad)
begun Number byte behind rest (negative minus_is digit others is is_one u) bad =
    minus_not_bad (behind ++ rest) (subst (λ (b : ℕ). next b (behind ++ rest) ≡ BadByte) minus_is bad)
begun (SignShape Minus) byte behind rest has bad =
    minus_not_bad (behind ++ rest) (subst (λ (b : ℕ). next b (behind ++ rest) ≡ BadByte) (head_is has) bad)
begun (SignShape Plus) byte behind rest has bad = let is : next byte (behind ++ rest) ≡ Piece (SignShape Plus) 0 = rw (head_is has) refl in cc
begun (SignShape Times) byte behind rest has bad = let is : next byte (behind ++ rest) ≡ Piece (SignShape Times) 0 = rw (head_is has) refl in cc
begun (SignShape Slash) byte behind rest has bad = let is : next byte (behind ++ rest) ≡ Piece (SignShape Slash) 0 = rw (head_is has) refl in cc
begun (SignShape Less) byte behind rest has bad =
    let is : next byte (behind ++ rest) ≡ sign_or Less LessEqual (behind ++ rest) = rw (head_is has) refl in sign_not_bad Less LessEqual (behind ++ rest) (sym is ∙ bad)
begun (SignShape LessEqual) byte behind rest has bad =
    let is : next byte (behind ++ rest) ≡ sign_or Less LessEqual (behind ++ rest) = rw (head_is has) refl in sign_not_bad Less LessEqual (behind ++ rest) (sym is ∙ bad)
begun (SignShape Same) byte behind rest has bad = let is : next byte (behind ++ rest) ≡ Piece (SignShape Same) 0 = rw (head_is has) refl in cc
begun (SignShape GreaterEqual) byte behind rest has bad =
    let is : next byte (behind ++ rest) ≡ sign_or Greater GreaterEqual (behind ++ rest) = rw (head_is has) refl in sign_not_bad Greater GreaterEqual (behind ++ rest) (sym is ∙ bad)
begun (SignShape Greater) byte behind rest has bad =
    let is : next byte (behind ++ rest) ≡ sign_or Greater GreaterEqual (behind ++ rest) = rw (head_is has) refl in sign_not_bad Greater GreaterEqual (behind ++ rest) (sym is ∙ bad)

-- what stands in a text is what is read there
pub stands_read : (before text : List ℕ) (all : List Item) → Stands before text all → items_from text 0 (place_behind before) ≡ all
stands_read _ _ _ (nothing before) = refl
stands_read _ _ _ (blank before byte rest all is stands) =
    rw (next_blank byte rest is, place_step before byte, stands_read _ rest all stands) refl
stands_read _ _ _ (comment before line rest all passes ends stands) =
    rw (
      next_comment line rest passes ends,
      passed_over (line ++ rest) (length line) (after_byte (place_behind before) 59),
      drop_front line rest,
      take-append_seam line rest,
      places_on before 59 line,
      stands_read _ rest all stands,
    ) refl
stands_read _ _ _ (token before shape byte behind rest all has ends stands) =
    rw (
      next_token shape byte behind rest has ends,
      passed_over (behind ++ rest) (length behind) (after_byte (place_behind before) byte),
      drop_front behind rest,
      take-append_seam behind rest,
      places_on before byte behind,
      stands_read _ rest all stands,
    ) refl
stands_read _ _ _ (bad_byte before byte rest all no_blank no_comment begins stands) =
    rw (none_bad byte rest no_blank no_comment begins, place_step before byte, stands_read _ rest all stands) refl
stands_read _ _ _ (bad_number before byte behind rest all bad stands) =
    rw (
      next_bad byte behind rest bad,
      passed_over (behind ++ rest) (length behind) (after_byte (place_behind before) byte),
      drop_front behind rest,
      take-append_seam behind rest,
      places_on before byte behind,
      stands_read _ rest all stands,
    ) refl

pub stands_whole : (text : List ℕ) (all : List Item) → Stands [] text all → items text ≡ all
unfolding items
stands_whole text all stands = rw (← place_start) (stands_read [] text all stands)

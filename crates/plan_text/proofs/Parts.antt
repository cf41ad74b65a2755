-- What a line is made of where it is read.
use Rattle.std.proofs.Common.{◌≡◌, ℕ, zero, suc, ◌+◌, ◌≤◌, Bool, true, false, not, ◌&&◌, List, [], ◌∷◌, ◌++◌, length, drop, refl, ap, sym, ◌∙◌, subst, append_assoc, append-nil, length-append, arith, cond}
use Rattle.std.specs.Prelude.{Option, Some, None, Result, Ok, Err, ◌==◌, ◌||◌, take_while, if◌then◌else◌}
use Rattle.std.specs.List.{list_all}
use Rattle.std.proofs.lemmas.Bool.{and_parts, false≢true}
use Rattle.std.proofs.lemmas.Bool.Decides.{nat_tests}
use Rattle.std.proofs.lemmas.List.Sums.{take_while-cons}
use Rattle.up_text.specs.Names.{name_of, folded}
use Rattle.up_tree.specs.declared.problem.Step.{Step}
use Rattle.plan_text.specs.Bytes.{is_blank, is_digit, is_name_byte, first, behind, front_length}
use Rattle.plan_text.specs.Steps as read
use Rattle.plan_text.specs.Spells.{AreBlanks, AreDigits, IsNumber, whole, decimal, IsLabel, no_label, label, IsCost, no_cost, cost, IsWord, AreWords, no_words, words, IsStep, Has, blank, step}
use Rattle.plan_text.proofs.Fronts.{stops, chosen, other, take_length}
use Rattle.plan_text.proofs.Spelled.{past_rest, past_more}
use Rattle.plan_text.proofs.Wording.{words_at}

same_byte : (one two : ℕ) → (one == two) ≡ true → one ≡ two
same_byte one two is = grind (arith, nat_tests)

-- the bytes in front that pass a test, and those behind them
pub front_parts : (test : ℕ → Bool) (bytes : List ℕ) → bytes ≡ take_while test bytes ++ behind test bytes
front_parts test [] = refl
front_parts test (byte ∷ rest) =
    let by_test : (b : Bool) → test byte ≡ b → byte ∷ rest ≡ take_while test (byte ∷ rest) ++ behind test (byte ∷ rest) = elim [
      | true ↦ λ is. rw (take_while-cons test byte rest, is) (ap (λ (left : List ℕ). byte ∷ left) (front_parts test rest))
      | false ↦ λ is. rw (take_while-cons test byte rest, is) refl
    ] in
    by_test (test byte) refl

pub front_passes : (test : ℕ → Bool) (bytes : List ℕ) → list_all test (take_while test bytes) ≡ true
front_passes test [] = refl
front_passes test (byte ∷ rest) =
    let by_test : (b : Bool) → test byte ≡ b → list_all test (take_while test (byte ∷ rest)) ≡ true = elim [
      | true ↦ λ is. rw (take_while-cons test byte rest, is, is) (front_passes test rest)
      | false ↦ λ is. rw (take_while-cons test byte rest, is) refl
    ] in
    by_test (test byte) refl

pub behind_stops : (test : ℕ → Bool) (bytes : List ℕ) → stops test (behind test bytes) ≡ true
behind_stops test [] = refl
behind_stops test (byte ∷ rest) =
    let by_test : (b : Bool) → test byte ≡ b → stops test (behind test (byte ∷ rest)) ≡ true = elim [
      | true ↦ λ is. rw (take_while-cons test byte rest, is) (behind_stops test rest)
      | false ↦ λ is. rw (take_while-cons test byte rest, is, is) refl
    ] in
    by_test (test byte) refl

-- one part was read, and then another
record Both {A B : Type 0} (part : read.Part A) (go : A → read.Part B) (value : B) : Type 0 where
  middle : A
  first_is : part ≡ Ok middle
  then_is : go middle ≡ Ok value

both_read : {A B : Type 0} (part : read.Part A) (go : A → read.Part B) (value : B) → read.and_then part go ≡ Ok value → Both part go value
both_read (Ok middle) go value is = record { middle = middle; first_is = refl; then_is = is }
both_read (Err fault) go value is = absurd cc

-- a byte and blanks
record Past (byte : ℕ) (line rest : List ℕ) : Type 0 where
  blanks : List ℕ
  are : AreBlanks blanks
  parts : line ≡ byte ∷ (blanks ++ rest)

past_read : (byte : ℕ) (line rest : List ℕ) → read.past byte line ≡ Ok rest → Past byte line rest
past_read byte [] rest is = absurd cc
past_read byte (next ∷ tail) rest is =
    let by_test : (b : Bool) → (next == byte) ≡ b → Past byte (next ∷ tail) rest = elim [
      | true ↦ λ same.
          let found : Ok (behind is_blank tail) ≡ Ok rest = sym (chosen (next == byte) (Ok (behind is_blank tail)) (read.stuck (next ∷ tail)) same) ∙ is in
          let left : behind is_blank tail ≡ rest = cc in
          let byte_is : next ≡ byte = same_byte next byte same in
          record {
            blanks = take_while is_blank tail;
            are = front_passes is_blank tail;
            parts = ap (λ (front : ℕ). front ∷ tail) byte_is
                ∙ ap (λ (bytes : List ℕ). byte ∷ bytes) (front_parts is_blank tail ∙ ap (λ (bytes : List ℕ). take_while is_blank tail ++ bytes) left);
          }
      | false ↦ λ differs.
          let none : read.stuck (next ∷ tail) ≡ Ok rest = sym (other (next == byte) (Ok (behind is_blank tail)) (read.stuck (next ∷ tail)) differs) ∙ is in
          absurd cc
    ] in
    by_test (next == byte) refl

record Digits (line rest : List ℕ) : Type 0 where
  digits : List ℕ
  are : AreDigits digits
  parts : line ≡ digits ++ rest

digit_behind : (byte : ℕ) (tail : List ℕ) → is_digit byte ≡ true → behind is_digit (byte ∷ tail) ≡ behind is_digit tail
digit_behind byte tail is = rw (take_while-cons is_digit byte tail, is) refl

digits_read : (line rest : List ℕ) → read.past_digits line ≡ Ok rest → Digits line rest
digits_read [] rest is = absurd cc
digits_read (byte ∷ tail) rest is =
    let by_test : (b : Bool) → is_digit byte ≡ b → Digits (byte ∷ tail) rest = elim [
      | true ↦ λ here.
          let found : Ok (behind is_digit (byte ∷ tail)) ≡ Ok rest = sym (chosen (is_digit byte) (Ok (behind is_digit (byte ∷ tail))) (read.stuck (byte ∷ tail)) here) ∙ is in
          let left : behind is_digit (byte ∷ tail) ≡ rest = cc in
          record {
            digits = byte ∷ take_while is_digit tail;
            are = rw here (front_passes is_digit tail);
            parts = ap (λ (bytes : List ℕ). byte ∷ bytes) (front_parts is_digit tail ∙ ap (λ (bytes : List ℕ). take_while is_digit tail ++ bytes) (sym (digit_behind byte tail here) ∙ left));
          }
      | false ↦ λ differs.
          let none : read.stuck (byte ∷ tail) ≡ Ok rest = sym (other (is_digit byte) (Ok (behind is_digit (byte ∷ tail))) (read.stuck (byte ∷ tail)) differs) ∙ is in
          absurd cc
    ] in
    by_test (is_digit byte) refl

-- a point and digits, or nothing
data Fraction (line rest : List ℕ) : Type 0 where
  nothing : line ≡ rest → Fraction line rest
  point : (decimals : List ℕ) → AreDigits decimals → line ≡ 46 ∷ (decimals ++ rest) → Fraction line rest

fraction_read : (line rest : List ℕ) → read.past_fraction line ≡ Ok rest → Fraction line rest
fraction_read [] rest is = nothing cc
fraction_read (byte ∷ tail) rest is =
    let by_test : (b : Bool) → (byte == 46) ≡ b → Fraction (byte ∷ tail) rest = elim [
      | true ↦ λ here.
          let d = digits_read tail rest (sym (chosen (byte == 46) (read.past_digits tail) (Ok (byte ∷ tail)) here) ∙ is) in
          point d.digits d.are (ap (λ (front : ℕ). front ∷ tail) (same_byte byte 46 here) ∙ ap (λ (bytes : List ℕ). 46 ∷ bytes) d.parts)
      | false ↦ λ differs.
          let same : Ok (byte ∷ tail) ≡ Ok rest = sym (other (byte == 46) (read.past_digits tail) (Ok (byte ∷ tail)) differs) ∙ is in
          nothing cc
    ] in
    by_test (byte == 46) refl

-- a number and blanks
record Number (line rest : List ℕ) : Type 0 where
  number : List ℕ
  blanks : List ℕ
  is : IsNumber number
  are : AreBlanks blanks
  parts : line ≡ number ++ (blanks ++ rest)

number_parts : (line middle rest digits blanks : List ℕ) → line ≡ digits ++ middle → AreDigits digits → AreBlanks blanks → Fraction middle (blanks ++ rest) → Number line rest
number_parts line middle rest digits blanks parts are blanks_are (nothing same) = record {
  number = digits;
  blanks = blanks;
  is = whole are;
  are = blanks_are;
  parts = parts ∙ ap (λ (bytes : List ℕ). digits ++ bytes) same;
}
number_parts line middle rest digits blanks parts are blanks_are (point decimals more same) = record {
  number = digits ++ 46 ∷ decimals;
  blanks = blanks;
  is = decimal digits decimals refl are more;
  are = blanks_are;
  parts = parts ∙ ap (λ (bytes : List ℕ). digits ++ bytes) same ∙ sym (append_assoc digits (46 ∷ decimals) (blanks ++ rest));
}

number_read : (line rest : List ℕ) → read.past_number line ≡ Ok rest → Number line rest
number_read line rest is =
    let one = both_read (read.past_digits line) past_more rest is in
    let two = both_read (read.past_fraction one.middle) past_rest rest one.then_is in
    let d = digits_read line one.middle one.first_is in
    let found : Ok (behind is_blank two.middle) ≡ Ok rest = two.then_is in
    let left : behind is_blank two.middle ≡ rest = cc in
    let blanks : List ℕ = take_while is_blank two.middle in
    let middle_is : two.middle ≡ blanks ++ rest = front_parts is_blank two.middle ∙ ap (λ (bytes : List ℕ). blanks ++ bytes) left in
    number_parts line one.middle rest d.digits blanks d.parts d.are (front_passes is_blank two.middle)
    (subst (λ (bytes : List ℕ). Fraction one.middle bytes) middle_is (fraction_read one.middle two.middle two.first_is))

record Label (line rest : List ℕ) : Type 0 where
  label : List ℕ
  is : IsLabel label
  parts : line ≡ label ++ rest

label_read : (line rest : List ℕ) → read.past_label line ≡ Ok rest → Label line rest
label_read line rest is =
    let by_test : (b : Bool) → is_digit (first line) ≡ b → Label line rest = elim [
      | true ↦ λ here.
          let one = both_read (read.past_number line) (read.past 58) rest
          (sym (chosen (is_digit (first line)) (read.and_then (read.past_number line) (read.past 58)) (Ok line) here) ∙ is) in
          let n = number_read line one.middle one.first_is in
          let p = past_read 58 one.middle rest one.then_is in
          record {
            label = n.number ++ (n.blanks ++ 58 ∷ p.blanks);
            is = label n.number n.blanks p.blanks refl n.is n.are p.are;
            parts = n.parts ∙ ap (λ (bytes : List ℕ). n.number ++ (n.blanks ++ bytes)) p.parts
                ∙ ap (λ (bytes : List ℕ). n.number ++ bytes) (sym (append_assoc n.blanks (58 ∷ p.blanks) rest))
                ∙ sym (append_assoc n.number (n.blanks ++ 58 ∷ p.blanks) rest);
          }
      | false ↦ λ differs.
          let same : Ok line ≡ Ok rest = sym (other (is_digit (first line)) (read.and_then (read.past_number line) (read.past 58)) (Ok line) differs) ∙ is in
          record { label = []; is = no_label refl; parts = cc }
    ] in
    by_test (is_digit (first line)) refl

record Cost (line rest : List ℕ) : Type 0 where
  cost : List ℕ
  is : IsCost cost
  parts : line ≡ cost ++ rest

cost_parts : (inside number before after rest : List ℕ)
    → inside ++ (number ++ (before ++ 93 ∷ (after ++ rest))) ≡ (inside ++ (number ++ (before ++ 93 ∷ after))) ++ rest
cost_parts inside number before after rest = sym (
    append_assoc inside (number ++ (before ++ 93 ∷ after)) rest
    ∙ ap (λ (bytes : List ℕ). inside ++ bytes) (
    append_assoc number (before ++ 93 ∷ after) rest ∙ ap (λ (bytes : List ℕ). number ++ bytes) (append_assoc before (93 ∷ after) rest)))

cost_read : (line rest : List ℕ) → read.past_cost line ≡ Ok rest → Cost line rest
cost_read [] rest is = record { cost = []; is = no_cost refl; parts = cc }
cost_read (byte ∷ tail) rest is =
    let by_test : (b : Bool) → (byte == 91) ≡ b → Cost (byte ∷ tail) rest = elim [
      | true ↦ λ here.
          let one = both_read (read.past_number (behind is_blank tail)) (read.past 93) rest
          (sym (chosen (byte == 91) (read.and_then (read.past_number (behind is_blank tail)) (read.past 93)) (Ok (byte ∷ tail)) here) ∙ is) in
          let n = number_read (behind is_blank tail) one.middle one.first_is in
          let p = past_read 93 one.middle rest one.then_is in
          let inside : List ℕ = take_while is_blank tail in
          record {
            cost = 91 ∷ (inside ++ (n.number ++ (n.blanks ++ 93 ∷ p.blanks)));
            is = cost inside n.number n.blanks p.blanks refl (front_passes is_blank tail) n.is n.are p.are;
            parts = ap (λ (front : ℕ). front ∷ tail) (same_byte byte 91 here)
                ∙ ap (λ (bytes : List ℕ). 91 ∷ bytes) (front_parts is_blank tail
                ∙ ap (λ (bytes : List ℕ). inside ++ bytes) (n.parts ∙ ap (λ (bytes : List ℕ). n.number ++ (n.blanks ++ bytes)) p.parts)
                ∙ cost_parts inside n.number n.blanks p.blanks rest);
          }
      | false ↦ λ differs.
          let same : Ok (byte ∷ tail) ≡ Ok rest = sym (other (byte == 91) (read.and_then (read.past_number (behind is_blank tail)) (read.past 93)) (Ok (byte ∷ tail)) differs) ∙ is in
          record { cost = []; is = no_cost refl; parts = cc }
    ] in
    by_test (byte == 91) refl

record OneWord (line : List ℕ) (w : read.Word) : Type 0 where
  bytes : List ℕ
  tail : List ℕ
  is : IsWord bytes w.name
  stop : stops is_name_byte tail ≡ true
  left_is : w.left ≡ behind is_blank tail
  parts : line ≡ bytes ++ tail

word_read : (line : List ℕ) (w : read.Word) → read.word line ≡ Ok w → OneWord line w
word_read line w is =
    let bytes : List ℕ = take_while is_name_byte line in
    let tail : List ℕ = behind is_name_byte line in
    let by_name : (found : Option (List ℕ)) → name_of (folded bytes) ≡ found → OneWord line w = elim [
      | None ↦ λ none.
          let no_word : read.stuck line ≡ Ok w = ap (λ (found : Option (List ℕ)). read.word_of found line) (sym none) ∙ is in
          absurd cc
      | Some name ↦ λ some.
          let same : Ok (record { name = name; left = behind is_blank tail }) ≡ Ok w = ap (λ (found : Option (List ℕ)). read.word_of found line) (sym some) ∙ is in
          let whole_is : record { name = name; left = behind is_blank tail } ≡ w = cc in
          record {
            bytes = bytes;
            tail = tail;
            is = record { of_name = front_passes is_name_byte line; named = some ∙ ap (λ (v : read.Word). Some v.name) whole_is };
            stop = behind_stops is_name_byte line;
            left_is = ap (λ (v : read.Word). v.left) (sym whole_is);
            parts = front_parts is_name_byte line;
          }
    ] in
    by_name (name_of (folded bytes)) refl

-- words behind a word, and blanks
record Row (text : List ℕ) (made : read.Words) : Type 0 where
  args : List ℕ
  before : List ℕ
  are : AreWords args made.names
  blanks_are : AreBlanks before
  parts : text ≡ args ++ (before ++ made.left)

-- no more words
row_end : (text rest : List ℕ) (made : read.Words) → behind is_blank text ≡ rest → read.no_words rest ≡ Ok made → Row text made
row_end text rest made left is =
    let same : record { names = []; left = rest } ≡ made = cc in
    subst (λ (w : read.Words). Row text w) same (record {
      args = [];
      before = take_while is_blank text;
      are = no_words;
      blanks_are = front_passes is_blank text;
      parts = front_parts is_blank text ∙ ap (λ (bytes : List ℕ). take_while is_blank text ++ bytes) left;
    })

-- a word more in front, behind blanks
row_front : (text blanks word tail name : List ℕ) (made : read.Words) → text ≡ blanks ++ (word ++ tail) → AreBlanks blanks
    → stops is_name_byte text ≡ true → IsWord word name → Row tail made → Row text (record { names = name ∷ made.names; left = made.left })
row_front text [] [] tail name made is are stop w row = let none : None ≡ Some name = w.named in absurd cc
row_front text [] (byte ∷ word) tail name made is are stop w row =
    let (here, others) = and_parts (is_name_byte byte) (list_all is_name_byte word) w.of_name in
    let no_stop : stops is_name_byte text ≡ false = ap (stops is_name_byte) is ∙ ap not here in
    absurd (false≢true (sym no_stop ∙ stop))
row_front text (one ∷ blanks) word tail name made is are stop w row = record {
  args = one ∷ (blanks ++ (word ++ row.args));
  before = row.before;
  are = words one blanks word row.args name made.names are w row.are;
  blanks_are = row.blanks_are;
  parts = is ∙ ap (λ (bytes : List ℕ). one ∷ (blanks ++ (word ++ bytes))) row.parts
      ∙ ap (λ (bytes : List ℕ). one ∷ bytes) (
      ap (λ (bytes : List ℕ). blanks ++ bytes) (sym (append_assoc word row.args (row.before ++ made.left)))
      ∙ sym (append_assoc blanks (word ++ row.args) (row.before ++ made.left)));
}

pub drop_length : (n : ℕ) (bytes : List ℕ) → length (drop n bytes) ≤ length bytes
drop_length zero bytes = omega arith
drop_length (suc n) [] = omega arith
drop_length (suc n) (byte ∷ bytes) = let less = drop_length n bytes in omega (arith, less)

name_left : (byte : ℕ) (tail : List ℕ) → is_name_byte byte ≡ true → behind is_name_byte (byte ∷ tail) ≡ behind is_name_byte tail
name_left byte tail is = rw (take_while-cons is_name_byte byte tail, is) refl

-- behind a word less is left
left_less : (n byte : ℕ) (text tail : List ℕ) → length text ≤ suc n → behind is_blank text ≡ byte ∷ tail → is_name_byte byte ≡ true
    → length (behind is_name_byte (byte ∷ tail)) ≤ n
left_less n byte text tail few left here =
    let one : length (byte ∷ tail) ≤ length text = subst (λ (bytes : List ℕ). length bytes ≤ length text) left (drop_length (front_length is_blank text) text) in
    let two : length (behind is_name_byte tail) ≤ length tail = drop_length (front_length is_name_byte tail) tail in
    rw (name_left byte tail here) (omega (arith, one, two, few))

no_less : (byte : ℕ) (text tail : List ℕ) → length text ≤ 0 → behind is_blank text ≡ byte ∷ tail → ⊥
no_less byte text tail few left =
    let one : length (byte ∷ tail) ≤ length text = subst (λ (bytes : List ℕ). length bytes ≤ length text) left (drop_length (front_length is_blank text) text) in
    omega (arith, one, few)

row_name : (text rest word tail : List ℕ) (found : Option (List ℕ)) (made : read.Words) → text ≡ take_while is_blank text ++ (word ++ tail)
    → stops is_name_byte text ≡ true → list_all is_name_byte word ≡ true → name_of (folded word) ≡ found
    → read.with_name found rest (read.words (behind is_blank tail)) ≡ Ok made
    → ((more : read.Words) → read.words (behind is_blank tail) ≡ Ok more → Row tail more) → Row text made
row_name text rest word tail None made parts stop all named is go = absurd cc
row_name text rest word tail (Some name) made parts stop all named is go =
    let both = both_read (read.words (behind is_blank tail)) (read.add_name name) made is in
    let found : Ok (record { names = name ∷ both.middle.names; left = both.middle.left }) ≡ Ok made = both.then_is in
    let same : record { names = name ∷ both.middle.names; left = both.middle.left } ≡ made = cc in
    subst (λ (w : read.Words). Row text w) same
    (row_front text (take_while is_blank text) word tail name both.middle parts (front_passes is_blank text) stop (record { of_name = all; named = named })
    (go both.middle both.first_is))

row_word : (text : List ℕ) (byte : ℕ) (tail : List ℕ) (made : read.Words) → behind is_blank text ≡ byte ∷ tail → is_name_byte byte ≡ true
    → stops is_name_byte text ≡ true → read.words (byte ∷ tail) ≡ Ok made
    → ((more : read.Words) → read.words (behind is_blank (behind is_name_byte (byte ∷ tail))) ≡ Ok more → Row (behind is_name_byte (byte ∷ tail)) more)
    → Row text made
row_word text byte tail made left here stop is go =
    row_name text (byte ∷ tail) (take_while is_name_byte (byte ∷ tail)) (behind is_name_byte (byte ∷ tail))
    (name_of (folded (take_while is_name_byte (byte ∷ tail)))) made
    (front_parts is_blank text ∙ ap (λ (bytes : List ℕ). take_while is_blank text ++ bytes) (left ∙ front_parts is_name_byte (byte ∷ tail)))
    stop (front_passes is_name_byte (byte ∷ tail)) refl (sym (words_at byte tail here) ∙ is) go

words_stop : (byte : ℕ) (tail : List ℕ) → is_name_byte byte ≡ false → read.words (byte ∷ tail) ≡ read.no_words (byte ∷ tail)
words_stop byte tail differs = rw differs refl

-- the row in front of a text that begins behind a word
row_left : (text : List ℕ) (made : read.Words) → stops is_name_byte text ≡ true
    → ((byte : ℕ) (tail : List ℕ) → behind is_blank text ≡ byte ∷ tail → is_name_byte byte ≡ true → (more : read.Words)
    → read.words (behind is_blank (behind is_name_byte (byte ∷ tail))) ≡ Ok more → Row (behind is_name_byte (byte ∷ tail)) more)
    → (rest : List ℕ) → behind is_blank text ≡ rest → read.words rest ≡ Ok made → Row text made
row_left text made stop go [] left is = row_end text [] made left is
row_left text made stop go (byte ∷ tail) left is =
    let by_test : (b : Bool) → is_name_byte byte ≡ b → Row text made = elim [
      | true ↦ λ here. row_word text byte tail made left here stop is (go byte tail left here)
      | false ↦ λ differs. row_end text (byte ∷ tail) made left (sym (words_stop byte tail differs) ∙ is)
    ] in
    by_test (is_name_byte byte) refl

row_read : (n : ℕ) (text : List ℕ) (made : read.Words) → length text ≤ n → stops is_name_byte text ≡ true
    → read.words (behind is_blank text) ≡ Ok made → Row text made
row_read zero text made few stop is =
    row_left text made stop (λ byte tail left here more found. absurd (no_less byte text tail few left)) (behind is_blank text) refl is
row_read (suc n) text made few stop is =
    row_left text made stop (λ byte tail left here more found.
    row_read n (behind is_name_byte (byte ∷ tail)) more (left_less n byte text tail few left here) (behind_stops is_name_byte (byte ∷ tail)) found)
    (behind is_blank text) refl is

ended_read : (here made : Step) (line : List ℕ) → read.ended here line ≡ Ok made → (line ≡ []) × (here ≡ made)
ended_read here made [] is = (refl, cc)
ended_read here made (byte ∷ line) is = absurd cc

-- the end of a line, behind the names of its step
record End (line : List ℕ) : Type 0 where
  after : List ℕ
  cost : List ℕ
  are : AreBlanks after
  is : IsCost cost
  parts : line ≡ 41 ∷ (after ++ cost)

closed_read : (here made : Step) (line : List ℕ) → read.closed here line ≡ Ok made → End line × (here ≡ made)
closed_read here made line is =
    let one = both_read (read.past 41 line) (λ rest. read.and_then (read.past_cost rest) (read.ended here)) made is in
    let two = both_read (read.past_cost one.middle) (read.ended here) made one.then_is in
    let p = past_read 41 line one.middle one.first_is in
    let c = cost_read one.middle two.middle two.first_is in
    let (none, same) = ended_read here made two.middle two.then_is in (
      record {
        after = p.blanks;
        cost = c.cost;
        are = p.are;
        is = c.is;
        parts = p.parts ∙ ap (λ (bytes : List ℕ). 41 ∷ (p.blanks ++ bytes)) (c.parts ∙ ap (λ (bytes : List ℕ). c.cost ++ bytes) none ∙ append-nil c.cost);
      },
      same,
    )

-- the step behind `(`
record Inside (line : List ℕ) (made : Step) : Type 0 where
  action : List ℕ
  args : List ℕ
  before : List ℕ
  after : List ℕ
  cost : List ℕ
  parts : line ≡ action ++ (args ++ (before ++ 41 ∷ (after ++ cost)))
  is_action : IsWord action made.action
  are_args : AreWords args made.args
  before_blanks : AreBlanks before
  after_blanks : AreBlanks after
  is_cost : IsCost cost

inside_read : (line : List ℕ) (w : read.Word) (made : Step) → OneWord line w → read.with_action w ≡ Ok made → Inside line made
inside_read line w made o is =
    let one = both_read (read.words w.left) (λ args. read.closed (record { action = w.name; args = args.names }) args.left) made is in
    let words_are : read.words (behind is_blank o.tail) ≡ Ok one.middle = ap read.words (sym o.left_is) ∙ one.first_is in
    let row = row_read (length o.tail) o.tail one.middle (omega arith) o.stop words_are in
    let (end, same) = closed_read (record { action = w.name; args = one.middle.names }) made one.middle.left one.then_is in
    subst (λ (s : Step). Inside line s) same (record {
      action = o.bytes;
      args = row.args;
      before = row.before;
      after = end.after;
      cost = end.cost;
      parts = o.parts ∙ ap (λ (bytes : List ℕ). o.bytes ++ bytes) (row.parts ∙ ap (λ (bytes : List ℕ). row.args ++ (row.before ++ bytes)) end.parts);
      is_action = o.is;
      are_args = row.are;
      before_blanks = row.blanks_are;
      after_blanks = end.are;
      is_cost = end.is;
    })

step_read : (line : List ℕ) (made : Step) → read.step line ≡ Ok made → IsStep line made
step_read line made is =
    let one = both_read (read.past_label line) (λ rest. read.and_then (read.past 40 rest) (λ inside. read.and_then (read.word inside) read.with_action)) made is in
    let two = both_read (read.past 40 one.middle) (λ inside. read.and_then (read.word inside) read.with_action) made one.then_is in
    let three = both_read (read.word two.middle) read.with_action made two.then_is in
    let l = label_read line one.middle one.first_is in
    let p = past_read 40 one.middle two.middle two.first_is in
    let i = inside_read two.middle three.middle made (word_read two.middle three.middle three.first_is) three.then_is in
    record {
      label = l.label;
      inside = p.blanks;
      action = i.action;
      args = i.args;
      before = i.before;
      after = i.after;
      cost = i.cost;
      parts = l.parts ∙ ap (λ (bytes : List ℕ). l.label ++ bytes) (p.parts ∙ ap (λ (bytes : List ℕ). 40 ∷ (p.blanks ++ bytes)) i.parts);
      is_label = l.is;
      inside_blanks = p.are;
      is_action = i.is_action;
      are_args = i.are_args;
      before_blanks = i.before_blanks;
      after_blanks = i.after_blanks;
      is_cost = i.is_cost;
    }

has_read : (text rest : List ℕ) (found : Option Step) → behind is_blank text ≡ rest → read.some_step rest ≡ Ok found → Has text found
has_read text [] found left is =
    let none : None ≡ found = cc in
    let all : take_while is_blank text ≡ text = sym (front_parts is_blank text ∙ ap (λ (bytes : List ℕ). take_while is_blank text ++ bytes) left ∙ append-nil (take_while is_blank text)) in
    let are : AreBlanks text = subst AreBlanks all (front_passes is_blank text) in
    subst (Has text) none (blank are)
has_read text (byte ∷ tail) found left is =
    let one = both_read (read.step (byte ∷ tail)) (λ s. Ok (Some s)) found is in
    let some : Ok (Some one.middle) ≡ Ok found = one.then_is in
    let same : Some one.middle ≡ found = cc in
    subst (Has text) same (step (take_while is_blank text) (byte ∷ tail) one.middle
    (front_parts is_blank text ∙ ap (λ (bytes : List ℕ). take_while is_blank text ++ bytes) left)
    (front_passes is_blank text) (step_read (byte ∷ tail) one.middle one.first_is))

-- what is read of a line's text stands there
pub line_read : (text : List ℕ) (found : Option Step) → read.line_step text ≡ Ok found → Has text found
line_read text found is = has_read text (behind is_blank text) found refl is

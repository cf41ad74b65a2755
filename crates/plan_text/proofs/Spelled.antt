-- A text that spells steps is read as these steps.
use Rattle.std.proofs.Common.{◌≡◌, ℕ, Bool, true, false, not, List, [], ◌∷◌, ◌++◌, refl, ap, sym, ◌∙◌, subst, append_assoc, append-nil, arith}
use Rattle.std.specs.Prelude.{Option, Some, None, Result, Ok, Err, option_to_list, ◌==◌, ◌+◌, take_while, take, length, if◌then◌else◌}
use Rattle.std.specs.List.{list_all}
use Rattle.std.proofs.lemmas.Bool.{and_parts, false≢true}
use Rattle.std.proofs.lemmas.Bool.Decides.{nat_tests}
use Rattle.up_text.specs.Names.{name_of, folded}
use Rattle.up_tree.specs.declared.problem.Step.{Step}
use Rattle.plan_text.specs.Bytes.{is_blank, is_digit, is_name_byte, first, behind}
use Rattle.plan_text.specs.Lines.{lines, content, is_in_line, is_before_comment, without_return}
use Rattle.plan_text.specs.Steps as read
use Rattle.plan_text.specs.declared.error.PlanTextError.{PlanTextError}
use Rattle.plan_text.specs.Texts.{cut, placed, found_in, with_found, steps_from, steps_of}
use Rattle.plan_text.specs.Spells.{AreBlanks, AreDigits, IsNumber, whole, decimal, IsLabel, no_label, label, IsCost, no_cost, cost, IsWord, AreWords, no_words, words, IsStep, Has, blank, step, IsComment, no_comment, comment, IsLine, SpellsSteps, last, line}
use Rattle.plan_text.proofs.Fronts.{stops, take_front, behind_front, behind_all, stops_on, chosen, other, take_length}
use Rattle.plan_text.proofs.Splitting.{feed_line, one_line}
use Rattle.plan_text.proofs.Wording.{words_at}

blank_no_digit : (byte : ℕ) → is_blank byte ≡ true → is_digit byte ≡ false
blank_no_digit byte is = grind (arith, nat_tests)

blank_no_name : (byte : ℕ) → is_blank byte ≡ true → is_name_byte byte ≡ false
blank_no_name byte is = grind (arith, nat_tests)

name_no_blank : (byte : ℕ) → is_name_byte byte ≡ true → is_blank byte ≡ false
name_no_blank byte is = grind (arith, nat_tests)

digit_no_blank : (byte : ℕ) → is_digit byte ≡ true → is_blank byte ≡ false
digit_no_blank byte is = grind (arith, nat_tests)

blank_no_point : (byte : ℕ) → is_blank byte ≡ true → (byte == 46) ≡ false
blank_no_point byte is = grind (arith, nat_tests)

-- a byte and blanks behind it
past_byte : (byte : ℕ) (blanks rest : List ℕ) → (byte == byte) ≡ true → AreBlanks blanks → stops is_blank rest ≡ true → read.past byte (byte ∷ (blanks ++ rest)) ≡ Ok rest
past_byte byte blanks rest same are stop = rw same (ap (λ (left : List ℕ). Ok left) (behind_front is_blank blanks rest are stop))

past_digits : (digits rest : List ℕ) → AreDigits digits → stops is_digit rest ≡ true → read.past_digits (digits ++ rest) ≡ Ok rest
past_digits [] rest are stop = absurd are
past_digits (byte ∷ digits) rest are stop =
    let (here, others) = and_parts (is_digit byte) (list_all is_digit digits) are in
    chosen (is_digit byte) (Ok (behind is_digit ((byte ∷ digits) ++ rest))) (read.stuck ((byte ∷ digits) ++ rest)) here
    ∙ ap (λ (left : List ℕ). Ok left) (behind_front is_digit (byte ∷ digits) rest are stop)

-- a byte that ends a number and blanks behind it
record Ends (byte : ℕ) : Type 0 where
  digit : is_digit byte ≡ false
  point : (byte == 46) ≡ false
  blank : is_blank byte ≡ false

no_fraction : (blanks : List ℕ) (byte : ℕ) (rest : List ℕ) → AreBlanks blanks → Ends byte → read.past_fraction (blanks ++ byte ∷ rest) ≡ Ok (blanks ++ byte ∷ rest)
no_fraction [] byte rest are ends = other (byte == 46) (read.past_digits rest) (Ok (byte ∷ rest)) ends.point
no_fraction (one ∷ blanks) byte rest are ends =
    let (here, others) = and_parts (is_blank one) (list_all is_blank blanks) are in
    other (one == 46) (read.past_digits (blanks ++ byte ∷ rest)) (Ok (one ∷ (blanks ++ byte ∷ rest))) (blank_no_point one here)

ends_digits : (blanks : List ℕ) (byte : ℕ) (rest : List ℕ) → AreBlanks blanks → Ends byte → stops is_digit (blanks ++ byte ∷ rest) ≡ true
ends_digits blanks byte rest are ends = stops_on is_blank is_digit blanks (byte ∷ rest) blank_no_digit are (rw ends.digit refl)

ends_blanks : (blanks : List ℕ) (byte : ℕ) (rest : List ℕ) → AreBlanks blanks → Ends byte → behind is_blank (blanks ++ byte ∷ rest) ≡ byte ∷ rest
ends_blanks blanks byte rest are ends = behind_front is_blank blanks (byte ∷ rest) are (rw ends.blank refl)

then_ok : {A B : Type 0} (part : read.Part A) (go : A → read.Part B) (value : A) → part ≡ Ok value → read.and_then part go ≡ go value
then_ok part go value is = ap (λ (p : read.Part _). read.and_then p go) is

-- what follows digits in a number, and blanks
abbrev pub past_rest : List ℕ → read.Part (List ℕ)
past_rest rest = Ok (behind is_blank rest)

abbrev pub past_more : List ℕ → read.Part (List ℕ)
past_more fraction = read.and_then (read.past_fraction fraction) past_rest

past_number : (number blanks : List ℕ) (byte : ℕ) (rest : List ℕ) → IsNumber number → AreBlanks blanks → Ends byte
    → read.past_number (number ++ (blanks ++ byte ∷ rest)) ≡ Ok (byte ∷ rest)
past_number number blanks byte rest (whole digits) are ends =
    let tail : List ℕ = blanks ++ byte ∷ rest in
    then_ok (read.past_digits (number ++ tail)) past_more tail (past_digits number tail digits (ends_digits blanks byte rest are ends))
    ∙ then_ok (read.past_fraction tail) past_rest tail (no_fraction blanks byte rest are ends)
    ∙ ap (λ (left : List ℕ). Ok left) (ends_blanks blanks byte rest are ends)
past_number number blanks byte rest (decimal digits decimals is first_digits last_digits) are ends =
    let tail : List ℕ = blanks ++ byte ∷ rest in
    ap (λ (front : List ℕ). read.past_number (front ++ tail)) is
    ∙ ap (λ (line : List ℕ). read.past_number line) (append_assoc digits (46 ∷ decimals) tail)
    ∙ then_ok (read.past_digits (digits ++ 46 ∷ (decimals ++ tail))) past_more (46 ∷ (decimals ++ tail)) (past_digits digits (46 ∷ (decimals ++ tail)) first_digits refl)
    ∙ then_ok (read.past_digits (decimals ++ tail)) past_rest tail (past_digits decimals tail last_digits (ends_digits blanks byte rest are ends))
    ∙ ap (λ (left : List ℕ). Ok left) (ends_blanks blanks byte rest are ends)

digits_first : (digits rest : List ℕ) → AreDigits digits → is_digit (first (digits ++ rest)) ≡ true
digits_first [] rest are = absurd are
digits_first (byte ∷ digits) rest are = let (here, others) = and_parts (is_digit byte) (list_all is_digit digits) are in here

number_first : (number rest : List ℕ) → IsNumber number → is_digit (first (number ++ rest)) ≡ true
number_first number rest (whole are) = digits_first number rest are
number_first number rest (decimal digits decimals is are more) =
    ap (λ (front : List ℕ). is_digit (first (front ++ rest))) is
    ∙ ap (λ (line : List ℕ). is_digit (first line)) (append_assoc digits (46 ∷ decimals) rest)
    ∙ digits_first digits (46 ∷ (decimals ++ rest)) are

digit_stops : (bytes : List ℕ) → is_digit (first bytes) ≡ true → stops is_blank bytes ≡ true
digit_stops [] is = refl
digit_stops (byte ∷ bytes) is = rw (digit_no_blank byte is) refl

label_parts : (number before after rest : List ℕ)
    → (number ++ (before ++ 58 ∷ after)) ++ 40 ∷ rest ≡ number ++ (before ++ 58 ∷ (after ++ 40 ∷ rest))
label_parts number before after rest =
    append_assoc number (before ++ 58 ∷ after) (40 ∷ rest) ∙ ap (λ (line : List ℕ). number ++ line) (append_assoc before (58 ∷ after) (40 ∷ rest))

past_label : (label rest : List ℕ) → IsLabel label → read.past_label (label ++ 40 ∷ rest) ≡ Ok (40 ∷ rest)
past_label front rest (no_label is) = ap (λ (text : List ℕ). read.past_label (text ++ 40 ∷ rest)) is
past_label front rest (label number before after is num before_blanks after_blanks) =
    let line : List ℕ = number ++ (before ++ 58 ∷ (after ++ 40 ∷ rest)) in
    ap (λ (text : List ℕ). read.past_label (text ++ 40 ∷ rest)) is
    ∙ ap (λ (text : List ℕ). read.past_label text) (label_parts number before after rest)
    ∙ chosen (is_digit (first line)) (read.and_then (read.past_number line) (read.past 58)) (Ok line) (number_first number (before ++ 58 ∷ (after ++ 40 ∷ rest)) num)
    ∙ then_ok (read.past_number line) (read.past 58) (58 ∷ (after ++ 40 ∷ rest))
    (past_number number before 58 (after ++ 40 ∷ rest) num before_blanks (record { digit = refl; point = refl; blank = refl }))
    ∙ past_byte 58 after (40 ∷ rest) refl after_blanks refl

label_stops : (label rest : List ℕ) → IsLabel label → stops is_blank (label ++ 40 ∷ rest) ≡ true
label_stops front rest (no_label is) = ap (λ (text : List ℕ). stops is_blank (text ++ 40 ∷ rest)) is
label_stops front rest (label number before after is num before_blanks after_blanks) =
    ap (λ (text : List ℕ). stops is_blank (text ++ 40 ∷ rest)) is
    ∙ ap (stops is_blank) (label_parts number before after rest)
    ∙ digit_stops (number ++ (before ++ 58 ∷ (after ++ 40 ∷ rest))) (number_first number (before ++ 58 ∷ (after ++ 40 ∷ rest)) num)

past_cost : (bytes : List ℕ) → IsCost bytes → read.past_cost bytes ≡ Ok []
past_cost bytes (no_cost is) = ap read.past_cost is
past_cost bytes (cost inside number before after is inside_blanks num before_blanks after_blanks) =
    let line : List ℕ = number ++ (before ++ 93 ∷ after) in
    ap read.past_cost is
    ∙ ap (λ (left : List ℕ). read.and_then (read.past_number left) (read.past 93))
    (behind_front is_blank inside line inside_blanks (digit_stops line (number_first number (before ++ 93 ∷ after) num)))
    ∙ then_ok (read.past_number line) (read.past 93) (93 ∷ after)
    (past_number number before 93 after num before_blanks (record { digit = refl; point = refl; blank = refl }))
    ∙ ap (λ (left : List ℕ). Ok left) (behind_all is_blank after after_blanks)

cost_stops : (bytes : List ℕ) → IsCost bytes → stops is_blank bytes ≡ true
cost_stops bytes (no_cost is) = ap (stops is_blank) is
cost_stops bytes (cost inside number before after is inside_blanks num before_blanks after_blanks) = ap (stops is_blank) is

word_stops : (bytes name rest : List ℕ) → IsWord bytes name → stops is_blank (bytes ++ rest) ≡ true
word_stops [] name rest w = let none : None ≡ Some name = w.named in absurd cc
word_stops (byte ∷ bytes) name rest w =
    let (here, others) = and_parts (is_name_byte byte) (list_all is_name_byte bytes) w.of_name in
    rw (name_no_blank byte here) refl

one_word : (bytes name rest : List ℕ) → IsWord bytes name → stops is_name_byte rest ≡ true
    → read.word (bytes ++ rest) ≡ Ok (record { name = name; left = behind is_blank rest })
one_word bytes name rest w stop =
    ap (λ (front : List ℕ). read.word_of (name_of (folded front)) (bytes ++ rest)) (take_front is_name_byte bytes rest w.of_name stop)
    ∙ ap (λ (found : Option (List ℕ)). read.word_of found (bytes ++ rest)) w.named
    ∙ ap (λ (left : List ℕ). Ok (record { name = name; left = behind is_blank left })) (behind_front is_name_byte bytes rest w.of_name stop)

next_word : (bytes name rest : List ℕ) → IsWord bytes name → stops is_name_byte rest ≡ true
    → read.words (bytes ++ rest) ≡ read.and_then (read.words (behind is_blank rest)) (read.add_name name)
next_word [] name rest w stop = let none : None ≡ Some name = w.named in absurd cc
next_word (byte ∷ bytes) name rest w stop =
    let (here, others) = and_parts (is_name_byte byte) (list_all is_name_byte bytes) w.of_name in
    let line : List ℕ = (byte ∷ bytes) ++ rest in
    words_at byte (bytes ++ rest) here
    ∙ ap (λ (front : List ℕ). read.with_name (name_of (folded front)) line (read.words (behind is_blank (behind is_name_byte line))))
    (take_front is_name_byte (byte ∷ bytes) rest w.of_name stop)
    ∙ ap (λ (found : Option (List ℕ)). read.with_name found line (read.words (behind is_blank (behind is_name_byte line)))) w.named
    ∙ ap (λ (left : List ℕ). read.and_then (read.words (behind is_blank left)) (read.add_name name))
    (behind_front is_name_byte (byte ∷ bytes) rest w.of_name stop)

args_stop : (args : List ℕ) (names : List (List ℕ)) (before rest : List ℕ) → AreWords args names → AreBlanks before
    → stops is_name_byte (args ++ (before ++ 41 ∷ rest)) ≡ true
args_stop _ _ before rest no_words are = stops_on is_blank is_name_byte before (41 ∷ rest) blank_no_name are refl
args_stop _ _ before rest (words one blanks word more name names blanks_are w others) are =
    let (here, behind_here) = and_parts (is_blank one) (list_all is_blank blanks) blanks_are in
    rw (blank_no_name one here) refl

all_words : (args : List ℕ) (names : List (List ℕ)) → AreWords args names → (before rest : List ℕ) → AreBlanks before
    → read.words (behind is_blank (args ++ (before ++ 41 ∷ rest))) ≡ Ok (record { names = names; left = 41 ∷ rest })
all_words _ _ no_words before rest are = ap read.words (behind_front is_blank before (41 ∷ rest) are refl)
all_words _ _ (words one blanks word more name names blanks_are w others) before rest are =
    let tail : List ℕ = more ++ (before ++ 41 ∷ rest) in
    let parts : (blanks ++ (word ++ more)) ++ (before ++ 41 ∷ rest) ≡ blanks ++ (word ++ tail) =
    append_assoc blanks (word ++ more) (before ++ 41 ∷ rest) ∙ ap (λ (line : List ℕ). blanks ++ line) (append_assoc word more (before ++ 41 ∷ rest)) in
    ap (λ (line : List ℕ). read.words (behind is_blank (one ∷ line))) parts
    ∙ ap read.words (behind_front is_blank (one ∷ blanks) (word ++ tail) blanks_are (word_stops word name tail w))
    ∙ next_word word name tail w (args_stop more names before rest others are)
    ∙ ap (λ (read_on : read.Part read.Words). read.and_then read_on (read.add_name name)) (all_words more names others before rest are)

closed : (made : Step) (after end : List ℕ) → AreBlanks after → IsCost end → read.closed made (41 ∷ (after ++ end)) ≡ Ok made
closed made after end are is =
    then_ok (read.past 41 (41 ∷ (after ++ end))) (λ rest. read.and_then (read.past_cost rest) (read.ended made)) end
    (past_byte 41 after end refl are (cost_stops end is))
    ∙ then_ok (read.past_cost end) (read.ended made) [] (past_cost end is)

one_step : (bytes : List ℕ) (made : Step) → IsStep bytes made → read.step bytes ≡ Ok made
one_step bytes made s =
    let end : List ℕ = 41 ∷ (s.after ++ s.cost) in
    let tail : List ℕ = s.args ++ (s.before ++ end) in
    let inner : List ℕ = s.inside ++ (s.action ++ tail) in
    ap read.step s.parts
    ∙ then_ok (read.past_label (s.label ++ 40 ∷ inner)) (λ rest. read.and_then (read.past 40 rest) (λ inside. read.and_then (read.word inside) read.with_action)) (40 ∷ inner)
    (past_label s.label inner s.is_label)
    ∙ then_ok (read.past 40 (40 ∷ inner)) (λ inside. read.and_then (read.word inside) read.with_action) (s.action ++ tail)
    (past_byte 40 s.inside (s.action ++ tail) refl s.inside_blanks (word_stops s.action made.action tail s.is_action))
    ∙ then_ok (read.word (s.action ++ tail)) read.with_action (record { name = made.action; left = behind is_blank tail })
    (one_word s.action made.action tail s.is_action (args_stop s.args made.args s.before (s.after ++ s.cost) s.are_args s.before_blanks))
    ∙ then_ok (read.words (behind is_blank tail)) (λ args. read.closed (record { action = made.action; args = args.names }) args.left)
    (record { names = made.args; left = end })
    (all_words s.args made.args s.are_args s.before (s.after ++ s.cost) s.before_blanks)
    ∙ closed made s.after s.cost s.after_blanks s.is_cost

some_step : (text : List ℕ) (made : Step) → read.step text ≡ Ok made → read.some_step text ≡ Ok (Some made)
some_step [] made is = absurd cc
some_step (byte ∷ text) made is = then_ok (read.step (byte ∷ text)) (λ s. Ok (Some s)) made is

step_stops : (text : List ℕ) (made : Step) → IsStep text made → stops is_blank text ≡ true
step_stops text made s = ap (stops is_blank) s.parts ∙ label_stops s.label _ s.is_label

one_line_step : (text : List ℕ) (found : Option Step) → Has text found → read.line_step text ≡ Ok found
one_line_step text _ (blank are) = ap read.some_step (behind_all is_blank text are)
one_line_step text _ (step blanks rest made is are s) =
    ap read.line_step is
    ∙ ap read.some_step (behind_front is_blank blanks rest are (step_stops rest made s))
    ∙ some_step rest made (one_step rest made s)

comment_stops : (bytes : List ℕ) → IsComment bytes → stops is_before_comment bytes ≡ true
comment_stops bytes (no_comment is) = ap (stops is_before_comment) is
comment_stops bytes (comment rest is) = ap (stops is_before_comment) is

line_found : (number : ℕ) (bytes : List ℕ) (found : Option Step) → IsLine bytes found → found_in number bytes ≡ Ok found
line_found number bytes found l =
    let is : content bytes ≡ l.text =
    ap content l.parts ∙ take_front is_before_comment l.text l.comment l.before_comment (comment_stops l.comment l.is_comment) in
    ap (λ (text : List ℕ). placed number text (read.line_step text)) is
    ∙ ap (placed number l.text) (one_line_step l.text found l.has)

feed_end : (bytes rest : List ℕ) → list_all is_in_line bytes ≡ true → lines (bytes ++ 10 ∷ rest) ≡ without_return bytes ∷ lines rest
feed_end bytes rest all =
    feed_line (bytes ++ 10 ∷ rest) 10 rest (behind_front is_in_line bytes (10 ∷ rest) all refl)
    ∙ ap (λ (front : List ℕ). without_return (take (length front) (bytes ++ 10 ∷ rest)) ∷ lines rest) (take_front is_in_line bytes (10 ∷ rest) all refl)
    ∙ ap (λ (front : List ℕ). without_return front ∷ lines rest) (take_length bytes (10 ∷ rest))

whole_line : (byte : ℕ) (rest : List ℕ) → list_all is_in_line (byte ∷ rest) ≡ true → lines (byte ∷ rest) ≡ (byte ∷ rest) ∷ []
whole_line byte rest all =
    let same : (byte ∷ rest) ++ [] ≡ byte ∷ rest = append-nil (byte ∷ rest) in
    let front : take_while is_in_line (byte ∷ rest) ≡ byte ∷ rest =
    ap (take_while is_in_line) (sym same) ∙ take_front is_in_line (byte ∷ rest) [] all refl in
    one_line byte rest (behind_all is_in_line (byte ∷ rest) all)
    ∙ ap (λ (all_of : List ℕ). take (length all_of) (byte ∷ rest) ∷ []) front
    ∙ ap (λ (all_of : List ℕ). all_of ∷ []) (ap (take (length (byte ∷ rest))) (sym same) ∙ take_length (byte ∷ rest) [])

with_more : (found : Option Step) (steps : List Step) → with_found (Ok found) (Ok steps) ≡ Ok (option_to_list found ++ steps)
with_more None steps = refl
with_more (Some made) steps = refl

last_steps : (number : ℕ) (bytes : List ℕ) (found : Option Step) → list_all is_in_line bytes ≡ true → IsLine bytes found
    → steps_from number (lines bytes) ≡ Ok (option_to_list found)
last_steps number [] found all l =
    let none : None ≡ found = let is : Ok None ≡ Ok found = line_found number [] found l in cc in
    ap (λ (found : Option Step). Ok (option_to_list found)) none
last_steps number (byte ∷ bytes) found all l =
    ap (steps_from number) (whole_line byte bytes all)
    ∙ ap (λ (here : Result (Option Step) PlanTextError). with_found here (Ok [])) (line_found number (byte ∷ bytes) found l)
    ∙ with_more found [] ∙ ap (λ (steps : List Step). Ok steps) (append-nil (option_to_list found))

steps_read : (text : List ℕ) (steps : List Step) → SpellsSteps text steps → (number : ℕ) → steps_from number (lines text) ≡ Ok steps
steps_read text _ (last bytes found all l) number = last_steps number bytes found all l
steps_read _ _ (line bytes rest found steps all l more) number =
    ap (steps_from number) (feed_end bytes rest all)
    ∙ ap (λ (here : Result (Option Step) PlanTextError). with_found here (steps_from (cut (number + 1)) (lines rest))) (line_found number (without_return bytes) found l)
    ∙ ap (with_found (Ok found)) (steps_read rest steps more (cut (number + 1)))
    ∙ with_more found steps

pub spelled_read : (text : List ℕ) (steps : List Step) → SpellsSteps text steps → steps_of text ≡ Ok steps
unfolding steps_of
spelled_read text steps spelled = steps_read text steps spelled 1

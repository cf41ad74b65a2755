-- One more name of a line.
use Rattle.std.proofs.Common.{◌≡◌, ℕ, zero, suc, ◌+◌, Bool, true, false, List, [], ◌∷◌, ◌++◌, take, drop, length, refl, ap, sym, ◌∙◌, append_assoc, append-nil, arith, zero-add}
use Rattle.std.specs.Prelude.{Option, Some, None, Ok, Err, take_while}
use Rattle.std.proofs.lemmas.List.Sums.{take_while-cons}
use Rattle.std.proofs.lemmas.Bool.{false≢true}
use Rattle.up_text.specs.Names.{name_of, folded}
use Rattle.plan_text.specs.declared.line_fault.LineFault.{LineFault}
use Rattle.plan_text.specs.Bytes.{front_length, first, behind, is_blank, is_name_byte}
use Rattle.plan_text.specs.Steps.{Part, Word, Words, word, word_of, words, words_from, word_length, with_name, no_words, and_then}

abbrev pub names_before : List (List ℕ) → Words → Part Words
names_before names words = Ok (record { names = names ++ words.names; left = words.left })

-- names behind others
abbrev pub before : List (List ℕ) → Part Words → Part Words
before names more = and_then more (names_before names)

-- bytes that belong to what stands before are passed over
pub passed_over : (line : List ℕ) (more : ℕ) → words_from line more ≡ words_from (drop more line) 0
passed_over line zero = refl
passed_over [] (suc more) = refl
passed_over (byte ∷ rest) (suc more) = passed_over rest more

drop_nothing : (n : ℕ) → drop {A = ℕ} n [] ≡ []
drop_nothing zero = refl
drop_nothing (suc n) = refl

drop_sum : (one two : ℕ) (bytes : List ℕ) → drop (one + two) bytes ≡ drop two (drop one bytes)
drop_sum zero two bytes = rw zero-add refl
drop_sum (suc one) two [] = let here : suc one + two ≡ suc (one + two) = omega arith in rw here (sym (drop_nothing two))
drop_sum (suc one) two (byte ∷ bytes) = let here : suc one + two ≡ suc (one + two) = omega arith in rw here (drop_sum one two bytes)

-- behind the name at this byte
name_behind : (byte : ℕ) (rest : List ℕ) → is_name_byte byte ≡ true → behind is_name_byte (byte ∷ rest) ≡ behind is_name_byte rest
name_behind byte rest is = rw (take_while-cons is_name_byte byte rest, is) refl

words_then : (byte : ℕ) (rest : List ℕ) → is_name_byte byte ≡ true
    → words (byte ∷ rest) ≡ with_name (name_of (folded (take_while is_name_byte (byte ∷ rest)))) (byte ∷ rest) (words_from rest (word_length rest))
words_then byte rest is = rw is refl

words_left : (byte : ℕ) (rest : List ℕ) → is_name_byte byte ≡ true
    → words_from rest (word_length rest) ≡ words (behind is_blank (behind is_name_byte (byte ∷ rest)))
words_left byte rest is =
    passed_over rest (word_length rest)
    ∙ ap (λ (left : List ℕ). words left) (drop_sum (front_length is_name_byte rest) (front_length is_blank (behind is_name_byte rest)) rest
    ∙ ap (λ (left : List ℕ). behind is_blank left) (sym (name_behind byte rest is)))

pub words_at : (byte : ℕ) (rest : List ℕ) → is_name_byte byte ≡ true
    → words (byte ∷ rest) ≡ with_name (name_of (folded (take_while is_name_byte (byte ∷ rest)))) (byte ∷ rest) (words (behind is_blank (behind is_name_byte (byte ∷ rest))))
words_at byte rest is =
    words_then byte rest is
    ∙ ap (with_name (name_of (folded (take_while is_name_byte (byte ∷ rest)))) (byte ∷ rest)) (words_left byte rest is)

before_both : (names : List (List ℕ)) (name : List ℕ) (more : Part Words) → before names (before (name ∷ []) more) ≡ before (names ++ name ∷ []) more
before_both names name (Ok words) = rw (append_assoc names (name ∷ []) words.names) refl
before_both names name (Err fault) = refl

-- the name in front, and those behind it
with_word : (found : Option (List ℕ)) (line : List ℕ) (read : Word) → word_of found line ≡ Ok read
    → with_name found line (words (behind is_blank (behind is_name_byte line))) ≡ before (read.name ∷ []) (words read.left)
with_word None line read is = absurd cc
with_word (Some name) line read is =
    let same : record { name = name; left = behind is_blank (behind is_name_byte line) } ≡ read = cc in
    ap (λ (w : Word). before (w.name ∷ []) (words w.left)) same

words_more : (line : List ℕ) (read : Word) → is_name_byte (first line) ≡ true → word line ≡ Ok read → words line ≡ before (read.name ∷ []) (words read.left)
words_more [] read starts is = absurd (false≢true starts)
words_more (byte ∷ rest) read starts is =
    words_at byte rest starts ∙ with_word (name_of (folded (take_while is_name_byte (byte ∷ rest)))) (byte ∷ rest) read is

-- the names so far stay in front of the others
pub words_step : (whole : Part Words) (names later : List (List ℕ)) (line : List ℕ) (read : Word)
    → whole ≡ before names (words line) → is_name_byte (first line) ≡ true → word line ≡ Ok read → later ≡ names ++ read.name ∷ []
    → whole ≡ before later (words read.left)
words_step whole names later line read is starts found added =
    is ∙ ap (before names) (words_more line read starts found) ∙ before_both names read.name (words read.left)
    ∙ ap (λ (all : List (List ℕ)). before all (words read.left)) (sym added)

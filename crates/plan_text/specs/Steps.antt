-- The step of a line, or how much of the line is left where it can't go on.
use Rattle.std.specs.Prelude.{ℕ, zero, suc, ◌+◌, ◌==◌, List, [], ◌∷◌, length, take_while, Option, Some, None, Result, Ok, Err, if◌then◌else◌}
use Rattle.up_text.specs.Names.{name_of, folded}
use Rattle.up_tree.specs.declared.problem.Step.{Step}
use Rattle.plan_text.specs.declared.line_fault.LineFault.{LineFault}
use Rattle.plan_text.specs.declared.line_fault.LineFault.TheVariants.{Stuck}
use Rattle.plan_text.specs.Bytes.{is_blank, is_digit, is_name_byte, first, front_length, behind}

-- a part of a line, or the fault
abbrev pub Part : Type 0 → Type 0
Part A = Result A LineFault

-- the line can't go on at what is left of it
abbrev pub stuck : {A : Type 0} → List ℕ → Part A
stuck left = Err (Stuck (length left))

-- one part and then another
abbrev pub and_then : {A B : Type 0} → Part A → (A → Part B) → Part B
and_then (Ok part) go = go part
and_then (Err fault) go = Err fault

-- behind this byte, and the blanks behind it
abbrev pub past : ℕ → List ℕ → Part (List ℕ)
past byte [] = stuck []
past byte (other ∷ rest) = if other == byte then Ok (behind is_blank rest) else stuck (other ∷ rest)

-- behind at least one digit
abbrev pub past_digits : List ℕ → Part (List ℕ)
past_digits line = if is_digit (first line) then Ok (behind is_digit line) else stuck line

-- behind a point and digits, if there is a point
abbrev pub past_fraction : List ℕ → Part (List ℕ)
past_fraction [] = Ok []
past_fraction (byte ∷ rest) = if byte == 46 then past_digits rest else Ok (byte ∷ rest)

-- behind a number, and the blanks behind it
abbrev pub past_number : List ℕ → Part (List ℕ)
past_number line = and_then (past_digits line) (λ fraction. and_then (past_fraction fraction) (λ rest. Ok (behind is_blank rest)))

-- behind a number and `:`, if there is a number
abbrev pub past_label : List ℕ → Part (List ℕ)
past_label line = if is_digit (first line) then and_then (past_number line) (past 58) else Ok line

-- behind `[`, a number and `]`, if there is a `[`
abbrev pub past_cost : List ℕ → Part (List ℕ)
past_cost [] = Ok []
past_cost (byte ∷ rest) = if byte == 91 then and_then (past_number (behind is_blank rest)) (past 93) else Ok (byte ∷ rest)

-- a name and what is left of the line behind it and blanks
pub record Word : Type 0 where
  pub name : List ℕ
  pub left : List ℕ

-- names and what is left of the line behind them and blanks
pub record Words : Type 0 where
  pub names : List (List ℕ)
  pub left : List ℕ

abbrev pub word_of : Option (List ℕ) → List ℕ → Part Word
word_of (Some name) line = Ok (record { name = name; left = behind is_blank (behind is_name_byte line) })
word_of None line = stuck line

-- the name in front of a line: as many bytes of names as stand there, folded, if these are a name
abbrev pub word : List ℕ → Part Word
word line = word_of (name_of (folded (take_while is_name_byte line))) line

abbrev pub add_name : List ℕ → Words → Part Words
add_name name words = Ok (record { names = name ∷ words.names; left = words.left })

-- a name in front of more
abbrev pub with_name : Option (List ℕ) → List ℕ → Part Words → Part Words
with_name (Some name) line more = and_then more (add_name name)
with_name None line more = stuck line

abbrev pub no_words : List ℕ → Part Words
no_words line = Ok (record { names = []; left = line })

-- how many bytes behind the first belong to a name and the blanks behind it
abbrev pub word_length : List ℕ → ℕ
word_length rest = front_length is_name_byte rest + front_length is_blank (behind is_name_byte rest)

-- the names from a byte on, where `go` reads on and passes over so many bytes first
abbrev pub words_or : ℕ → ℕ → List ℕ → (ℕ → Part Words) → Part Words
words_or (suc more) byte rest go = go more
words_or zero byte rest go =
    if is_name_byte byte then with_name (name_of (folded (take_while is_name_byte (byte ∷ rest)))) (byte ∷ rest) (go (word_length rest))
    else no_words (byte ∷ rest)

-- the names in front of a line, of which the first bytes belong to what stands before
abbrev pub words_from : List ℕ → ℕ → Part Words
words_from [] more = no_words []
words_from (byte ∷ rest) more = words_or more byte rest (words_from rest)

-- the names in front of a line
abbrev pub words : List ℕ → Part Words
words line = words_from line 0

-- the line ends
abbrev pub ended : Step → List ℕ → Part Step
ended step [] = Ok step
ended step (byte ∷ rest) = stuck (byte ∷ rest)

-- behind the names of a step
abbrev pub closed : Step → List ℕ → Part Step
closed step line = and_then (past 41 line) (λ rest. and_then (past_cost rest) (ended step))

-- behind the action of a step
abbrev pub with_action : Word → Part Step
with_action action = and_then (words action.left) (λ args. closed (record { action = action.name; args = args.names }) args.left)

-- a number and `:` or nothing, then `(`, a name, names, `)`, then `[`, a number and `]` or nothing
abbrev pub step : List ℕ → Part Step
step line = and_then (past_label line) (λ rest. and_then (past 40 rest) (λ inside. and_then (word inside) with_action))

abbrev pub some_step : List ℕ → Part (Option Step)
some_step [] = Ok None
some_step (byte ∷ rest) = and_then (step (byte ∷ rest)) (λ step. Ok (Some step))

-- the step of a line, if the line isn't blank
abbrev pub line_step : List ℕ → Part (Option Step)
line_step line = some_step (behind is_blank line)

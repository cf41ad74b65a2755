-- The lines of a text.
use Rattle.std.specs.Prelude.{ℕ, ◌==◌, ◌&&◌, not, Bool, List, [], ◌∷◌, take_while, if◌then◌else◌}
use Rattle.plan_text.specs.Bytes.{first}

-- lines, the first of which has a byte more in front
abbrev pub in_front : ℕ → List (List ℕ) → List (List ℕ)
in_front byte [] = (byte ∷ []) ∷ []
in_front byte (line ∷ lines) = (byte ∷ line) ∷ lines

-- a carriage return before a line feed
abbrev pub is_return : ℕ → List ℕ → Bool
is_return byte rest = (byte == 13) && (first rest == 10)

-- the lines of a text, without the line feeds that end them and the carriage returns before these
abbrev pub lines : List ℕ → List (List ℕ)
lines [] = []
lines (byte ∷ rest) =
    if byte == 10 then [] ∷ lines rest
    else if is_return byte rest then lines rest
    else in_front byte (lines rest)

abbrev pub is_in_line : ℕ → Bool
is_in_line byte = not (byte == 10)

-- a line without the carriage return that ends it
abbrev pub without_return : List ℕ → List ℕ
without_return [] = []
without_return (byte ∷ []) = if byte == 13 then [] else byte ∷ []
without_return (byte ∷ other ∷ rest) = byte ∷ without_return (other ∷ rest)

abbrev pub is_before_comment : ℕ → Bool
is_before_comment byte = not (byte == 59)

-- a line without its comment
abbrev pub content : List ℕ → List ℕ
content line = take_while is_before_comment line

-- Texts that are split at a byte.
use Rattle.std.specs.Prelude.{ℕ, ◌==◌, not, Bool, List, [], ◌∷◌, if◌then◌else◌, Option, Some, None}

-- pieces, the first of which has a byte more in front
abbrev pub in_front : ℕ → List (List ℕ) → List (List ℕ)
in_front byte [] = (byte ∷ []) ∷ []
in_front byte (piece ∷ pieces) = (byte ∷ piece) ∷ pieces

-- what stands before, between and behind the bytes of this kind
abbrev pub split : ℕ → List ℕ → List (List ℕ)
split at [] = [] ∷ []
split at (byte ∷ rest) = if byte == at then [] ∷ split at rest else in_front byte (split at rest)

-- the pieces of a text, if there is one
abbrev pub pieces : ℕ → Option (List ℕ) → List (List ℕ)
pieces at None = []
pieces at (Some text) = split at text

abbrev pub is_other : ℕ → ℕ → Bool
is_other at byte = not (byte == at)

-- the words of a line, which single spaces separate
abbrev pub words : List ℕ → List (List ℕ)
words line = split 32 line

-- the lines of a text, and behind them what no line feed ends
abbrev pub lines : List ℕ → List (List ℕ)
lines text = split 10 text

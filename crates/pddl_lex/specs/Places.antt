-- Places of a text.
use Rattle.std.specs.Prelude.{ℕ, ◌+◌, ◌-◌, ◌^◌, ◌==◌, min, List, [], ◌∷◌, length, reverse, count_by, take_while, not, Bool, if◌then◌else◌}
use Rattle.up_text.specs.declared.place.Place.{Place}

abbrev pub is_line_feed : ℕ → Bool
is_line_feed byte = byte == 10

abbrev pub is_in_line : ℕ → Bool
is_in_line byte = not (byte == 10)

-- cut off at the greatest number that a place holds
abbrev pub cut : ℕ → ℕ
cut n = min n (2 ^ 32 - 1)

-- the bytes behind the last line feed, the last one first
abbrev pub last_line : List ℕ → List ℕ
last_line text = take_while is_in_line (reverse text)

-- the place behind a text: its line feeds, and the bytes of its last line, each counted from 1
unfoldable pub place_behind : List ℕ → Place
place_behind text = record { line = cut (1 + count_by is_line_feed text); column = cut (1 + length (last_line text)) }

abbrev pub start : Place
start = record { line = 1; column = 1 }

-- the place behind one more byte
abbrev pub after_byte : Place → ℕ → Place
after_byte place byte =
    if byte == 10 then record { line = cut (place.line + 1); column = 1 }
    else record { line = place.line; column = cut (place.column + 1) }

abbrev pub after_bytes : Place → List ℕ → Place
after_bytes place [] = place
after_bytes place (byte ∷ bytes) = after_bytes (after_byte place byte) bytes

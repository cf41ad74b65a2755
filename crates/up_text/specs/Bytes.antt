-- Classes of ASCII bytes.
use Rattle.std.specs.Prelude.{ℕ, ◌+◌, ◌==◌, ◌&&◌, ◌||◌, Bool, List, [], ◌∷◌, length, take_while, nat_le, if◌then◌else◌}

-- white space of a PDDL text: tab, line feed, form feed, carriage return, space
abbrev pub is_blank : ℕ → Bool
is_blank byte = (byte == 9) || (byte == 10) || (byte == 12) || (byte == 13) || (byte == 32)

-- a space or a tab
abbrev pub is_line_blank : ℕ → Bool
is_line_blank byte = (byte == 32) || (byte == 9)

abbrev pub is_lower : ℕ → Bool
is_lower byte = nat_le 97 byte && nat_le byte 122

abbrev pub is_letter : ℕ → Bool
is_letter byte = (nat_le 65 byte && nat_le byte 90) || (nat_le 97 byte && nat_le byte 122)

abbrev pub is_digit : ℕ → Bool
is_digit byte = nat_le 48 byte && nat_le byte 57

-- a letter, a digit, `-` or `_`
abbrev pub is_name_byte : ℕ → Bool
is_name_byte byte = is_letter byte || is_digit byte || (byte == 45) || (byte == 95)

-- a letter in lower case, and any other byte as it is
abbrev pub fold_byte : ℕ → ℕ
fold_byte byte = if nat_le 65 byte && nat_le byte 90 then byte + 32 else byte

-- the first byte, or 0 where there is none
abbrev pub first : List ℕ → ℕ
first [] = 0
first (byte ∷ bytes) = byte

-- how many bytes in front pass a test
abbrev pub front_length : (ℕ → Bool) → List ℕ → ℕ
front_length test bytes = length (take_while test bytes)

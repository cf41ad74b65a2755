-- The bytes of plan texts.
use Rattle.std.specs.Prelude.{ℕ, ◌==◌, ◌&&◌, ◌||◌, Bool, List, [], ◌∷◌, length, take_while, drop, nat_le}

-- a space or a tab
abbrev pub is_blank : ℕ → Bool
is_blank byte = (byte == 32) || (byte == 9)

abbrev pub is_digit : ℕ → Bool
is_digit byte = nat_le 48 byte && nat_le byte 57

abbrev pub is_letter : ℕ → Bool
is_letter byte = (nat_le 65 byte && nat_le byte 90) || (nat_le 97 byte && nat_le byte 122)

abbrev pub is_name_byte : ℕ → Bool
is_name_byte byte = is_letter byte || is_digit byte || (byte == 45) || (byte == 95)

-- the first byte, or 0 where there is none
abbrev pub first : List ℕ → ℕ
first [] = 0
first (byte ∷ bytes) = byte

-- how many bytes in front pass a test
abbrev pub front_length : (ℕ → Bool) → List ℕ → ℕ
front_length test bytes = length (take_while test bytes)

-- what stands behind these
abbrev pub behind : (ℕ → Bool) → List ℕ → List ℕ
behind test bytes = drop (front_length test bytes) bytes

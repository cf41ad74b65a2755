-- What a line shows.
use Rattle.std.specs.Prelude.{ℕ, ◌+◌, ◌-◌, ◌^◌, List, [], ◌++◌, length, take}

-- the bytes that found room, the room that is left, and how many more bytes can be counted
pub record Sheet : Type 0 where
  pub text : List ℕ
  pub free : ℕ
  pub left : ℕ

-- an empty one with room for so many bytes
unfoldable pub blank : ℕ → Sheet
blank n = record { text = []; free = n; left = 2 ^ 64 - 1 }

-- the bytes put behind what stands there
unfoldable pub after : Sheet → List ℕ → Sheet
after s bytes = record { text = s.text ++ take s.free bytes; free = s.free - length bytes; left = s.left - length bytes }

abbrev pub room : Sheet → ℕ
room s = length s.text + s.free

-- What stands in a text, said apart from how the text is read.
use Rattle.std.specs.Prelude.{◌≡◌, ◌≢◌, ◌⊎◌, ℕ, ◌+◌, ◌-◌, ◌≤◌, ◌<◌, ◌==◌, ◌||◌, ◌&&◌, not, Bool, true, false, List, [], ◌∷◌, ◌++◌, length, map, Ok, Err}
use Rattle.std.specs.List.{list_all}
use Rattle.pddl_lex.specs.declared.shape.Shape.{Shape}
use Rattle.pddl_lex.specs.declared.shape.Shape.TheVariants.{Open, Close, Word, Variable, Keyword, Number, Sign as SignShape}
use Rattle.pddl_lex.specs.declared.tree.Sign.{Sign}
use Rattle.pddl_lex.specs.declared.tree.Sign.TheVariants.{Minus, Plus, Times, Slash, Less, LessEqual, Same, GreaterEqual, Greater}
use Rattle.pddl_lex.specs.declared.tree.Token.{Token}
use Rattle.pddl_lex.specs.Bytes.{is_blank, is_letter, is_digit, is_name_byte, first}
use Rattle.pddl_lex.specs.declared.error.LexError.TheVariants.{BadByte, BadNumber}
use Rattle.pddl_lex.specs.Items.{Item, kind_of}
use Rattle.pddl_lex.specs.Places.{is_in_line, place_behind}

-- the text is at its end, or its first byte fails the test
abbrev pub stops : (ℕ → Bool) → List ℕ → Bool
stops test [] = true
stops test (byte ∷ rest) = not (test byte)

-- a letter and bytes of a name
abbrev pub IsName : List ℕ → Type 0
IsName [] = ⊥
IsName (byte ∷ behind) = (is_letter byte ≡ true) × (list_all is_name_byte behind ≡ true)

-- nothing, or a point and one to nine digits
pub data IsFraction (bytes : List ℕ) : Type 0 where
  none : bytes ≡ [] → IsFraction bytes
  digits : (behind : List ℕ) → bytes ≡ 46 ∷ behind → list_all is_digit behind ≡ true → 1 ≤ length behind → length behind ≤ 9 → IsFraction bytes

-- digits and then a fraction, at most 18 digits with the one that may stand before
pub record IsUnsigned (before : ℕ) (bytes : List ℕ) : Type 0 where
  pub whole : List ℕ
  pub fraction : List ℕ
  pub parts : bytes ≡ whole ++ fraction
  pub whole_digits : list_all is_digit whole ≡ true
  pub is_fraction : IsFraction fraction
  pub few : before + length whole + (length fraction - 1) ≤ 18

-- a number, by its first byte and those behind
pub data IsNumber (byte : ℕ) (behind : List ℕ) : Type 0 where
  plain : is_digit byte ≡ true → IsUnsigned 1 behind → IsNumber byte behind
  negative : byte ≡ 45 → (digit : ℕ) (others : List ℕ) → behind ≡ digit ∷ others → is_digit digit ≡ true → IsUnsigned 0 behind → IsNumber byte behind

-- a byte with which a number begins
abbrev pub IsNumberByte : ℕ → Type 0
IsNumberByte byte = (byte ≡ 45) ⊎ (is_digit byte ≡ true)

-- the bytes of each sign
abbrev pub sign_bytes : Sign → List ℕ
sign_bytes Minus = 45 ∷ []
sign_bytes Plus = 43 ∷ []
sign_bytes Times = 42 ∷ []
sign_bytes Slash = 47 ∷ []
sign_bytes Less = 60 ∷ []
sign_bytes LessEqual = 60 ∷ 61 ∷ []
sign_bytes Same = 61 ∷ []
sign_bytes GreaterEqual = 62 ∷ 61 ∷ []
sign_bytes Greater = 62 ∷ []

-- the bytes of a token of this shape
abbrev pub HasShape : Shape → ℕ → List ℕ → Type 0
HasShape Open byte behind = byte ∷ behind ≡ 40 ∷ []
HasShape Close byte behind = byte ∷ behind ≡ 41 ∷ []
HasShape Word byte behind = IsName (byte ∷ behind)
HasShape Variable byte behind = (byte ≡ 63) × IsName behind
HasShape Keyword byte behind = (byte ≡ 58) × IsName behind
HasShape Number byte behind = IsNumber byte behind
HasShape (SignShape sign) byte behind = byte ∷ behind ≡ sign_bytes sign

-- a token of this shape is as long as it can be before this text
abbrev pub Ends : Shape → List ℕ → Type 0
Ends Word rest = stops is_name_byte rest ≡ true
Ends Variable rest = stops is_name_byte rest ≡ true
Ends Keyword rest = stops is_name_byte rest ≡ true
Ends Number rest = stops (λ byte. is_name_byte byte || byte == 46) rest ≡ true
Ends (SignShape Minus) rest = stops is_digit rest ≡ true
Ends (SignShape Less) rest = stops (λ byte. byte == 61) rest ≡ true
Ends (SignShape Greater) rest = stops (λ byte. byte == 61) rest ≡ true
Ends shape rest = Unit {0}

-- No token begins with this byte before these.
abbrev pub BeginsNone : ℕ → List ℕ → Type 0
BeginsNone byte rest = (shape : Shape) (behind more : List ℕ) → rest ≡ behind ++ more → ¬ HasShape shape byte behind

-- a point and a digit stand in front
abbrev pub has_decimals : List ℕ → Bool
has_decimals [] = false
has_decimals (point ∷ []) = false
has_decimals (point ∷ digit ∷ rest) = (point == 46) && is_digit digit

-- nothing, or a point and digits, as many as stand there before the rest
pub data IsLongFraction (bytes rest : List ℕ) : Type 0 where
  no_more : bytes ≡ [] → has_decimals rest ≡ false → IsLongFraction bytes rest
  all_digits : (behind : List ℕ) → bytes ≡ 46 ∷ behind → list_all is_digit behind ≡ true → 1 ≤ length behind → stops is_digit rest ≡ true
      → IsLongFraction bytes rest

-- a number of so many digits, so many of them behind its point, that is none before the rest
pub data IsWrong (count places : ℕ) (rest : List ℕ) : Type 0 where
  too_long : 18 < count → IsWrong count places rest
  too_many_places : 9 < places → IsWrong count places rest
  followed : stops (λ byte. is_name_byte byte || byte == 46) rest ≡ false → IsWrong count places rest

-- digits and then a fraction, as many as stand there, but no number before the rest
pub record IsBadUnsigned (before : ℕ) (bytes rest : List ℕ) : Type 0 where
  pub whole : List ℕ
  pub fraction : List ℕ
  pub parts : bytes ≡ whole ++ fraction
  pub whole_digits : list_all is_digit whole ≡ true
  pub whole_stops : stops is_digit (fraction ++ rest) ≡ true
  pub is_fraction : IsLongFraction fraction rest
  pub wrong : IsWrong (before + length whole + (length fraction - 1)) (length fraction - 1) rest

-- the digits of a number that is none before the rest
pub data IsBadNumber (byte : ℕ) (behind rest : List ℕ) : Type 0 where
  bad_plain : is_digit byte ≡ true → IsBadUnsigned 1 behind rest → IsBadNumber byte behind rest
  bad_negative : byte ≡ 45 → is_digit (first (behind ++ rest)) ≡ true → IsBadUnsigned 0 behind rest → IsBadNumber byte behind rest

-- What stands in a text, behind the text before it: blanks, comments, tokens, each as long as it can be, and faults.
pub data Stands : List ℕ → List ℕ → List Item → Type 0 where
  nothing : (before : List ℕ) → Stands before [] []
  blank : (before : List ℕ) (byte : ℕ) (rest : List ℕ) (items : List Item)
      → is_blank byte ≡ true → Stands (before ++ byte ∷ []) rest items → Stands before (byte ∷ rest) items
  comment : (before line rest : List ℕ) (items : List Item)
      → list_all is_in_line line ≡ true → stops is_in_line rest ≡ true
      → Stands (before ++ 59 ∷ line) rest items → Stands before (59 ∷ (line ++ rest)) items
  token : (before : List ℕ) (shape : Shape) (byte : ℕ) (behind rest : List ℕ) (items : List Item)
      → HasShape shape byte behind → Ends shape rest → Stands (before ++ byte ∷ behind) rest items
      → Stands before (byte ∷ (behind ++ rest)) (Ok (record { kind = kind_of shape byte behind; place = place_behind before }) ∷ items)
  bad_byte : (before : List ℕ) (byte : ℕ) (rest : List ℕ) (items : List Item)
      → is_blank byte ≡ false → byte ≢ 59 → BeginsNone byte rest → Stands (before ++ byte ∷ []) rest items
      → Stands before (byte ∷ rest) (Err (BadByte (place_behind before)) ∷ items)
  bad_number : (before : List ℕ) (byte : ℕ) (behind rest : List ℕ) (items : List Item)
      → IsBadNumber byte behind rest → Stands (before ++ byte ∷ behind) rest items
      → Stands before (byte ∷ (behind ++ rest)) (Err (BadNumber (place_behind before)) ∷ items)

-- The tokens spell the text.
abbrev pub SpelledBy : List ℕ → List Token → Type 0
SpelledBy text tokens = Stands [] text (map Ok tokens)

-- What stands at a byte of a text.
use Rattle.std.specs.Prelude.{ℕ, ◌+◌, ◌-◌, ◌==◌, ◌||◌, min, nat_lt, List, [], ◌∷◌, drop, if◌then◌else◌}
use Rattle.pddl_lex.specs.declared.tree.Sign.{Sign}
use Rattle.pddl_lex.specs.declared.tree.Sign.TheVariants.{Minus, Plus, Times, Slash, Less, LessEqual, Same, GreaterEqual, Greater}
use Rattle.pddl_lex.specs.declared.shape.Shape.{Shape}
use Rattle.pddl_lex.specs.declared.shape.Shape.TheVariants.{Open, Close, Word, Variable, Keyword, Number, Sign as SignShape}
use Rattle.pddl_lex.specs.declared.shape.Next.{Next}
use Rattle.pddl_lex.specs.declared.shape.Next.TheVariants.{Blank, Piece, BadByte, BadNumber}
use Rattle.pddl_lex.specs.Bytes.{is_blank, is_letter, is_digit, is_name_byte, first, front_length}
use Rattle.pddl_lex.specs.Places.{is_in_line}

-- how many bytes behind the first belong to what stands there
abbrev pub more_of : Next → ℕ
more_of (Blank more) = more
more_of (Piece shape more) = more
more_of BadByte = 0
more_of (BadNumber more) = more

unfoldable pub name_behind : Shape → List ℕ → Next
name_behind shape behind =
    if is_letter (first behind) then Piece shape (front_length is_name_byte behind) else BadByte

-- a point and digits, or nothing
abbrev pub with_point : ℕ → ℕ
with_point count = if count == 0 then 0 else 1 + count

abbrev pub fraction_behind : ℕ → List ℕ → ℕ
fraction_behind byte digits = if byte == 46 then with_point (front_length is_digit digits) else 0

unfoldable pub fraction_length : List ℕ → ℕ
fraction_length [] = 0
fraction_length (byte ∷ digits) = fraction_behind byte digits

-- the number of so many digits before the point and bytes from it on, if these are not too many
abbrev pub number_of : ℕ → ℕ → ℕ → ℕ → Next
number_of before whole fraction next =
    if is_name_byte next || next == 46 || nat_lt 18 (before + whole + (fraction - min fraction 1)) || nat_lt 10 fraction
    then BadNumber (whole + fraction) else Piece Number (whole + fraction)

unfoldable pub number : ℕ → List ℕ → Next
number before behind =
    let whole = front_length is_digit behind in
    let fraction = fraction_length (drop whole behind) in
    number_of before whole fraction (first (drop (whole + fraction) behind))

unfoldable pub minus : List ℕ → Next
minus behind = if is_digit (first behind) then number 0 behind else Piece (SignShape Minus) 0

unfoldable pub sign_or : Sign → Sign → List ℕ → Next
sign_or plain equal behind = if first behind == 61 then Piece (SignShape equal) 1 else Piece (SignShape plain) 0

unfoldable pub sign : ℕ → List ℕ → Next
sign byte behind =
    if byte == 40 then Piece Open 0
    else if byte == 41 then Piece Close 0
    else if byte == 42 then Piece (SignShape Times) 0
    else if byte == 43 then Piece (SignShape Plus) 0
    else if byte == 45 then minus behind
    else if byte == 47 then Piece (SignShape Slash) 0
    else if byte == 58 then name_behind Keyword behind
    else if byte == 59 then Blank (front_length is_in_line behind)
    else if byte == 60 then sign_or Less LessEqual behind
    else if byte == 61 then Piece (SignShape Same) 0
    else if byte == 62 then sign_or Greater GreaterEqual behind
    else if byte == 63 then name_behind Variable behind
    else BadByte

unfoldable pub next : ℕ → List ℕ → Next
next byte behind =
    if is_blank byte then Blank 0
    else if is_letter byte then Piece Word (front_length is_name_byte behind)
    else if is_digit byte then number 1 behind
    else sign byte behind

-- What stands in a text from byte to byte: tokens and faults, each with its place.
use Rattle.std.specs.Prelude.{ℕ, zero, suc, List, [], ◌∷◌, ◌++◌, take, map, Result, Ok, Err, Option, Some, None}
use Rattle.up_text.specs.declared.place.Place.{Place}
use Rattle.pddl_lex.specs.declared.shape.Shape.{Shape}
use Rattle.pddl_lex.specs.declared.shape.Shape.TheVariants as shape
use Rattle.pddl_lex.specs.declared.shape.Next.{Next}
use Rattle.pddl_lex.specs.declared.shape.Next.TheVariants as next
use Rattle.pddl_lex.specs.declared.tree.Token.{Token}
use Rattle.pddl_lex.specs.declared.tree.TokenKind.{TokenKind}
use Rattle.pddl_lex.specs.declared.tree.TokenKind.TheVariants.{Open, Close, Word, Variable, Keyword, Number, Sign}
use Rattle.pddl_lex.specs.declared.error.LexError.{LexError}
use Rattle.pddl_lex.specs.declared.error.LexError.TheVariants.{BadByte, BadNumber}
use Rattle.pddl_lex.specs.Bytes.{fold_byte}
use Rattle.pddl_lex.specs.Decimals.{literal}
use Rattle.pddl_lex.specs.Next.{next, more_of}
use Rattle.pddl_lex.specs.Places.{start, after_byte}

-- the kind of a token of this shape, by its first byte and those behind
abbrev pub kind_of : Shape → ℕ → List ℕ → TokenKind
kind_of shape.Open byte behind = Open
kind_of shape.Close byte behind = Close
kind_of shape.Word byte behind = Word (fold_byte byte ∷ map fold_byte behind)
kind_of shape.Variable byte behind = Variable (map fold_byte behind)
kind_of shape.Keyword byte behind = Keyword (map fold_byte behind)
kind_of shape.Number byte behind = Number (literal byte behind)
kind_of (shape.Sign sign) byte behind = Sign sign

-- a token or a fault
abbrev pub Item : Type 0
Item = Result Token LexError

-- what stands at a byte, where it is no blank and no comment
abbrev pub items_at : Next → Place → ℕ → List ℕ → List Item
items_at (next.Blank more) place byte behind = []
items_at (next.Piece shape more) place byte behind = Ok (record { kind = kind_of shape byte (take more behind); place = place }) ∷ []
items_at next.BadByte place byte behind = Err (BadByte place) ∷ []
items_at (next.BadNumber more) place byte behind = Err (BadNumber place) ∷ []

-- what stands at a byte and behind it, where `go` reads on and passes over so many bytes first
abbrev pub items_on : Next → Place → ℕ → List ℕ → (ℕ → List Item) → List Item
items_on here place byte behind go = items_at here place byte behind ++ go (more_of here)

abbrev pub items_or : ℕ → Place → ℕ → List ℕ → (ℕ → Place → List Item) → List Item
items_or (suc more) place byte behind go = go more (after_byte place byte)
items_or zero place byte behind go = items_on (next byte behind) place byte behind (λ more. go more (after_byte place byte))

-- what stands in the rest of a text, of which the first bytes belong to what stands before
abbrev pub items_from : List ℕ → ℕ → Place → List Item
items_from [] more place = []
items_from (byte ∷ behind) more place = items_or more place byte behind (items_from behind)

-- what stands in a text
unfoldable pub items : List ℕ → List Item
items text = items_from text 0 start

-- the item of a token, where there is one
abbrev pub item_of : Option Token → List Item
item_of None = []
item_of (Some token) = Ok token ∷ []

-- the faults among items
abbrev pub errors : List Item → List LexError
errors [] = []
errors (Ok token ∷ items) = errors items
errors (Err fault ∷ items) = fault ∷ errors items

-- Texts as lists of pieces.
use Rattle.std.specs.Prelude.{◌≡◌, ◌≢◌, ℕ, max, List, [], ◌∷◌, length, Option, None, Some}
use Rattle.up_line.specs.Sheet.{Sheet, after}

-- the length of the longest piece
unfoldable pub longest : List (List ℕ) → ℕ
longest [] = 0
longest (piece ∷ pieces) = max (length piece) (longest pieces)

-- the first piece, where there is one
abbrev pub first : List (List ℕ) → List ℕ
first [] = []
first (piece ∷ pieces) = piece

-- the first piece was put, and these are left
pub record StepsFrom (old new : Sheet) (pieces rest : List (List ℕ)) : Type 0 where
  pub put : new ≡ after old (first pieces)
  pub left : pieces ≡ first pieces ∷ rest
  pub some : first pieces ≢ []

-- the same, or nothing was put since none is left
abbrev pub StepsOn : Sheet → Sheet → List (List ℕ) → Option (List (List ℕ)) → Type 0
StepsOn old new pieces (Some rest) = StepsFrom old new pieces rest
StepsOn old new pieces None = (pieces ≡ []) × (new ≡ old)

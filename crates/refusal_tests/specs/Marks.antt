-- Texts with a mark, the byte `@`.
use Rattle.std.specs.Prelude.{◌≡◌, ℕ, ◌==◌, Bool, IsTrue, List, ◌∷◌, ◌++◌}
use Rattle.std.specs.List.{list_any}

abbrev pub is_mark : ℕ → Bool
is_mark byte = byte == 64

abbrev pub HasMark : List ℕ → Type 0
HasMark text = IsTrue (list_any is_mark text)

-- `before` and `after` are the two sides of the first mark of `text`
pub record IsDivided (text before after : List ℕ) : Type 0 where
  pub whole : text ≡ before ++ 64 ∷ after
  pub first : ¬ HasMark before

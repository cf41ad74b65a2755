-- What a text that is handed out piece by piece shows.
use Rattle.std.specs.Prelude.{ℕ, List}

-- the bytes that are still to come, and the piece that was gone to last
pub record Handed : Type 0 where
  pub rest : List ℕ
  pub current : List ℕ

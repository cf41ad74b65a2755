-- What a set of names that makes fresh ones keeps.
use Rattle.std.specs.Prelude.{◌≡◌, ℕ, List, nat_eq, Some}
use Rattle.std.specs.Cmp.Lexicographic.{pointwise}
use Rattle.indexmap.specs.IndexMap.{IndexMap, get}
use Rattle.up_text.specs.Fresh.{AreTaken}

-- below the number of each base all candidates are taken
pub record IsGoing {S : Type 0} (names : List (List ℕ)) (last : IndexMap (List ℕ) ℕ S) : Type 0 where
  pub taken : (base : List ℕ) (n : ℕ) → get (pointwise nat_eq) last base ≡ Some n → AreTaken base names n

-- Texts that are handed out piece by piece.
use Rattle.std.proofs.Common.{◌≡◌, ◌≢◌, ◌∙◌, ℕ, ◌<◌, List, [], ◌∷◌, ◌++◌, length, refl, sym, ap, append_assoc, arith}
use Rattle.std.proofs.lemmas.List.{length-append}
use Rattle.up_store.specs.Outside.{IsSuffix}

pub whole_is_suffix : (whole : List ℕ) → IsSuffix whole whole
whole_is_suffix whole = record { front = []; joined = refl }

-- what is left behind a piece of a suffix
pub suffix_behind : (rest current left whole : List ℕ) → rest ≡ current ++ left → IsSuffix rest whole → IsSuffix left whole
suffix_behind rest current left whole step suffix = record {
  front = suffix.front ++ current;
  joined = suffix.joined ∙ ap (λ x. suffix.front ++ x) step ∙ sym (append_assoc suffix.front current left);
}

-- what is left behind a front and a piece
pub suffix_of_joined : (front rest current left whole : List ℕ) → front ++ rest ≡ whole → rest ≡ current ++ left → IsSuffix left whole
suffix_of_joined front rest current left whole all step =
    suffix_behind rest current left whole step (record { front = front; joined = sym all })

some_bytes : (current left : List ℕ) → current ≢ [] → length left < length (current ++ left)
some_bytes [] left some = absurd (some refl)
some_bytes (byte ∷ current) left some = rw (length-append (byte ∷ current) left) (omega arith)

pub is_shorter : (rest current left : List ℕ) → rest ≡ current ++ left → current ≢ [] → length left < length rest
is_shorter rest current left step some = rw step (some_bytes current left some)

pub ruleset pieces = (whole_is_suffix, suffix_behind, suffix_of_joined, is_shorter)

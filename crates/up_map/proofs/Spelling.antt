-- The text of a map spells it, and is read as it.
use Rattle.std.proofs.Common.{◌≡◌, ℕ, ◌+◌, ◌<◌, List, [], ◌∷◌, ◌++◌, length, take, get_or, Option, Some, None, Ok, refl, sym, ◌∙◌, subst}
use Rattle.std.proofs.lemmas.List.{take_more}
use Rattle.up_text.specs.Lists.{Every}
use Rattle.up_map.specs.declared.map.Map.{Map}
use Rattle.up_map.specs.declared.map_error.MapError.{MapError}
use Rattle.up_map.specs.declared.map_error.MapError.TheVariants.{Memory, Bad, DoubleName}
use Rattle.up_map.specs.Texts.{map_text}
use Rattle.up_map.specs.Reading.{map_of, first_fault}
use Rattle.up_map.specs.Spells.{IsMap, MapText}
use Rattle.up_map.proofs.Laws.{spelled_read, spelled_faultless, spelled_one}

every_last : {X : Type 0} (P : X → Type 0) (xs : List X) (x : X) → Every P xs → P x → Every P (xs ++ x ∷ [])
every_last P [] x all is = (is, tt)
every_last P (y ∷ xs) x all is = (all.0, every_last P xs x all.1 is)

-- one element more
pub every_taken : {X : Type 0} (P : X → Type 0) (xs : List X) (i : ℕ) (x : X) → i < length xs → x ≡ get_or xs i x → Every P (take i xs) → P x
    → Every P (take (i + 1) xs)
every_taken P xs i x within at all is =
    subst (Every P) (sym (take_more xs i x within)) (every_last P (take i xs) (get_or xs i x) all (subst P at is))

pub written_spelled : (m : Map) → IsMap m → MapText (map_text m) m
written_spelled m is = record { lines = refl; is_map = is }

pub written_one : (m other : Map) → IsMap m → MapText (map_text m) other → other ≡ m
written_one m other is spelled = spelled_one (map_text m) other m spelled (written_spelled m is)

pub written_read : (m : Map) → IsMap m → map_of (map_text m) ≡ Ok m
written_read m is = spelled_read (map_text m) m (written_spelled m is)

-- a text that spells a map has no faulty line
some_none : {X : Type 0} (x : X) (found : Option X) → found ≡ Some x → found ≡ None → ⊥
some_none x found some none = let bad : Some x ≡ None = sym some ∙ none in cc

pub memory_alone : (text : List ℕ) (m : Map) (fault : MapError) → MapText text m → (¬ (fault ≡ Memory) → first_fault text ≡ Some fault)
    → fault ≡ Memory
memory_alone text m Memory spelled stops = refl
memory_alone text m (Bad line) spelled stops =
    absurd (some_none (Bad line) (first_fault text) (stops (λ same. cc)) (spelled_faultless text m spelled))
memory_alone text m (DoubleName line) spelled stops =
    absurd (some_none (DoubleName line) (first_fault text) (stops (λ same. cc)) (spelled_faultless text m spelled))
